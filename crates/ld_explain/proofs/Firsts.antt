-- First occurrences, where more is seen.
use Rattle.ld_explain.proofs.Names.{◌↔◌, ◌≡◌, ◌⊎◌, AreFirsts, AsNew, Fact, IsKnown, NoLater, None, Option, Origin, OriginParts, PutsOrigin, Some, arith, inl, inr, refl, subst, sym, ℕ}

AsNew-itself : (held : Option ℕ) → AsNew held held
AsNew-itself None = tt
AsNew-itself (Some i) = omega arith

NoLater-itself : (o : Origin) → NoLater o o
NoLater-itself o = inr (refl, inr (refl, AsNew-itself o.held))

module _ (P Q : Fact → Origin → Type 0) where
  -- the same occurrences
  pub AreFirsts-same : (parts : OriginParts) → ((x : Fact) (o : Origin) → P x o ↔ Q x o) → AreFirsts P parts → AreFirsts Q parts
  AreFirsts-same parts same firsts = record {
    seen = λ x o has. (same x o).0 (firsts.seen x o has);
    first = λ x o other has seen. firsts.first x o other has ((same x other).1 seen);
    all = λ x o seen. firsts.all x o ((same x o).1 seen);
  }

  -- one more, no earlier than those of its fact
  pub AreFirsts-put : (old new : OriginParts) (fact : Fact) (origin : Origin) → PutsOrigin old new fact origin →
      ((x : Fact) (o : Origin) → P x o → Q x o) → Q fact origin →
      ((x : Fact) (o : Origin) → Q x o → P x o ⊎ ((x ≡ fact) × (o ≡ origin))) →
      ((o : Origin) → P fact o → NoLater o origin) →
      AreFirsts P old → AreFirsts Q new
  AreFirsts-put old new fact origin puts up here down later firsts = record {
    seen = λ x o has. elim (puts.there x o has) [
      | inl was ↦ up x o (firsts.seen x o was)
      | inr is ↦ subst (λ y. Q y o) (sym is.0) (subst (Q fact) (sym is.1) here)
    ];
    first = λ x o other has seen. elim (puts.there x o has) [
      | inl was ↦ elim (down x other seen) [
        | inl p ↦ firsts.first x o other was p
        | inr is ↦ subst (NoLater o) (sym is.1) (later o (subst (λ y. P y o) is.0 (firsts.seen x o was)))
      ]
      | inr is ↦ elim (down x other seen) [
        | inl p ↦ absurd (is.2 (firsts.all fact other (subst (λ y. P y other) is.0 p)))
        | inr that ↦ subst (λ y. NoLater y other) (sym is.1) (subst (NoLater origin) (sym that.1) (NoLater-itself origin))
      ]
    ];
    all = λ x o seen. elim (down x o seen) [
      | inl p ↦ let k = firsts.all x o p in (k.0, puts.keeps x k.0 k.1)
      | inr is ↦ subst (IsKnown new) (sym is.0) puts.has
    ];
  }
