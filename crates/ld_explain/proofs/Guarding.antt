-- What guards occurrences, where more are seen.
use Rattle.ld_explain.proofs.Names.{◌↔◌, ◌∙◌, ◌≡◌, ◌⊎◌, AreGuards, Contains, Fact, Guard, GuardParts, GuardsAt, HasGuard, IsKept, List, Origin, PutsGuard, Some, View, ap, inl, inr, same_Some, subst, sym, ℕ}

module _ (view : View) (P Q : Fact → Origin → Type 0) where
  -- the same occurrences
  pub AreGuards-same : (parts : GuardParts) → ((x : Fact) (o : Origin) → P x o ↔ Q x o) → AreGuards view P parts → AreGuards view Q parts
  AreGuards-same parts same are = record {
    all = λ x o q. are.all x o ((same x o).1 q);
    gates = λ x g has key. let r = are.gates x g has key in (
      (λ c o q. r.0 c o ((same x o).1 q)),
      (λ h. r.1 (λ o p. h o ((same x o).0 p))),
    );
    only = λ x g has trace. let r = are.only x g has trace in (
      (λ e o q. r.0 e o ((same x o).1 q)),
      (λ h. r.1 (λ o p. h o ((same x o).0 p))),
    );
  }

  -- one more
  module _ (old new : GuardParts) (fact : Fact) (at : Origin) (gates : List ℕ) (puts : PutsGuard old new fact at.trace gates)
      (guard : (key : ℕ) → Contains gates key ↔ GuardsAt view key at)
      (up : (x : Fact) (o : Origin) → P x o → Q x o) (here : Q fact at)
      (down : (x : Fact) (o : Origin) → Q x o → P x o ⊎ ((x ≡ fact) × (o ≡ at)))
      (are : AreGuards view P old) where
    -- what holds of all of them
    abbrev AreGuardsFor : Fact → Guard → Type 0
    AreGuardsFor x g = ((key : ℕ) → Contains g.gates.items key ↔ ((o : Origin) → Q x o → GuardsAt view key o))
        × ((trace : ℕ) → (g.only ≡ Some trace) ↔ ((o : Origin) → Q x o → o.trace ≡ trace))

    for_others : (x : Fact) (g : Guard) → HasGuard old x g → ¬ (x ≡ fact) → AreGuardsFor x g
    for_others x g has other = (
      (λ key. let r = are.gates x g has key in (
        (λ c o q. elim (down x o q) [ inl p ↦ r.0 c o p | inr new ↦ absurd (other new.0) ]),
        (λ h. r.1 (λ o p. h o (up x o p))),
      )),
      (λ trace. let r = are.only x g has trace in (
        (λ e o q. elim (down x o q) [ inl p ↦ r.0 e o p | inr new ↦ absurd (other new.0) ]),
        (λ h. r.1 (λ o p. h o (up x o p))),
      )),
    )

    for_first : (g : Guard) → ¬ IsKept old fact → g.only ≡ Some at.trace → g.gates.items ≡ gates → AreGuardsFor fact g
    for_first g unkept only same = (
      (λ key. (
        (λ c o q. elim (down fact o q) [
          | inl p ↦ absurd (unkept (are.all fact o p))
          | inr new ↦ subst (GuardsAt view key) (sym new.1) ((guard key).0 (subst (λ xs. Contains xs key) same c))
        ]),
        (λ h. subst (λ xs. Contains xs key) (sym same) ((guard key).1 (h at here))),
      )),
      (λ trace. (
        (λ e o q. elim (down fact o q) [
          | inl p ↦ absurd (unkept (are.all fact o p))
          | inr new ↦ ap (λ (p : Origin). p.trace) new.1 ∙ same_Some at.trace trace (sym only ∙ e)
        ]),
        (λ h. only ∙ ap Some (h at here)),
      )),
    )

    for_narrowed : (g was : Guard) → HasGuard old fact was →
        ((n : ℕ) → (g.only ≡ Some n) ↔ ((was.only ≡ Some n) × (at.trace ≡ n))) →
        ((key : ℕ) → Contains g.gates.items key ↔ (Contains was.gates.items key × Contains gates key)) → AreGuardsFor fact g
    for_narrowed g was has only both = (
      (λ key. let r = are.gates fact was has key in (
        (λ c o q. let cs = (both key).0 c in elim (down fact o q) [
          | inl p ↦ r.0 cs.0 o p
          | inr new ↦ subst (GuardsAt view key) (sym new.1) ((guard key).0 cs.1)
        ]),
        (λ h. (both key).1 (r.1 (λ o p. h o (up fact o p)), (guard key).1 (h at here))),
      )),
      (λ trace. let r = are.only fact was has trace in (
        (λ e o q. let es = (only trace).0 e in elim (down fact o q) [
          | inl p ↦ r.0 es.0 o p
          | inr new ↦ ap (λ (p : Origin). p.trace) new.1 ∙ es.1
        ]),
        (λ h. (only trace).1 (r.1 (λ o p. h o (up fact o p)), h at here)),
      )),
    )

    for_each : (x : Fact) (g : Guard) → HasGuard new x g → AreGuardsFor x g
    for_each x g has = elim (puts.there x g has) [
      | inl was ↦ for_others x g was.0 was.1
      | inr is ↦ subst (λ y. AreGuardsFor y g) (sym is.0) (elim is.1 [
        | inl first ↦ for_first g first.0 first.1.only first.1.gates_are
        | inr more ↦ for_narrowed g more.0 more.1 more.2.only more.2.gates_are
      ])
    ]

    pub AreGuards-put : AreGuards view Q new
    AreGuards-put = record {
      all = λ x o q. elim (down x o q) [
        | inl p ↦ puts.keeps x (are.all x o p)
        | inr one ↦ subst (IsKept new) (sym one.0) puts.has
      ];
      gates = λ x g has. (for_each x g has).0;
      only = λ x g has. (for_each x g has).1;
    }
