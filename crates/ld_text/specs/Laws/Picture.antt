-- Pictures of equal facts.
use Rattle.ld_text.specs.Names.{AreFound-same, AreSame, Arrow, Dependency, Fact, InInversion-same, IsDouble-same, Name, OnCircle-same, arrow, inl, inr, kinds, states}
use Rattle.std.proofs.Common.{◌≡◌, ◌↔◌, ◌⊎◌, ℕ, Bool, true, false, List, Any}
use Rattle.ld_text.specs.Picture.{AreJoined, IsFoundArrow, IsFoundKey, IsNode, IsPicture, ShowsColoured, ShowsEdge, ShowsKey, edge_line}
use Rattle.ld_text.specs.Report.{forms}
use Rattle.ld_text.specs.Laws.Report.{InTurn-same, character-same, then-same}

Any-more : {X : Type 0} (P Q : X → Type 0) → ((x : X) → P x → Q x) → (xs : List X) → Any P xs → Any Q xs
Any-more P Q more xs (k, x, within, is, holds) = (k, x, within, is, more x holds)

Any-same : {X : Type 0} (P Q : X → Type 0) → ((x : X) → P x ↔ Q x) → (xs : List X) → Any P xs ↔ Any Q xs
Any-same P Q same xs = (Any-more P Q (λ x. (same x).0) xs, Any-more Q P (λ x. (same x).1) xs)

either : {A B C D : Type 0} → A ↔ C → B ↔ D → (A ⊎ B) ↔ (C ⊎ D)
either f g = (
  (λ s. elim s [
    | inl a ↦ inl (f.0 a)
    | inr b ↦ inr (g.0 b)
  ]),
  (λ s. elim s [
    | inl c ↦ inl (f.1 c)
    | inr d ↦ inr (g.1 d)
  ]),
)

-- a text in colour, of which the same is said
coloured-same : (only : Bool) (A B : Type 0) (R S : Bool → List ℕ → Type 0) → A ↔ B → ((red : Bool) (text : List ℕ) → R red text → S red text) → (text : List ℕ) → ShowsColoured only A R text → ShowsColoured only B S text
coloured-same only A B R S same more text (inl (found, shows)) = inl (same.0 found, more true text shows)
coloured-same true A B R S same more text (inr (not_found, none)) = inr (λ b. not_found (same.1 b), none)
coloured-same false A B R S same more text (inr (not_found, shows)) = inr (λ b. not_found (same.1 b), more false text shows)

module _ (P Q : Fact → Type 0) (same : AreSame P Q) where
  arrow-same : (d : Arrow) → IsFoundArrow P d ↔ IsFoundArrow Q d
  arrow-same d = either (OnCircle-same P Q same d) (InInversion-same P Q same d)

  joined-same : (key other : ℕ) → AreJoined P key other ↔ AreJoined Q key other
  joined-same key other = Any-same _ _ (λ kind. either (arrow-same (arrow key other kind)) (arrow-same (arrow other key kind))) kinds

  found-same : (keys : List ℕ) (key : ℕ) → IsFoundKey P keys key ↔ IsFoundKey Q keys key
  found-same keys key = either (Any-same _ _ (λ irq. IsDouble-same P Q same irq key) states) (Any-same _ _ (joined-same key) keys)

  node-same : (names : List Name) (key : ℕ) (red : Bool) (line : List ℕ) → IsNode P names key red line → IsNode Q names key red line
  node-same names key red line node = record {
    characters = node.characters;
    each = InTurn-same _ _ (λ form. character-same P Q same key form.0 form.1) forms node.characters node.each;
    line_is = node.line_is;
  }

  key-same : (names : List Name) (keys : List ℕ) (only : Bool) (key : ℕ) (text : List ℕ) → ShowsKey P names keys only key text → ShowsKey Q names keys only key text
  key-same names keys only key text =
      coloured-same only _ _ (IsNode P names key) (IsNode Q names key) (found-same keys key) (node-same names key) text

  edge-same : (names : List Name) (only : Bool) (d : Arrow) (text : List ℕ) → ShowsEdge P names only d text → ShowsEdge Q names only d text
  edge-same names only d text (inl (holds, shows)) = inl (
    (same (Dependency d.start d.end d.kind)).0 holds,
    coloured-same only _ _ (λ red line. line ≡ edge_line names d red) (λ red line. line ≡ edge_line names d red) (arrow-same d) (λ red line is. is) text shows,
  )
  edge-same names only d text (inr (fails, none)) = inr (λ q. fails ((same (Dependency d.start d.end d.kind)).1 q), none)

  -- the picture of equal facts
  pub IsPicture-same : (only : Bool) (names : List Name) (text : List ℕ) → IsPicture P only names text → IsPicture Q only names text
  IsPicture-same only names text p =
      let keys = p.keys in
      record {
        keys = keys;
        keys_are = p.keys_are;
        found = p.found;
        found_are = AreFound-same P Q same keys p.found p.found_are;
        text_is = then-same _ _ (λ _ h. h) (then-same _ _ (InTurn-same _ _ (key-same names keys only) keys)
            (then-same _ _ (InTurn-same _ _ (λ from. InTurn-same _ _ (λ to. InTurn-same _ _ (λ kind. edge-same names only (arrow from to kind)) kinds) keys) keys)
            (λ _ h. h))) text p.text_is;
      }
