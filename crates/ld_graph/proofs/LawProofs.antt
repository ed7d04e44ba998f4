-- The proofs of the laws.
use Rattle.ld_graph.proofs.Names.{[], ◌++◌, ◌∷◌, ◌⊎◌, Arrow, Bool, ClosedWalk, DependenciesOf, Enabled, Fact, HasNewEnd, HasNewMember, In, Irq, IsLink, List, Marked, NewCirclesHaveNewMembers, NewDoublesHaveNewMarks, NewInversionsHaveNewParts, StrongWalk, UsedIn, ap, append-nil, append_assoc, cases_Bool, inl, inr, is_r, is_s, refl, subst}
use Rattle.ld_facts.specs.declared.fact.Fact.TheVariants.{Dependency}
use Rattle.ld_graph.proofs.Circles.{ClosedWalk-turn}

-- ---- a walk is one of the earlier set, or has a new member
module _ (old new : Fact → Bool) where
  abbrev arrow_fact : Arrow → Fact
  arrow_fact d = Dependency d.start d.end d.kind

  walk_old_or_new : (a : Arrow) (p : List Arrow) → StrongWalk (DependenciesOf (In new)) a p →
      StrongWalk (DependenciesOf (In old)) a p ⊎ HasNewMember old new (a ∷ p)
  walk_old_or_new a [] w =
      elim (cases_Bool (old (arrow_fact a))) [
        | inl t ↦ inl t
        | inr f ↦ inr (record { first = []; d = a; last = []; whole = refl; is_new = (w, f) })
      ]
  walk_old_or_new a (b ∷ p) w =
      elim (cases_Bool (old (arrow_fact a))) [
        | inr f ↦ inr (record { first = []; d = a; last = b ∷ p; whole = refl; is_new = (w.0, f) })
        | inl t ↦ elim (walk_old_or_new b p w.2) [
          | inl v ↦ inl (t, w.1, v)
          | inr m ↦ inr (record { first = a ∷ m.first; d = m.d; last = m.last; whole = ap (λ xs. a ∷ xs) m.whole; is_new = m.is_new })
        ]
      ]

  link_old_or_new : (irq : Irq) (l : Arrow) → IsLink (In new) irq l → IsLink (In old) irq l ⊎ HasNewEnd old new irq l
  link_old_or_new irq l (enabled, used) =
      elim (cases_Bool (old (Marked l.start (Enabled irq (is_s l.kind))))) [
        | inr f ↦ inr (inl (enabled, f))
        | inl e ↦ elim (cases_Bool (old (Marked l.end (UsedIn irq (is_r l.kind))))) [
          | inr f ↦ inr (inr (used, f))
          | inl u ↦ inl (e, u)
        ]
      ]

-- a closed walk may begin with each of its members
module _ (Set : Arrow → Type 0) where
  abbrev Closed : List Arrow → Type 0
  Closed [] = ⊥
  Closed (a ∷ p) = ClosedWalk Set a p

  turn : (x : Arrow) (xs : List Arrow) → Closed (x ∷ xs) → Closed (xs ++ x ∷ [])
  turn x [] closed = closed
  turn x (y ∷ xs) closed = ClosedWalk-turn Set x y xs closed

  turn_to : (first : List Arrow) (d : Arrow) (end : List Arrow) → Closed (first ++ d ∷ end) → ClosedWalk Set d (end ++ first)
  turn_to [] d end closed = rw append-nil closed
  turn_to (x ∷ first) d end closed =
      let next : Closed (first ++ d ∷ (end ++ x ∷ [])) = subst Closed (append_assoc first (d ∷ end) (x ∷ [])) (turn x (first ++ d ∷ end) closed) in
      subst (ClosedWalk Set d) (append_assoc end (x ∷ []) first) (turn_to first d (end ++ x ∷ []) next)

pub new_circles_have_new_members : NewCirclesHaveNewMembers
new_circles_have_new_members old new a rest closed =
    elim (walk_old_or_new old new a rest closed.0) [
      | inl o ↦ inl (o, closed.1)
      | inr m ↦ inr (m, turn_to (DependenciesOf (In new)) m.first m.d m.last (subst (Closed (DependenciesOf (In new))) m.whole closed))
    ]

pub new_doubles_have_new_marks : NewDoublesHaveNewMarks
new_doubles_have_new_marks old new irq a l by =
    elim (link_old_or_new old new irq l by.0) [
      | inl o ↦ inl (o, by.1, by.2, by.3)
      | inr ends ↦ inr ends
    ]

pub new_inversions_have_new_parts : NewInversionsHaveNewParts
new_inversions_have_new_parts old new irq a b d rest l by =
    elim (link_old_or_new old new irq l by.1) [
      | inr ends ↦ inr (inl ends)
      | inl same ↦ elim (walk_old_or_new old new d rest by.0.0) [
        | inl o ↦ inl ((o, by.0.1, by.0.2), same, by.2, by.3, by.4, by.5)
        | inr m ↦ inr (inr m)
      ]
    ]
