-- The slots of a chain, from the last one on.
use Rattle.ld_explain.proofs.Names.{◌+◌, ◌<◌, ◌↔◌, ◌∙◌, ◌≡◌, ◌≤◌, ◌⊎◌, AllocError, AsNew, ChainParts, Err, Event, Fact, Gives, IfSome, LaterSlotsAreOfNewerLocks, List, NoLater, None, Occurs, Ok, OnOk, Option, Origin, Result, SeenFrom, SeenTo, SlotsHaveWhatIsGiven, Some, View, ap, arith, cases_eq, chain, chain_fact, fact_by, fact_slots, held_positions, inl, inr, is_held, named_fact, none-some, option_and_then, option_map, positions_below-ascend, refl, same_Some, slice_get, slot_held, slot_origin, slot_position, subst, sym, ℕ}
use Rattle.ld_explain.proofs.Giving.{giving, nothing_given}

-- the fact that is given another name
pub named_there : {X Y : Type 0} (f : X → Y) (o : Option X) (y : Y) → option_map f o ≡ Some y → (x : X) × (o ≡ Some x) × (f x ≡ y)
named_there f None y e = absurd (none-some y e)
named_there f (Some x) y e = (x, refl, same_Some (f x) y e)

module _ (view : View) (t : List Event) (trace place : ℕ) (c : ChainParts) where
  abbrev From : ℕ → Fact → Origin → Type 0
  From n = SeenFrom view t trace place c n

  abbrev To : ℕ → Fact → Origin → Type 0
  To n = SeenTo view trace n

  -- a slot more
  pub more : (n : ℕ) (x : Fact) (o : Origin) → From (n + 1) x o → From n x o
  more n x o (inl seen) = inl seen
  more n x o (inr (m, l, within, at, is)) = inr (m, omega (arith, l), within, at, is)

  pub less : (n : ℕ) (x : Fact) (o : Origin) → From n x o → From (n + 1) x o ⊎ ((named_fact view.rename c n ≡ Some x) × (o ≡ slot_origin t trace place c n))
  less n x o (inl seen) = inl (inl seen)
  less n x o (inr (m, l, within, at, is)) = elim (cases_eq m n) [
    | inl same ↦ inr (subst (λ k. named_fact view.rename c k ≡ Some x) same at, subst (λ k. o ≡ slot_origin t trace place c k) same is)
    | inr ne ↦ inl (inr (m, omega (arith, l, ne), within, at, is))
  ]

  module _ (newer : LaterSlotsAreOfNewerLocks) where
    AsNew-slots : (m n : ℕ) → n ≤ m → AsNew (slot_position t place c m) (slot_position t place c n)
    AsNew-slots m n l = by (slot_held c m) (slot_held c n) refl refl
      where
        ordered : (k i : ℕ) → slot_held c m ≡ Some k → slot_held c n ≡ Some i → i ≤ k
        ordered k i em en = subst (λ o. IfSome o (λ x. x ≤ k)) en (subst (λ o. IfSome o (λ y. IfSome (slot_held c n) (λ x. x ≤ y))) em (newer c n m l))

        at : (k i : ℕ) → i ≤ k → (a b : Option ℕ) → slice_get (held_positions t place) k ≡ a → slice_get (held_positions t place) i ≡ b → AsNew a b
        at k i l None b ea eb = tt
        at k i l (Some p) None ea eb = tt
        at k i l (Some p) (Some q) ea eb = positions_below-ascend (λ h. is_held t h place) place i k q p l eb ea

        by : (a b : Option ℕ) → slot_held c m ≡ a → slot_held c n ≡ b → AsNew (slot_position t place c m) (slot_position t place c n)
        by None b em en = rw em tt
        by (Some k) None em en = rw (em, en) (none (slice_get (held_positions t place) k))
          where
            none : (o : Option ℕ) → AsNew o None
            none None = tt
            none (Some p) = tt
        by (Some k) (Some i) em en = rw (em, en) (at k i (ordered k i em en) (slice_get (held_positions t place) k) (slice_get (held_positions t place) i) refl refl)

    -- what was seen comes no later than the fact of a slot
    pub no_later : (n : ℕ) (x : Fact) (o : Origin) → From (n + 1) x o → NoLater o (slot_origin t trace place c n)
    no_later n x o (inl (occurs, inl earlier)) = inl earlier
    no_later n x o (inl (occurs, inr (same, earlier))) = inr (same, inl earlier)
    no_later n x o (inr (m, l, within, at, is)) =
        subst (λ y. NoLater y (slot_origin t trace place c n)) (sym is) (inr (refl, inr (refl, AsNew-slots m n (omega (arith, l)))))

  -- ---- the whole chain
  module _ (here : slice_get view.traces trace ≡ Some t) (is : chain t place ≡ Some c) (exact : SlotsHaveWhatIsGiven) where
    -- what the event gives is in a slot
    in_slot : (x : Fact) (o : Origin) → Occurs view x o → o.trace ≡ trace → o.place ≡ place → From 0 x o
    in_slot x o occurs same at =
        let y = occurs.fact in
        let same_trace : occurs.t ≡ t = same_Some occurs.t t (sym occurs.is_trace ∙ ap (slice_get view.traces) same ∙ here) in
        let gives : Gives t y place o.held = subst (λ p. Gives t y p o.held) at (subst (λ s. Gives s y o.place o.held) same_trace occurs.gives) in
        let (held, given, position) = (giving t place c is).1 y o.held gives in
        let (n, within, stands, by) = (exact c y held).0 given in
        let whole : o ≡ slot_origin t trace place c n = λ i. record {
          trace = same i;
          place = at i;
          held = (position ∙ ap (λ h. option_and_then (slice_get (held_positions t place)) h) (sym by)) i;
        } in
        inr (n, omega arith, within, ap (option_map (fact_by view.rename)) stands ∙ ap Some occurs.named, whole)

    -- and what is in a slot occurs
    occurs_slot : (x : Fact) (n : ℕ) → n < fact_slots c → named_fact view.rename c n ≡ Some x → Occurs view x (slot_origin t trace place c n)
    occurs_slot x n within at =
        let (y, stands, named) = named_there (fact_by view.rename) (chain_fact c n) x at in
        record {
          t = t;
          is_trace = here;
          fact = y;
          gives = (giving t place c is).0 y (slot_held c n) ((exact c y (slot_held c n)).1 (n, within, stands, refl));
          named = named;
        }

    pub From-all : (x : Fact) (o : Origin) → From 0 x o ↔ To (place + 1) x o
    From-all x o = (
      (λ h. elim h [
        | inl (occurs, before) ↦ (occurs, elim before [ inl earlier ↦ inl earlier | inr (same, earlier) ↦ inr (same, omega (arith, earlier)) ])
        | inr (n, l, within, at, that) ↦
            (subst (Occurs view x) (sym that) (occurs_slot x n within at), inr (ap (λ (p : Origin). p.trace) that, omega (arith, ap (λ (p : Origin). p.place) that)))
      ]),
      (λ (occurs, before). elim before [
        | inl earlier ↦ inl (occurs, inl earlier)
        | inr (same, to) ↦ elim (cases_eq o.place place) [
          | inl at ↦ in_slot x o occurs same at
          | inr ne ↦ inl (occurs, inr (same, omega (arith, to, ne)))
        ]
      ]),
    )

-- an event that makes no chain
module _ (view : View) (t : List Event) (trace place : ℕ) (here : slice_get view.traces trace ≡ Some t) (none : chain t place ≡ None) where
  -- nothing more is seen
  pub seen_none : (x : Fact) (o : Origin) → SeenTo view trace place x o ↔ SeenTo view trace (place + 1) x o
  seen_none x o = (
    (λ (occurs, before). elim before [
      | inl earlier ↦ (occurs, inl earlier)
      | inr (same, earlier) ↦ (occurs, inr (same, omega (arith, earlier)))
    ]),
    (λ (occurs, before). elim before [
      | inl earlier ↦ (occurs, inl earlier)
      | inr (same, to) ↦ elim (cases_eq o.place place) [
        | inr ne ↦ (occurs, inr (same, omega (arith, to, ne)))
        | inl at ↦
            let same_trace : occurs.t ≡ t = same_Some occurs.t t (sym occurs.is_trace ∙ ap (slice_get view.traces) same ∙ here) in
            let gives : Gives t occurs.fact place o.held = subst (λ p. Gives t occurs.fact p o.held) at (subst (λ s. Gives s occurs.fact o.place o.held) same_trace occurs.gives) in
            absurd (nothing_given t place none occurs.fact o.held gives)
      ]
    ]),
  )

-- what follows from what holds of a success holds of it
pub after_ok : (P Q : Type 0) (r : Result (Unit {0}) AllocError) → (P → Q) → OnOk r P → OnOk r Q
after_ok P Q (Ok x) follows p = follows p
after_ok P Q (Err e) follows p = tt
