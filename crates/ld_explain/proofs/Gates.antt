-- The gates in a chain are the keys that guard an occurrence.
use Rattle.ld_explain.proofs.Names.{[], ◌++◌, ◌<◌, ◌↔◌, ◌∙◌, ◌∷◌, ◌≡◌, ◌≤◌, Bool, ChainParts, Event, Guarded, GuardsAt, IsGateBefore, List, Lock, None, Option, Origin, Some, ap, arith, cases_Bool, cases_lt, chain, fact_slots, false, gate_in, held_positions, inl, inr, is_held, is_read, length, lock_at, option_and_then, positions_below-ascend, positions_below-pass, refl, same_Some, slice_get, slot_held, slot_origin, slot_position, subst, suc, sym, zero, ℕ}
use Rattle.ld_task.specs.Positions.{positions_below}
use Rattle.ld_explain.proofs.Giving.{chain_held, held_there, position_there, slot_within}
use Rattle.ld_explain.proofs.Keys.{never_past}

-- ---- positions ascend
front : (xs : List ℕ) (y k : ℕ) → k < length xs → slice_get (xs ++ y ∷ []) k ≡ slice_get xs k
front [] y k l = absurd (omega (arith, l))
front (x ∷ xs) y zero l = refl
front (x ∷ xs) y (suc k) l = front xs y k (omega (arith, l))

last : (xs : List ℕ) (y k i : ℕ) → slice_get (xs ++ y ∷ []) k ≡ Some i → length xs ≤ k → (i ≡ y) × (k ≡ length xs)
last [] y zero i e l = (sym (same_Some y i e), refl)
last [] y (suc k) i e l = absurd (cc)
last (x ∷ xs) y zero i e l = absurd (omega (arith, l))
last (x ∷ xs) y (suc k) i e l = let r = last xs y k i e (omega (arith, l)) in (r.0, ap suc r.1)

strictly : (p : ℕ → Bool) (n a b i k : ℕ) → a < b → slice_get (positions_below n p) a ≡ Some i → slice_get (positions_below n p) b ≡ Some k → i < k
unfolding positions_below
strictly p zero a b i k l e f = absurd (cc)
strictly p (suc n) a b i k l e f = elim (cases_Bool (p n)) [
  | inr miss ↦ strictly p n a b i k l (rw miss at e) (rw miss at f)
  | inl hit ↦
      let f' : slice_get (positions_below n p ++ n ∷ []) b ≡ Some k = rw hit at f in
      let e' : slice_get (positions_below n p ++ n ∷ []) a ≡ Some i = rw hit at e in
      elim (cases_lt b (length (positions_below n p))) [
        | inl within ↦ strictly p n a b i k l
            (sym (front (positions_below n p) n a (omega (arith, l, within))) ∙ e') (sym (front (positions_below n p) n b within) ∙ f')
        | inr past ↦
            let top = last (positions_below n p) n b k f' past in
            let r = positions_below-pass p n a i (sym (front (positions_below n p) n a (omega (arith, l, top.1))) ∙ e') in
            omega (arith, top.0, r.0)
      ]
]

-- a gate among the held locks is a lock that keeps all others out
gate_lock : (rename : ℕ → ℕ) (o : Option Lock) (key : ℕ) → gate_in rename o ≡ Some key → (lock : Lock) × (o ≡ Some lock) × (key ≡ rename lock.key) × (is_read lock.mode ≡ false)
gate_lock rename None key e = absurd (cc)
gate_lock rename (Some lock) key e = elim (cases_Bool (is_read lock.mode)) [
  | inl read ↦ let none : None ≡ Some key = rw read at e in absurd (cc)
  | inr not ↦ let is : Some (rename lock.key) ≡ Some key = rw not at e in (lock, refl, sym (same_Some (rename lock.key) key is), not)
]

lock_gate : (rename : ℕ → ℕ) (lock : Lock) → is_read lock.mode ≡ false → gate_in rename (Some lock) ≡ Some (rename lock.key)
lock_gate rename lock not = rw not refl

module _ (rename : ℕ → ℕ) (t : List Event) (place : ℕ) (c : ChainParts) (is : chain t place ≡ Some c) where
  -- of the held lock number h, which was taken at i
  module _ (h i : ℕ) (at : slice_get (held_positions t place) h ≡ Some i) (key : ℕ) where
    gate_guards : IsGateBefore rename c h key → Guarded rename t key i place
    gate_guards (m, before, gate) =
        let (lock, there, key_is, not) = gate_lock rename (slice_get c.held_locks m) key gate in
        let p = position_there t place m lock (ap (λ locks. slice_get locks m) (chain_held t place c is) ∙ there) in
        record {
          k = p.i;
          older = strictly (λ n. is_held t n place) place m h p.i i before p.at at;
          is_held = p.is_held;
          key_is = key_is ∙ sym (ap (λ (l : Lock). rename l.key) p.is);
          excludes = ap (λ (l : Lock). is_read l.mode) p.is ∙ not;
        }

    guard_gates : Guarded rename t key i place → IsGateBefore rename c h key
    guard_gates g =
        let there = held_there t place g.k g.is_held in
        let lock : slice_get c.held_locks there.k ≡ Some (lock_at t g.k) = ap (λ locks. slice_get locks there.k) (sym (chain_held t place c is)) ∙ there.lock in (
          there.k,
          elim (cases_lt there.k h) [
            | inl before ↦ before
            | inr past ↦
                let l = positions_below-ascend (λ n. is_held t n place) place h there.k i g.k past at there.at in
                absurd (omega (arith, l, g.older))
          ],
          ap (gate_in rename) lock ∙ lock_gate rename (lock_at t g.k) g.excludes ∙ ap Some (sym g.key_is),
        )

  -- of the fact in slot n
  module _ (traces : List (List Event)) (trace : ℕ) (here : slice_get traces trace ≡ Some t) (n : ℕ) (within : n < fact_slots c) (key : ℕ) where
    abbrev at_slot : Origin
    at_slot = slot_origin t trace place c n

    pub gates-guard : (held : Option ℕ) → slot_held c n ≡ held → (before : ℕ) → ((h : ℕ) → held ≡ Some h → before ≡ h) → (held ≡ None → before ≡ zero) →
        IsGateBefore rename c before key ↔ GuardsAt (record { traces = traces; rename = rename }) key at_slot
    gates-guard None held_is before some none = (
      (λ (m, l, gate). absurd (omega (arith, l, none refl))),
      (λ g. let no : None ≡ Some g.i = sym (ap (option_and_then (slice_get (held_positions t place))) held_is) ∙ g.held_is in absurd (cc)),
    )
    gates-guard (Some h) held_is before some none = by (slice_get (held_positions t place) h) refl
      where
        e : before ≡ h
        e = some h refl

        position_is : slot_position t place c n ≡ slice_get (held_positions t place) h
        position_is = ap (option_and_then (slice_get (held_positions t place))) held_is

        by : (o : Option ℕ) → slice_get (held_positions t place) h ≡ o → IsGateBefore rename c before key ↔ GuardsAt (record { traces = traces; rename = rename }) key at_slot
        by None at = absurd (never_past (held_positions t place) h (slot_within t place c is n h within held_is) at)
        by (Some i) at = (
          (λ gate. record {
            t = t;
            i = i;
            is_trace = here;
            held_is = position_is ∙ at;
            guarded = gate_guards h i at key (subst (λ b. IsGateBefore rename c b key) e gate);
          }),
          (λ g.
              let same_t : g.t ≡ t = same_Some g.t t (sym g.is_trace ∙ here) in
              let same_i : g.i ≡ i = same_Some g.i i (sym g.held_is ∙ position_is ∙ at) in
              let guarded : Guarded rename t key i place = subst (λ p. Guarded rename t key p place) same_i (subst (λ s. Guarded rename s key g.i place) same_t g.guarded) in
              subst (λ b. IsGateBefore rename c b key) (sym e) (guard_gates h i at key guarded)),
        )
