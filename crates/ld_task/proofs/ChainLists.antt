-- The chains of a trace: where each one comes from, and what one more event adds.
use Rattle.ld_task.proofs.Names.{[], ◌++◌, ◌<◌, ◌∙◌, ◌∷◌, ◌≡◌, ◌≤◌, ◌⊎◌, Acquire, All, Any, ChainParts, Contains, Contains-append_cases, Contains-append_left, Contains-append_right, Contains-get_or, Enter, Event, Hard, Irq, Leave, List, Mode, None, Option, Release, Soft, Some, TurnOff, TurnOn, ap, arith, cases_eq, chain, cons_option, event, filter_map, filter_map-append, flags_at, inl, inr, length, length-append, lock_at, map, option_and_then, option_to_list, refl, slice_get_within, slice_index_or, subst, suc, sym, true, zero, ℕ}
use Rattle.ld_task.specs.Positions.{positions_below}
use Rattle.ld_task.specs.Frames.{kind}
use Rattle.ld_task.specs.Held.{is_held}
use Rattle.ld_task.specs.TraceChains.{held_locks_at, chain_of, chains}
use Rattle.ld_task.proofs.PositionLemmas.{map_below-cong, positions_below-cong}
use Rattle.ld_task.proofs.TraceLemmas.{Agree, is_held-agree, kind-agree, flag-agree}
use Rattle.ld_task.proofs.Places.{slice_get-append_left}

-- the chains of the positions below n
unfoldable pub chains_below : List Event → ℕ → List ChainParts
chains_below t n = filter_map (chain t) (positions_below n (λ j. true))

-- the chain at a position below n
pub record IsChainBelow (t : List Event) (n : ℕ) (c : ChainParts) : Type 0 where
  pub at : ℕ
  pub below : at < n
  pub is_chain : chain t at ≡ Some c

one_option : (o : Option ChainParts) → cons_option o [] ≡ option_to_list o
one_option None = refl
one_option (Some c) = refl

one-contains : (o : Option ChainParts) (c : ChainParts) → o ≡ Some c → Contains (option_to_list o) c
one-contains None c e = cc
one-contains (Some d) c e = let same : d ≡ c = cc in (0, omega arith, same)

contains-one : (o : Option ChainParts) (c : ChainParts) → Contains (option_to_list o) c → o ≡ Some c
contains-one None c h = absurd (let l = h.1 in omega arith)
contains-one (Some d) c (zero, l, e) = ap Some e
contains-one (Some d) c (suc k, l, e) = absurd (omega arith)

module _ (t : List Event) where
  chains_below-suc : (n : ℕ) → chains_below t (suc n) ≡ chains_below t n ++ option_to_list (chain t n)
  unfolding chains_below positions_below
  chains_below-suc n = filter_map-append (chain t) (positions_below n (λ j. true)) (n ∷ []) ∙ ap (λ z. filter_map (chain t) (positions_below n (λ j. true)) ++ z) (one_option (chain t n))

  Contains-chains_below : (n : ℕ) (c : ChainParts) → IsChainBelow t n c → Contains (chains_below t n) c
  Contains-chains_below zero c h = absurd (let l = h.below in omega arith)
  Contains-chains_below (suc n) c h =
      subst (λ xs. Contains xs c) (sym (chains_below-suc n)) (
      elim (cases_eq h.at n) [
        | inl e ↦ Contains-append_right (chains_below t n) (option_to_list (chain t n)) c (one-contains (chain t n) c (subst (λ k. chain t k ≡ Some c) e h.is_chain))
        | inr ne ↦
            Contains-append_left (chains_below t n) (option_to_list (chain t n)) c
            (Contains-chains_below n c (record { at = h.at; below = (let l = h.below in omega arith); is_chain = h.is_chain }))
      ]
      )

  chains_below-contains : (n : ℕ) (c : ChainParts) → Contains (chains_below t n) c → IsChainBelow t n c
  unfolding chains_below positions_below
  chains_below-contains zero c h = absurd (let l = h.1 in omega arith)
  chains_below-contains (suc n) c h =
      elim (Contains-append_cases (chains_below t n) (option_to_list (chain t n)) c (subst (λ xs. Contains xs c) (chains_below-suc n) h)) [
        | inl x ↦ let r = chains_below-contains n c x in record { at = r.at; below = (let l = r.below in omega arith); is_chain = r.is_chain }
        | inr x ↦ record { at = n; below = omega arith; is_chain = contains-one (chain t n) c x }
      ]

  within : (j : ℕ) (o : Option Event) (c : ChainParts) → event t j ≡ o → option_and_then (chain_of t j) o ≡ Some c → j < length t
  within j None c e h = cc
  within j (Some x) c e h = slice_get_within t j x e

  -- what the chain at a position says, one of the chains says
  pub Any-chains : (P : ChainParts → Type 0) (j : ℕ) (c : ChainParts) → chain t j ≡ Some c → P c → Any P (chains t)
  unfolding chains chains_below
  Any-chains P j c e p =
      let m = Contains-chains_below (length t) c (record { at = j; below = within j (event t j) c refl e; is_chain = e }) in
      (m.0, c, m.1, m.2, p)

  -- what one of the chains says, the chain at some position says
  pub chains-Any : (P : ChainParts → Type 0) → Any P (chains t) → (c : ChainParts) × IsChainBelow t (length t) c × P c
  unfolding chains chains_below
  chains-Any P a = (a.1, chains_below-contains (length t) a.1 (a.0, a.2, a.3), a.4)

  -- what each position's chain says, each of the chains says
  pub chains-All : (P : ChainParts → Type 0) → ((j : ℕ) (c : ChainParts) → chain t j ≡ Some c → P c) → All P (chains t)
  unfolding chains chains_below
  chains-All P each k d l =
      let x = chains_below-contains (length t) (slice_index_or (chains t) k d) (Contains-get_or (chains t) k d l) in
      each x.at (slice_index_or (chains t) k d) x.is_chain

module _ (s t : List Event) (n : ℕ) (a : Agree s t n) where
  held_locks_at-agree : (j : ℕ) → j ≤ n → held_locks_at s j ≡ held_locks_at t j
  unfolding held_locks_at
  held_locks_at-agree j l =
      let p = positions_below-cong (λ i. is_held s i j) (λ i. is_held t i j) j (λ i h. is_held-agree s t n a i j h l) in
      let m = map_below-cong (lock_at s) (lock_at t) (λ i. is_held t i j) j (λ i h. rw (a.same i (omega arith)) refl) in
      ap (map (lock_at s)) p ∙ m

  chain_of-agree : (j : ℕ) → j < n → (e : Event) → chain_of s j e ≡ chain_of t j e
  unfolding chain_of
  chain_of-agree j l (Acquire mode key) = rw (held_locks_at-agree j (omega arith), kind-agree s t n a j (omega arith), flag-agree s t n a Hard j (omega arith), flag-agree s t n a Soft j (omega arith)) refl
  chain_of-agree j l (TurnOn irq) = rw (held_locks_at-agree j (omega arith), flag-agree s t n a Hard (suc j) (omega arith), flag-agree s t n a Soft (suc j) (omega arith)) refl
  chain_of-agree j l (Release key) = refl
  chain_of-agree j l (Enter irq) = refl
  chain_of-agree j l Leave = refl
  chain_of-agree j l (TurnOff irq) = refl

  -- the chain at a position depends only on the events up to there
  pub chain-agree : (j : ℕ) → j < n → chain s j ≡ chain t j
  chain-agree j l = ap (option_and_then (chain_of s j)) (a.same j l) ∙ each (event t j)
    where
      each : (o : Option Event) → option_and_then (chain_of s j) o ≡ option_and_then (chain_of t j) o
      each None = refl
      each (Some e) = chain_of-agree j l e

  chains_below-agree : (j : ℕ) → j ≤ n → chains_below s j ≡ chains_below t j
  unfolding chains_below positions_below
  chains_below-agree zero l = refl
  chains_below-agree (suc j) l = chains_below-suc s j ∙ ap (λ z. z ++ option_to_list (chain s j)) (chains_below-agree j (omega arith)) ∙ ap (λ o. chains_below t j ++ option_to_list o) (chain-agree j (omega arith)) ∙ sym (chains_below-suc t j)

-- one more event adds its own chain, if it makes one
pub chains-snoc : (h : List Event) (e : Event) → chains (h ++ e ∷ []) ≡ chains h ++ option_to_list (chain (h ++ e ∷ []) (length h))
unfolding chains chains_below
chains-snoc h e =
    let longer = h ++ e ∷ [] in
    let n : length longer ≡ suc (length h) = omega (arith, length-append h (e ∷ [])) in
    ap (chains_below longer) n ∙ chains_below-suc longer (length h) ∙ ap (λ z. z ++ option_to_list (chain longer (length h)))
    (chains_below-agree longer h (length h) (record { same = λ k l. slice_get-append_left h (e ∷ []) k l }) (length h) (omega arith))

-- The two forms of a chain.

abbrev pub acquisition_at : List Event → ℕ → ℕ → Mode → ChainParts
acquisition_at t j key mode = record { held_locks = held_locks_at t j; new_lock = Some (record { key = key; mode = mode }, kind t j); flags = flags_at t j }

abbrev pub opening_at : List Event → ℕ → ChainParts
opening_at t j = record { held_locks = held_locks_at t j; new_lock = None; flags = flags_at t (suc j) }

-- an acquisition's chain
pub record IsAcquisition (t : List Event) (j : ℕ) (c : ChainParts) : Type 0 where
  pub key : ℕ
  pub mode : Mode
  pub is_event : event t j ≡ Some (Acquire mode key)
  pub parts : acquisition_at t j key mode ≡ c

-- an opening's chain
pub record IsOpening (t : List Event) (j : ℕ) (c : ChainParts) : Type 0 where
  pub irq : Irq
  pub is_event : event t j ≡ Some (TurnOn irq)
  pub parts : opening_at t j ≡ c

module _ (t : List Event) (j : ℕ) where
  pub chain-acquire : (key : ℕ) (mode : Mode) → event t j ≡ Some (Acquire mode key) → chain t j ≡ Some (acquisition_at t j key mode)
  unfolding chain_of
  chain-acquire key mode e = ap (option_and_then (chain_of t j)) e

  pub chain-turn_on : (irq : Irq) → event t j ≡ Some (TurnOn irq) → chain t j ≡ Some (opening_at t j)
  unfolding chain_of
  chain-turn_on irq e = ap (option_and_then (chain_of t j)) e

  cases : (c : ChainParts) (o : Option Event) → event t j ≡ o → option_and_then (chain_of t j) o ≡ Some c → IsAcquisition t j c ⊎ IsOpening t j c
  unfolding chain_of
  cases c None e h = cc
  cases c (Some (Acquire mode key)) e h = inl (record { key = key; mode = mode; is_event = e; parts = cc })
  cases c (Some (TurnOn irq)) e h = inr (record { irq = irq; is_event = e; parts = cc })
  cases c (Some (Release key)) e h = cc
  cases c (Some (Enter irq)) e h = cc
  cases c (Some Leave) e h = cc
  cases c (Some (TurnOff irq)) e h = cc

  -- each chain is an acquisition's or an opening's
  pub chain-cases : (c : ChainParts) → chain t j ≡ Some c → IsAcquisition t j c ⊎ IsOpening t j c
  chain-cases c e = cases c (event t j) refl e
