-- The lines of chains: lock by lock, and event by event.
use Rattle.ld_text.proofs.Names.{[], ◌++◌, ◌+◌, ◌-◌, ◌<◌, ◌∙◌, ◌∷◌, ◌≡◌, ◌≤◌, AppendsBeginning, ChainParts, EndState, Event, GoesOn, IsStateAfter, Leave, List, Lock, Mode, Name, None, Ok, OneMoreEventAddsItsChain, Option, PutsBehind, Some, add-zero, ap, append-nil, append_assoc, arith, cases_lt, chain, chain_line, codes, flat_map, flat_map-append, flat_map-next, inl, inr, key_and_mode, length, lines_before, lock_text, option_map, option_to_list, refl, slice_get, slice_index_or, subst, suc, sym, take, take_all, take_more, taken_text, zero, ℕ}
use Rattle.ld_task.specs.Positions.{positions_below}
use Rattle.ld_task.specs.TraceChains.{chains}
use Rattle.ld_text.specs.ChainLines.{chains_text}
use Rattle.ld_text.proofs.OutputLemmas.{AppendsBeginning-append, AppendsBeginning-more, PutsBehind-append}

-- the text of a held lock that was looked up
lock_text-held : (names : List Name) (locks : List Lock) (i : ℕ) (d : Lock) (found : ℕ × Mode) → option_map key_and_mode (slice_get locks i) ≡ Some found → codes " " ++ taken_text names found.0 found.1 ≡ lock_text names (slice_index_or locks i d)
lock_text-held names [] i d found e = cc
lock_text-held names (x ∷ locks) zero d found e = let same : (x.key, x.mode) ≡ found = cc in ap (λ (f : ℕ × Mode). codes " " ++ taken_text names f.0 f.1) (sym same)
lock_text-held names (x ∷ locks) (suc i) d found e = lock_text-held names locks i d found e

-- the text of one more held lock
pub locks_text-next : (names : List Name) (locks : List Lock) (i : ℕ) (found : ℕ × Mode) → option_map key_and_mode (slice_get locks i) ≡ Some found → i < length locks → flat_map (lock_text names) (take (i + 1) locks) ≡ flat_map (lock_text names) (take i locks) ++ (codes " " ++ taken_text names found.0 found.1)
locks_text-next names [] i found e within = absurd (omega arith)
locks_text-next names (x ∷ locks) i found e within =
    flat_map-next (lock_text names) (x ∷ locks) i x within
    ∙ ap (λ t. flat_map (lock_text names) (take i (x ∷ locks)) ++ t) (sym (lock_text-held names (x ∷ locks) i x found e))

-- each place below the length holds a lock
pub held-none : (locks : List Lock) (i : ℕ) → option_map key_and_mode (slice_get locks i) ≡ None → i < length locks → ⊥
held-none [] i e within = omega arith
held-none (x ∷ locks) zero e within = cc
held-none (x ∷ locks) (suc i) e within = held-none locks i e (omega arith)

-- and has an event
pub event-none : (t : List Event) (n : ℕ) → slice_get t n ≡ None → n < length t → ⊥
event-none [] n e within = omega arith
event-none (x ∷ t) zero e within = cc
event-none (x ∷ t) (suc n) e within = event-none t n e (omega arith)

-- no lines before the first event, and all before the end
pub lines_before-none : (names : List Name) (t : List Event) → lines_before names t 0 ≡ []
unfolding chains_text chains positions_below
lines_before-none names t = refl

pub lines_before-all : (names : List Name) (t : List Event) (n : ℕ) → length t ≤ n → lines_before names t n ≡ chains_text names t
lines_before-all names t n end = ap (chains_text names) (take_all n t end)

-- what a line shows of an event's answer is what the event adds
pub line-added : (names : List Name) (t : List Event) (n : ℕ) (state : EndState) (answer : Option ChainParts) → GoesOn t n state (Ok answer) → lines_before names t (n + 1) ≡ lines_before names t n ++ flat_map (chain_line names) (option_to_list answer)
unfolding chains_text
line-added names t n state answer on =
    ap (flat_map (chain_line names)) on.1 ∙ flat_map-append (chain_line names) (chains (take n t)) (option_to_list answer)

module _ (law : OneMoreEventAddsItsChain) (t : List Event) where
  -- the chains of a longer beginning are those of the shorter one, and more
  chains-one_more : (n : ℕ) → (more : List ChainParts) × (chains (take (n + 1) t) ≡ chains (take n t) ++ more)
  chains-one_more n = elim (cases_lt n (length t)) [
    | inl within ↦
        let event = slice_index_or t n Leave in
        (option_to_list (chain (take n t ++ event ∷ []) (length (take n t))), ap chains (take_more t n Leave within) ∙ law (take n t) event)
    | inr beyond ↦ ([], ap chains (take_all (n + 1) t (omega arith) ∙ sym (take_all n t beyond)) ∙ sym (append-nil (chains (take n t))))
  ]

  chains-more : (n k : ℕ) → (more : List ChainParts) × (chains (take (n + k) t) ≡ chains (take n t) ++ more)
  chains-more n zero = ([], rw (add-zero n) (sym (append-nil (chains (take n t)))))
  chains-more n (suc k) =
      let before = chains-more n k in
      let one = chains-one_more (n + k) in
      let index : n + suc k ≡ n + k + 1 = omega arith in
      (before.0 ++ one.0, ap (λ i. chains (take i t)) index ∙ one.1 ∙ ap (λ cs. cs ++ one.0) before.1 ∙ append_assoc (chains (take n t)) before.0 one.0)

  -- the lines of a beginning of the trace begin its text
  lines_before-begin : (names : List Name) (n : ℕ) → n ≤ length t → (more : List ℕ) × (chains_text names t ≡ lines_before names t n ++ more)
  unfolding chains_text
  lines_before-begin names n within =
      let rest = chains-more n (length t - n) in
      let whole : n + (length t - n) ≡ length t = omega arith in
      let all = ap (λ i. chains (take i t)) (sym whole) in (
        flat_map (chain_line names) rest.0,
        ap (λ u. flat_map (chain_line names) (chains u)) (sym (take_all (length t) t (omega arith))) ∙ ap (flat_map (chain_line names)) (all ∙ rest.1) ∙ flat_map-append (chain_line names) (chains (take n t)) rest.0,
      )

-- the lines of the trace's first events are put, and the state after them is reached
pub record PutsLines (old new : Option (List ℕ)) (page : List ℕ) (names : List Name) (t : List Event) (n : ℕ) (state : EndState) : Type 0 where
  pub after : IsStateAfter t n state
  pub puts : PutsBehind old new [] page (lines_before names t n)

module _ (old mid new : Option (List ℕ)) (q : List ℕ) (names : List Name) (t : List Event) (n : ℕ) (state : EndState) (before : PutsLines old mid q names t n state) (next : EndState) (answer : Option ChainParts) (on : GoesOn t n next (Ok answer)) where
  -- what one more event adds was put
  pub PutsLines-next : (r : List ℕ) → PutsBehind mid new q r (flat_map (chain_line names) (option_to_list answer)) → PutsLines old new r names t (n + 1) next
  PutsLines-next r puts = record {
    after = on.0;
    puts = subst (λ (x : List ℕ). PutsBehind old new [] r x) (sym (line-added names t n next answer on))
        (PutsBehind-append old mid new [] q (lines_before names t n) before.puts r (flat_map (chain_line names) (option_to_list answer)) puts);
  }

  -- what one more event adds was begun
  pub PutsLines-stopped : OneMoreEventAddsItsChain → n < length t → AppendsBeginning mid new (q ++ flat_map (chain_line names) (option_to_list answer)) → AppendsBeginning old new (chains_text names t)
  PutsLines-stopped law within begun =
      let line = flat_map (chain_line names) (option_to_list answer) in
      let rest = lines_before-begin law t names (n + 1) (omega arith) in
      subst (λ x. AppendsBeginning old new x) (sym (rest.1 ∙ ap (λ x. x ++ rest.0) (line-added names t n next answer on)))
      (AppendsBeginning-more old new (lines_before names t n ++ line) rest.0
      (AppendsBeginning-append old mid new [] q (lines_before names t n) before.puts line begun))
