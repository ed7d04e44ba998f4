-- Going along a trace, and what is put on a board and known on the way.
use Rattle.ld_run.proofs.Names.{[], ◌++◌, ◌+◌, ◌<◌, ◌↔◌, ◌∙◌, ◌∷◌, ◌≡◌, ◌≤◌, ◌⊎◌, All-pop, All-take, Any-push, AreSame, Bool, BeginningsKeepTheirChains, BeginningsKeepTheirFaults, CallsBelow, ChainCallsBelow, ChainHas, ChainKeysAreTheTraces, ChainKeysBelow, ChainParts, ChainsHave, EndState, Err, Event, Fact, GoesAlong, GoesOn, HasBeforeFault, HasGathered, HasThere, HasWalked, Holds, IfSome, IsErr, IsStateAfter, IsStep, IsWalking, IsWellFormed, KeyIsBelow, KeysBelow, KnowsFact, List, None, Ok, Option, PutsOnly, Result, Some, StepAt, StepFault, Store, TraceFactsAreTheChains, View, WalksOn, ap, append-nil, arith, cases_lt, count_by, false, fault_in, from_bool, inl, inr, length, makes_chain, on_board, refl, slice_get, slice_get_within, subst, suc, sym, take, take_all, true, true≢false, zero, ℕ}
use Rattle.std.specs.Prelude.{IsSome, IsTrue, OnOk, is_some}
use Rattle.std.proofs.lemmas.List.{length-take}
use Rattle.std.proofs.lemmas.List.Sums.{count_by-le-length}
use Rattle.ld_run.proofs.BeforeFaults.{before_fault-refused, before_fault-whole, beginning_has}
use Rattle.ld_run.proofs.Counts.{count_more}
use Rattle.ld_run.specs.declared.known_steps.Walk.{Walk}
use Rattle.ld_task.specs.Positions.{positions_below}
use Rattle.ld_task.specs.TraceChains.{chains}
use Rattle.ld_run.specs.declared.worker.OutOfMemory.{OutOfMemory}
use Rattle.std.specs.Borrow.{Bor}

-- the chain of an event of a trace has the trace's keys
pub chain_below : ChainKeysAreTheTraces → (keys : ℕ) (t : List Event) (n : ℕ) (state : EndState) (r : Result (Option ChainParts) StepFault) (c : ChainParts) → r ≡ Ok (Some c) → GoesOn t n state r → KeysBelow keys t → ChainKeysBelow keys c
chain_below law keys t n state r c is on below =
    let after = subst (λ x. GoesOn t n state x) is on in
    let all = law (take (n + 1) t) keys (All-take (KeyIsBelow keys) (n + 1) t below) in
    (All-pop (ChainKeysBelow keys) (chains (take (n + 1) t)) (chains (take n t)) (Some c) after.1 all).1

-- the same by what its keys are called
pub chain_called_below : ChainKeysAreTheTraces → (others : Option (Bor (List ℕ))) (keys : ℕ) (t : List Event) (n : ℕ) (state : EndState) (r : Result (Option ChainParts) StepFault) (c : ChainParts) →
    r ≡ Ok (Some c) → GoesOn t n state r → CallsBelow others keys t → ChainCallsBelow others keys c
chain_called_below law None keys t n state r c is on below = chain_below law keys t n state r c is on below
chain_called_below law (Some others) keys t n state r c is on (low, below) = (low, chain_below law (length others.now) t n state r c is on below)

-- ---- what is put and known
-- nothing is put
pub PutsOnly-none : (keys : ℕ) (v : View) (P : Fact → Type 0) → PutsOnly keys v v P
PutsOnly-none keys v P = record { keeps = λ x h. h; only = λ x h. inl h; knows = λ x h. h }

-- first the one, then the other
pub PutsOnly-then : (keys : ℕ) (old mid new : View) (P Q R : Fact → Type 0) → Holds R P → Holds R Q → PutsOnly keys old mid P → PutsOnly keys mid new Q → PutsOnly keys old new R
PutsOnly-then keys old mid new P Q R p q first then = record {
  keeps = λ x h. then.keeps x (first.keeps x h);
  only = λ x h. elim (then.only x h) [
    | inr b ↦ inr (q x b)
    | inl m ↦ elim (first.only x m) [ inl o ↦ inl o | inr a ↦ inr (p x a) ]
  ];
  knows = λ x h. then.knows x (first.knows x h);
}

-- only facts of a larger set
pub PutsOnly-more : (keys : ℕ) (old new : View) (P Q : Fact → Type 0) → Holds Q P → PutsOnly keys old new P → PutsOnly keys old new Q
PutsOnly-more keys old new P Q up puts = record {
  keeps = puts.keeps;
  only = λ x h. elim (puts.only x h) [ inl o ↦ inl o | inr p ↦ inr (up x p) ];
  knows = puts.knows;
}

-- ---- along a trace
pub no_chains : (x : Fact) → ChainsHave [] x → ⊥
no_chains x any = let l = any.2 in omega (arith, l)

-- an allowed event with a chain
pub walks_on-chain : (keys : ℕ) (start old new : View) (t : List Event) (n : ℕ) (state : EndState) (r : Result (Option ChainParts) StepFault) (c : ChainParts) → r ≡ Ok (Some c) → GoesOn t n state r → new.claimed ≡ old.claimed → PutsOnly keys old new (ChainHas c) → Holds (KnowsFact keys new) (ChainHas c) → HasGathered keys start old t n → IsStateAfter t (n + 1) state × HasGathered keys start new t (n + 1)
walks_on-chain keys start old new t n state r c is on claimed puts knows gathered =
    let after = subst (λ x. GoesOn t n state x) is on in
    let cs : List ChainParts = chains (take n t) in
    let more : (x : Fact) → ChainsHave (cs ++ c ∷ []) x ↔ (ChainsHave cs x ⊎ ChainHas c x) = λ x. Any-push (λ y. ChainHas y x) cs c in (
      after.0,
      record {
        claimed = claimed ∙ gathered.claimed;
        puts = subst (λ ds. PutsOnly keys start new (ChainsHave ds)) (sym after.1)
            (PutsOnly-then keys start old new (ChainsHave cs) (ChainHas c) (ChainsHave (cs ++ c ∷ [])) (λ x h. (more x).1 (inl h)) (λ x h. (more x).1 (inr h)) gathered.puts puts);
        knows = subst (λ ds. Holds (KnowsFact keys new) (ChainsHave ds)) (sym after.1)
            (λ x h. elim ((more x).0 h) [ inl b ↦ puts.knows x (gathered.knows x b) | inr y ↦ knows x y ]);
      },
    )

-- an allowed event without one
pub walks_on-none : (keys : ℕ) (start now : View) (t : List Event) (n : ℕ) (state : EndState) (r : Result (Option ChainParts) StepFault) → r ≡ Ok None → GoesOn t n state r → HasGathered keys start now t n → IsStateAfter t (n + 1) state × HasGathered keys start now t (n + 1)
walks_on-none keys start now t n state r is on gathered =
    let after = subst (λ x. GoesOn t n state x) is on in
    let same = sym (after.1 ∙ append-nil (chains (take n t))) in (
      after.0,
      record {
        claimed = gathered.claimed;
        puts = subst (λ cs. PutsOnly keys start now (ChainsHave cs)) same gathered.puts;
        knows = subst (λ cs. Holds (KnowsFact keys now) (ChainsHave cs)) same gathered.knows;
      },
    )

-- before the first event
pub IsWalking-none : (keys : ℕ) (v : View) (t : List Event) (walk : Walk) → walk.place ≡ 0 → walk.number ≡ 0 → IsStateAfter t 0 walk.state → IsWalking keys v v t walk
unfolding chains positions_below
IsWalking-none keys v t walk place number after = record {
  after = subst (λ n. IsStateAfter t n walk.state) (sym place) after;
  gathered = subst (HasGathered keys v v t) (sym place) none;
  counted = subst (λ n. walk.number ≡ count_by makes_chain (take n t)) (sym place) number;
}
  where
    none : HasGathered keys v v t 0
    none = record { claimed = refl; puts = PutsOnly-none keys v (ChainsHave []); knows = λ x h. absurd (no_chains x h) }

-- one more event
pub IsWalking-next : (keys : ℕ) (start old new : View) (t : List Event) (walk next : Walk) (event : Event) → IsWalking keys start old t walk → slice_get t walk.place ≡ Some event
    → next.place ≡ walk.place + 1 → next.number ≡ walk.number + from_bool (makes_chain event) → IsStateAfter t (walk.place + 1) next.state × HasGathered keys start new t (walk.place + 1) → IsWalking keys start new t next
IsWalking-next keys start old new t walk next event walking here place number on = record {
  after = subst (λ n. IsStateAfter t n next.state) (sym place) on.0;
  gathered = subst (HasGathered keys start new t) (sym place) on.1;
  counted = subst (λ n. next.number ≡ count_by makes_chain (take n t)) (sym place)
      (number ∙ ap (λ n. n + from_bool (makes_chain event)) walking.counted ∙ sym (count_more t walk.place event here));
}

-- ---- along known steps
-- nowhere
pub GoesAlong-none : (store : Store) (t : List Event) (walk : Walk) → IsStateAfter t walk.place walk.state → GoesAlong store t walk walk
GoesAlong-none store t walk after = record { after = after; counted = refl; keeps = λ x h. h; knows = λ x h. inl h }

-- one more event, by a step that is known
pub GoesAlong-step : (store : Store) (t : List Event) (from : Walk) (place number more : ℕ) (state next : EndState) (event : Event) → IsStep store state event next → slice_get t place ≡ Some event
    → more ≡ from_bool (makes_chain event) → GoesAlong store t from (record { place = place; state = state; number = number })
    → GoesAlong store t from (record { place = place + 1; state = next; number = number + more })
GoesAlong-step store t from place number more state next event step here made along = by_answer step.answer (step.goes_on t place along.after here) step.knows
  where
    counted : number + more + count_by makes_chain (take from.place t) ≡ from.number + count_by makes_chain (take (place + 1) t)
    counted = let was = along.counted in let one = count_more t place event here in omega (arith, was, one, made)

    by_answer : (answer : Option ChainParts) → GoesOn t place next (Ok answer) → IfSome answer (λ c. Holds (HasThere store) (ChainHas c))
        → GoesAlong store t from (record { place = place + 1; state = next; number = number + more })
    by_answer None on knows =
        let same : chains (take (place + 1) t) ≡ chains (take place t) = on.1 ∙ append-nil (chains (take place t)) in
        record {
          after = on.0;
          counted = counted;
          keeps = subst (λ cs. Holds (ChainsHave cs) (ChainsHave (chains (take from.place t)))) (sym same) along.keeps;
          knows = subst (λ cs. (x : Fact) → ChainsHave cs x → ChainsHave (chains (take from.place t)) x ⊎ HasThere store x) (sym same) along.knows;
        }
    by_answer (Some c) on knows =
        let cs : List ChainParts = chains (take place t) in
        let push : (x : Fact) → ChainsHave (cs ++ c ∷ []) x ↔ (ChainsHave cs x ⊎ ChainHas c x) = λ x. Any-push (λ y. ChainHas y x) cs c in
        record {
          after = on.0;
          counted = counted;
          keeps = subst (λ ds. Holds (ChainsHave ds) (ChainsHave (chains (take from.place t)))) (sym on.1) (λ x h. (push x).1 (inl (along.keeps x h)));
          knows = subst (λ ds. (x : Fact) → ChainsHave ds x → ChainsHave (chains (take from.place t)) x ⊎ HasThere store x) (sym on.1)
              (λ x h. elim ((push x).0 h) [ inl b ↦ along.knows x b | inr y ↦ inr (knows x y) ]);
        }

-- a walk that puts facts on a board goes on
pub IsWalking-along : (keys : ℕ) (start now : View) (t : List Event) (from to : Walk) → GoesAlong (on_board keys now) t from to → IsWalking keys start now t from → IsWalking keys start now t to
IsWalking-along keys start now t from to along walking = record {
  after = along.after;
  gathered = record {
    claimed = walking.gathered.claimed;
    puts = PutsOnly-more keys start now (ChainsHave (chains (take from.place t))) (ChainsHave (chains (take to.place t))) along.keeps walking.gathered.puts;
    knows = λ x h. elim (along.knows x h) [ inl b ↦ walking.gathered.knows x b | inr there ↦ there ];
  };
  counted = let more = along.counted in let was = walking.counted in omega (arith, more, was);
}

-- no more chains than events
pub few_chains : (keys : ℕ) (start now : View) (t : List Event) (walk : Walk) → IsWalking keys start now t walk → walk.number ≤ walk.place
few_chains keys start now t walk walking =
    let c = walking.counted in
    let f = count_by-le-length makes_chain (take walk.place t) in
    let l = length-take walk.place t in
    omega (arith, c, f, l)

-- what was there still is
pub IsStep-later : (old new : Store) (from : EndState) (event : Event) (to : EndState) → Holds (HasThere new) (HasThere old) → IsStep old from event to → IsStep new from event to
IsStep-later old new from event to up step = record { answer = step.answer; goes_on = step.goes_on; knows = later step.answer step.knows }
  where
    later : (answer : Option ChainParts) → IfSome answer (λ c. Holds (HasThere old) (ChainHas c)) → IfSome answer (λ c. Holds (HasThere new) (ChainHas c))
    later None knows = tt
    later (Some c) knows = λ x h. up x (knows x h)

-- a place of the trace has an event
pub never_past : {A : Type 0} (xs : List A) (i : ℕ) → i < length xs → slice_get xs i ≡ None → ⊥
never_past [] i l e = omega (arith, l)
never_past (x ∷ xs) zero l e = cc
never_past (x ∷ xs) (suc i) l e = never_past xs i (omega (arith, l)) e

-- what was gathered of a trace, by another name
pub gathered_puts : (keys : ℕ) (start now : View) (t : List Event) (n : ℕ) (Q : Fact → Type 0) → AreSame (ChainsHave (chains (take n t))) Q → HasGathered keys start now t n → PutsOnly keys start now Q
gathered_puts keys start now t n Q same gathered = PutsOnly-more keys start now (ChainsHave (chains (take n t))) Q (λ x h. (same x).0 h) gathered.puts

pub gathered_knows : (keys : ℕ) (start now : View) (t : List Event) (n : ℕ) (Q : Fact → Type 0) → AreSame (ChainsHave (chains (take n t))) Q → HasGathered keys start now t n → Holds (KnowsFact keys now) Q
gathered_knows keys start now t n Q same gathered x h = gathered.knows x ((same x).1 h)

-- no event comes next at the end of the trace
pub past_end : {A : Type 0} (xs : List A) (i : ℕ) → slice_get xs i ≡ None → length xs ≤ i
past_end xs i none = elim (cases_lt i (length xs)) [ inl near ↦ absurd (never_past xs i near none) | inr past ↦ past ]

-- nothing is refused if the worker was lost
pub none_in : (r : Result (Option StepAt) OutOfMemory) → IsErr r → fault_in r ≡ None
none_in (Ok found) is = absurd (true≢false (sym is))
none_in (Err lost) is = refl

-- a trace was walked to its end
pub walked-whole : TraceFactsAreTheChains → BeginningsKeepTheirChains → (keys : ℕ) (start now : View) (t : List Event) (walk : Walk) → length t ≤ walk.place → IsWalking keys start now t walk → HasWalked keys start now t (Ok None)
walked-whole chain_facts keep keys start now t walk past walking =
    let same = before_fault-whole chain_facts keep t walk.place past walking.after.well_formed in
    record {
      claimed = walking.gathered.claimed;
      puts = gathered_puts keys start now t walk.place (HasBeforeFault t) same walking.gathered;
      knows = gathered_knows keys start now t walk.place (HasBeforeFault t) same walking.gathered;
      fault = subst IsWellFormed (take_all walk.place t past) walking.after.well_formed;
    }

-- it was walked to its first event that isn't allowed
pub walked-refused : TraceFactsAreTheChains → BeginningsKeepTheirChains → BeginningsKeepTheirFaults → (keys : ℕ) (start now : View) (t : List Event) (walk : Walk) (found : StepAt) → WalksOn keys start now walk t (Some found)
    → HasWalked keys start now t (Ok (Some found))
walked-refused chain_facts keep keep_faults keys start now t walk found on =
    let same = before_fault-refused chain_facts keep keep_faults t found.place found.fault on.1 on.0 in
    record {
      claimed = on.2.claimed;
      puts = gathered_puts keys start now t found.place (HasBeforeFault t) same on.2;
      knows = gathered_knows keys start now t found.place (HasBeforeFault t) same on.2;
      fault = on.0;
    }

-- the worker was lost
pub walked-lost : TraceFactsAreTheChains → (keys : ℕ) (start now : View) (t : List Event) (walk : Walk) (r : Result (Option StepAt) OutOfMemory) → IsErr r → IsWalking keys start now t walk → HasWalked keys start now t r
walked-lost chain_facts keys start now t walk (Ok found) is walking = absurd (true≢false (sym is))
walked-lost chain_facts keys start now t walk (Err lost) is walking = record {
  claimed = walking.gathered.claimed;
  puts = PutsOnly-more keys start now (ChainsHave (chains (take walk.place t))) (HasBeforeFault t) (beginning_has chain_facts t walk.place walking.after.well_formed) walking.gathered.puts;
  knows = tt;
  fault = tt;
}

-- ---- whether an event makes a chain
pub made-some : {A : Type 0} (b : Bool) (answer : Option A) (x : A) → (IsSome answer ↔ IsTrue b) → answer ≡ Some x → from_bool b ≡ 1
made-some b answer x made is = ap from_bool (made.0 (ap is_some is))

pub made-none : {A : Type 0} (b : Bool) (answer : Option A) → (IsSome answer ↔ IsTrue b) → answer ≡ None → from_bool b ≡ 0
made-none true answer made is = absurd (true≢false (sym (made.1 refl) ∙ ap is_some is))
made-none false answer made is = refl

-- an event of the trace stands below its length
pub place_below : {A : Type 0} (xs : List A) (i most : ℕ) (o : Option A) → o ≡ slice_get xs i → length xs ≤ most → IfSome o (λ x. i < most)
place_below xs i most (Some x) is few = let within = slice_get_within xs i x (sym is) in omega (arith, within, few)
place_below xs i most None is few = tt

-- what holds in any case holds if it went well
pub on_ok : {A E : Type 0} {P : Type 0} (r : Result A E) → P → OnOk r P
on_ok (Ok x) p = p
on_ok (Err e) p = tt
