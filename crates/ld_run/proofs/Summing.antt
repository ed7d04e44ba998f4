-- Going along a trace, and adding up the facts of its chains.
use Rattle.ld_run.proofs.Names.{[], ◌++◌, ◌+◌, ◌∙◌, ◌∷◌, ◌≡◌, ◌≤◌, ◌⊎◌, Adds, Any-push, CalledBy, ChainHas, ChainParts, ChainsHave, EndState, Event, Fact, FactParts, GoesAlong, GoesOn, HasFact, HasThere, Holds, IsStateAfter, IsSumming, IsWellFormed, List, None, Ok, Option, Result, Some, StepFault, TraceFactsAreTheChains, TraceHas, append-nil, fact_by, in_facts, inl, inr, length, refl, subst, sym, take, take_all, ℕ}
use Rattle.ld_task.specs.Positions.{positions_below}
use Rattle.ld_task.specs.TraceChains.{chains}
use Rattle.std.specs.Borrow.{Bor}
use Rattle.std.specs.Prelude.{slice_index}
use Rattle.ld_run.specs.declared.known_steps.Walk.{Walk}
use Rattle.ld_run.proofs.Walking.{no_chains}
use Rattle.ld_run.proofs.WalkedLemmas.{CalledBy-either, CalledBy-none, CalledBy-same}

-- before the first event
pub IsSumming-none : (others : Option (Bor (List ℕ))) (start : FactParts) (t : List Event) (walk : Walk) → walk.place ≡ 0 → IsStateAfter t 0 walk.state → IsSumming others start start t walk.place walk.state
unfolding chains positions_below
IsSumming-none others start t walk place after = subst (λ n. IsSumming others start start t n walk.state) (sym place) (record {
  after = after;
  keys_are = refl;
  facts_are = λ x. ((λ h. inl h), (λ h. elim h [ inl old ↦ old | inr none ↦ absurd (CalledBy-none others (ChainsHave (chains (take 0 t))) no_chains x none) ]));
})

-- one more event with a chain, whose facts were added
pub IsSumming-chain : (others : Option (Bor (List ℕ))) (start old new : FactParts) (t : List Event) (n : ℕ) (state next : EndState) (r : Result (Option ChainParts) StepFault) (c : ChainParts) → r ≡ Ok (Some c) → GoesOn t n next r → new.keys ≡ old.keys → Adds (HasFact old) (HasFact new) (CalledBy others (ChainHas c)) → IsSumming others start old t n state → IsSumming others start new t (n + 1) next
IsSumming-chain others start old new t n state next r c is on same adds before =
    let after = subst (λ x. GoesOn t n next x) is on in
    let cs : List ChainParts = chains (take n t) in
    let more = CalledBy-either others (ChainsHave (cs ++ c ∷ [])) (ChainsHave cs) (ChainHas c) (λ x. Any-push (λ y. ChainHas y x) cs c) in
    record {
      after = after.0;
      keys_are = same ∙ before.keys_are;
      facts_are = subst (λ ds. Adds (HasFact start) (HasFact new) (CalledBy others (ChainsHave ds))) (sym after.1) (λ x. (
        (λ h. elim ((adds x).0 h) [
          | inl was ↦ elim ((before.facts_are x).0 was) [ inl s ↦ inl s | inr b ↦ inr ((more x).1 (inl b)) ]
          | inr y ↦ inr ((more x).1 (inr y))
        ]),
        (λ h. (adds x).1 (elim h [
          | inl s ↦ inl ((before.facts_are x).1 (inl s))
          | inr m ↦ elim ((more x).0 m) [ inl b ↦ inl ((before.facts_are x).1 (inr b)) | inr y ↦ inr y ]
        ])),
      ));
    }

-- one more event without one
pub IsSumming-same : (others : Option (Bor (List ℕ))) (start facts : FactParts) (t : List Event) (n : ℕ) (state next : EndState) (r : Result (Option ChainParts) StepFault) → r ≡ Ok None → GoesOn t n next r → IsSumming others start facts t n state → IsSumming others start facts t (n + 1) next
IsSumming-same others start facts t n state next r is on before =
    let after = subst (λ x. GoesOn t n next x) is on in
    record {
      after = after.0;
      keys_are = before.keys_are;
      facts_are = subst (λ cs. Adds (HasFact start) (HasFact facts) (CalledBy others (ChainsHave cs))) (sym (after.1 ∙ append-nil (chains (take n t)))) before.facts_are;
    }

-- ---- by steps that are known
-- what a chain's facts are called is there once they were added, and what was there still is
pub chain_is_there : (others : Option (Bor (List ℕ))) (old new : FactParts) (P : Fact → Type 0) → Adds (HasFact old) (HasFact new) (CalledBy others P) → Holds (HasThere (in_facts others new)) P
chain_is_there None old new P adds = λ x h. (adds x).1 (inr h)
chain_is_there (Some keys) old new P adds = λ x h. (adds (fact_by (slice_index keys.now) x)).1 (inr (x, h, refl))

pub stays_there : (others : Option (Bor (List ℕ))) (old new : FactParts) → Holds (HasFact new) (HasFact old) → Holds (HasThere (in_facts others new)) (HasThere (in_facts others old))
stays_there None old new up = up
stays_there (Some keys) old new up = λ x h. up (fact_by (slice_index keys.now) x) h

-- facts that are each in the one set or there are called by what the one set's are, or are among the facts
called_there : (others : Option (Bor (List ℕ))) (facts : FactParts) (P Q : Fact → Type 0) → ((y : Fact) → Q y → P y ⊎ HasThere (in_facts others facts) y) → (x : Fact) → CalledBy others Q x → CalledBy others P x ⊎ HasFact facts x
called_there None facts P Q known x h = known x h
called_there (Some keys) facts P Q known x (y, has, is) = elim (known y has) [ inl p ↦ inl (y, p, is) | inr there ↦ inr (subst (HasFact facts) is there) ]

called_more : (others : Option (Bor (List ℕ))) (P Q : Fact → Type 0) → Holds Q P → Holds (CalledBy others Q) (CalledBy others P)
called_more None P Q up x h = up x h
called_more (Some keys) P Q up x (y, has, is) = (y, up y has, is)

-- the walk goes on, and nothing has to be added
pub IsSumming-along : (others : Option (Bor (List ℕ))) (start facts : FactParts) (t : List Event) (from to : Walk) → GoesAlong (in_facts others facts) t from to → IsSumming others start facts t from.place from.state → IsSumming others start facts t to.place to.state
IsSumming-along others start facts t from to along now =
    let before : Fact → Type 0 = ChainsHave (chains (take from.place t)) in
    let all : Fact → Type 0 = ChainsHave (chains (take to.place t)) in
    record {
      after = along.after;
      keys_are = now.keys_are;
      facts_are = λ x. (
        (λ h. elim ((now.facts_are x).0 h) [ inl s ↦ inl s | inr b ↦ inr (called_more others before all along.keeps x b) ]),
        (λ h. elim h [
          | inl s ↦ (now.facts_are x).1 (inl s)
          | inr m ↦ elim (called_there others facts before all along.knows x m) [ inl b ↦ (now.facts_are x).1 (inr b) | inr there ↦ there ]
        ]),
      );
    }

-- ---- at the end of the trace
pub IsSumming-well_formed : (others : Option (Bor (List ℕ))) (start facts : FactParts) (t : List Event) (n : ℕ) (state : EndState) → length t ≤ n → IsSumming others start facts t n state → IsWellFormed t
IsSumming-well_formed others start facts t n state past now = subst IsWellFormed (take_all n t past) now.after.well_formed

pub IsSumming-whole : TraceFactsAreTheChains → (others : Option (Bor (List ℕ))) (start facts : FactParts) (t : List Event) (n : ℕ) (state : EndState) → length t ≤ n → IsSumming others start facts t n state → Adds (HasFact start) (HasFact facts) (CalledBy others (TraceHas t))
IsSumming-whole law others start facts t n state past now x =
    let all = subst (λ u. Adds (HasFact start) (HasFact facts) (CalledBy others (ChainsHave (chains u)))) (take_all n t past) now.facts_are in
    let same = CalledBy-same others (TraceHas t) (ChainsHave (chains t)) (law t) x in (
      (λ h. elim ((all x).0 h) [ inl s ↦ inl s | inr c ↦ inr (same.1 c) ]),
      (λ h. (all x).1 (elim h [ inl s ↦ inl s | inr has ↦ inr (same.0 has) ])),
    )
