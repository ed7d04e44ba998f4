-- Walking traces, and adding up their facts.
use Rattle.ld_run.proofs.Names.{[], ◌++◌, ◌+◌, ◌<◌, ◌↔◌, ◌∙◌, ◌∷◌, ◌≡◌, ◌≤◌, ◌⊎◌, Adds, All, All-append, All-push, Any, Any-push, AreSame, AreWalked, CalledBy, Contains-append_cases, Contains-append_left, Contains-append_right, Event, Fact, FactParts, HasFact, IsFirstRefused, IsWellFormed, List, Some, StepAt, StopsWalk, TraceHas, TracesHave, ap, arith, drop, drop-take, get_or, get_or-drop, get_or-take, get_or_from_slice_get, inl, inr, length, length-drop, length-take, refl, slice_get, slice_get-get_or, slice_get_within, subst, suc, sym, take, take-append-drop, take_more, zero, ℕ}
use Rattle.std.specs.Borrow.{Bor}
use Rattle.std.specs.Prelude.{Option, None, slice_index}
use Rattle.ld_facts.specs.Renaming.{RenamedFactsAreTheImage}
use Rattle.ld_run.specs.Inside.Walked.{CompletesCalled}
use Rattle.ld_run.specs.Runs.{CompletesRunBy}
use Rattle.ld_run.specs.declared.shares.Unwalked.{Unwalked}
use Rattle.ld_run.specs.declared.shares.Unwalked.TheVariants.{Memory, Refused}

no_traces : (x : Fact) → TracesHave [] x → ⊥
no_traces x any = let l = any.2 in omega (arith, l)

-- ---- facts by what their keys are called
-- those of a set are those of two others, if the set is
pub CalledBy-either : (others : Option (Bor (List ℕ))) (R P Q : Fact → Type 0) → ((y : Fact) → R y ↔ (P y ⊎ Q y)) → (x : Fact) →
    CalledBy others R x ↔ (CalledBy others P x ⊎ CalledBy others Q x)
CalledBy-either None R P Q each x = each x
CalledBy-either (Some keys) R P Q each x = (
  (λ (y, has, is). elim ((each y).0 has) [ inl p ↦ inl (y, p, is) | inr q ↦ inr (y, q, is) ]),
  (λ h. elim h [ inl (y, p, is) ↦ (y, (each y).1 (inl p), is) | inr (y, q, is) ↦ (y, (each y).1 (inr q), is) ]),
)

-- there are none where the set has none
pub CalledBy-none : (others : Option (Bor (List ℕ))) (P : Fact → Type 0) → ((y : Fact) → ¬ P y) → (x : Fact) → ¬ CalledBy others P x
CalledBy-none None P none x h = none x h
CalledBy-none (Some keys) P none x (y, has, is) = none y has

-- they are the same where the sets are
pub CalledBy-same : (others : Option (Bor (List ℕ))) (P Q : Fact → Type 0) → AreSame P Q → AreSame (CalledBy others P) (CalledBy others Q)
CalledBy-same None P Q same x = same x
CalledBy-same (Some keys) P Q same x = (
  (λ (y, has, is). (y, (same y).0 has, is)),
  (λ (y, has, is). (y, (same y).1 has, is)),
)

pub AreWalked-none : (others : Option (Bor (List ℕ))) (keys : ℕ) (facts : FactParts) → facts.keys ≡ keys → ((x : Fact) → ¬ HasFact facts x) → AreWalked others keys [] facts
AreWalked-none others keys facts are none = record {
  keys_are = are;
  well_formed = λ k d l. absurd (omega (arith, l));
  facts_are = λ x. ((λ h. absurd (none x h)), (λ h. absurd (CalledBy-none others (TracesHave []) no_traces x h)));
}

-- one more trace, whose facts were added
pub AreWalked-next : (others : Option (Bor (List ℕ))) (keys : ℕ) (old new : FactParts) (traces : List (List Event)) (i : ℕ) (t : List Event) → slice_get traces i ≡ Some t → i < length traces → IsWellFormed t → new.keys ≡ old.keys → Adds (HasFact old) (HasFact new) (CalledBy others (TraceHas t)) → AreWalked others keys (take i traces) old → AreWalked others keys (take (i + 1) traces) new
AreWalked-next others keys old new traces i t is within well same adds before =
    let longer : take (i + 1) traces ≡ take i traces ++ t ∷ [] = take_more traces i t within ∙ ap (λ x. take i traces ++ x ∷ []) (get_or_from_slice_get traces i t t is) in
    record {
      keys_are = same ∙ before.keys_are;
      well_formed = subst (All IsWellFormed) (sym longer) (All-push IsWellFormed (take i traces) t before.well_formed well);
      facts_are = subst (λ ts. AreSame (HasFact new) (CalledBy others (TracesHave ts))) (sym longer) (λ x.
          let more = CalledBy-either others (TracesHave (take i traces ++ t ∷ [])) (TracesHave (take i traces)) (TraceHas t)
          (λ y. Any-push (λ u. TraceHas u y) (take i traces) t) x in (
            (λ h. more.1 (elim ((adds x).0 h) [ inl o ↦ inl ((before.facts_are x).0 o) | inr y ↦ inr y ])),
            (λ h. (adds x).1 (elim (more.0 h) [ inl b ↦ inl ((before.facts_are x).1 b) | inr y ↦ inr y ])),
          ));
    }

-- ---- both parts of the traces
take_of_take : {X : Type 0} (i n : ℕ) (xs : List X) → i ≤ n → take i (take n xs) ≡ take i xs
take_of_take zero n xs le = refl
take_of_take (suc i) zero xs le = absurd (omega (arith, le))
take_of_take (suc i) (suc n) [] le = refl
take_of_take (suc i) (suc n) (x ∷ xs) le = ap (λ ys. x ∷ ys) (take_of_take i n xs (omega (arith, le)))

-- the first n members, and m of those after them
take_further : {X : Type 0} (n m : ℕ) (xs : List X) → take n xs ++ take m (drop n xs) ≡ take (n + m) xs
take_further n m xs = subst (λ ys. ys ++ take m (drop n xs) ≡ take (n + m) xs) (take_of_take n (n + m) xs (omega arith))
    (subst (λ ys. take n (take (n + m) xs) ++ ys ≡ take (n + m) xs) (drop-take n m xs) (take-append-drop n (take (n + m) xs)))

slice_get_of_drop : {X : Type 0} (n k : ℕ) (xs : List X) (x : X) → slice_get (drop n xs) k ≡ Some x → slice_get xs (n + k) ≡ Some x
slice_get_of_drop n k xs x at =
    let within = slice_get_within (drop n xs) k x at in
    let long = length-drop n xs in
    let read : get_or xs (n + k) x ≡ x = sym (get_or-drop n xs k x) ∙ get_or_from_slice_get (drop n xs) k x x at in
    slice_get-get_or xs (n + k) x (omega (arith, within, long)) ∙ ap Some read

Any-append : {X : Type 0} (P : X → Type 0) (xs ys : List X) → Any P (xs ++ ys) ↔ (Any P xs ⊎ Any P ys)
Any-append P xs ys = (
  (λ (k, x, l, e, h). elim (Contains-append_cases xs ys x (k, l, e)) [
    | inl (i, il, ie) ↦ inl (i, x, il, ie, h)
    | inr (i, il, ie) ↦ inr (i, x, il, ie, h)
  ]),
  (λ any. elim any [
    | inl (k, x, l, e, h) ↦ (let c = Contains-append_left xs ys x (k, l, e) in (c.0, x, c.1, c.2, h))
    | inr (k, x, l, e, h) ↦ (let c = Contains-append_right xs ys x (k, l, e) in (c.0, x, c.1, c.2, h))
  ]),
)

module _ (traces : List (List Event)) (place : ℕ) where
  abbrev low : List (List Event)
  low = take place traces

  abbrev high : List (List Event)
  high = drop place traces

  -- the facts of both were united
  pub AreWalked-both : (others : Option (Bor (List ℕ))) (keys : ℕ) (old more new : FactParts) → new.keys ≡ old.keys → Adds (HasFact old) (HasFact new) (HasFact more) → AreWalked others keys low old → AreWalked others keys high more → AreWalked others keys traces new
  AreWalked-both others keys old more new same adds first second =
      let whole : low ++ high ≡ traces = take-append-drop place traces in
      record {
        keys_are = same ∙ first.keys_are;
        well_formed = subst (All IsWellFormed) whole (All-append IsWellFormed low high first.well_formed second.well_formed);
        facts_are = subst (λ ts. AreSame (HasFact new) (CalledBy others (TracesHave ts))) whole (λ x.
            let both = CalledBy-either others (TracesHave (low ++ high)) (TracesHave low) (TracesHave high) (λ y. Any-append (λ u. TraceHas u y) low high) x in (
              (λ h. both.1 (elim ((adds x).0 h) [ inl o ↦ inl ((first.facts_are x).0 o) | inr y ↦ inr ((second.facts_are x).0 y) ])),
              (λ h. (adds x).1 (elim (both.0 h) [ inl b ↦ inl ((first.facts_are x).1 b) | inr y ↦ inr ((second.facts_are x).1 y) ])),
            ));
      }

  -- the first refused trace of the first ones is the first of all
  pub refused-low : (trace : ℕ) (found : StepAt) → IsFirstRefused low trace found → IsFirstRefused traces trace found
  refused-low trace found is =
      let within = slice_get_within low trace is.refused is.at in
      let long = length-take place traces in
      let near : trace < place = omega (arith, within, long) in
      record {
        refused = is.refused;
        at = slice_get-get_or traces trace is.refused (omega (arith, within, long))
            ∙ ap Some (sym (get_or-take place traces trace is.refused near) ∙ get_or_from_slice_get low trace is.refused is.refused is.at);
        fault = is.fault;
        before = subst (All IsWellFormed) (take_of_take trace place traces (omega (arith, near))) is.before;
      }

  pub stops-low : (unwalked : Unwalked) → StopsWalk low unwalked → StopsWalk traces unwalked
  stops-low Memory stops = tt
  stops-low (Refused trace found) stops = refused-low trace found stops

  -- that of the others, if all of the first ones are well formed
  pub refused-high : (trace : ℕ) (found : StepAt) → All IsWellFormed low → IsFirstRefused high trace found → IsFirstRefused traces (place + trace) found
  refused-high trace found well is = record {
    refused = is.refused;
    at = slice_get_of_drop place trace traces is.refused is.at;
    fault = is.fault;
    before = subst (All IsWellFormed) (take_further place trace traces) (All-append IsWellFormed low (take trace high) well is.before);
  }

-- ---- a run of them
-- facts by what keys are called in a list are those under that renaming
pub CompletesRunBy-called : RenamedFactsAreTheImage → (others : Bor (List ℕ)) (traces : List (List Event)) (workers : ℕ) (facts : FactParts) →
    CompletesCalled (Some others) traces workers facts → CompletesRunBy (slice_index others.now) traces workers facts
CompletesRunBy-called law others traces workers facts run = record {
  crew = run.crew;
  few = run.few;
  well_formed = run.well_formed;
  facts_are = λ x. let same = law (slice_index others.now) traces x in (
    (λ h. same.1 ((run.facts_are x).0 h)),
    (λ h. (run.facts_are x).1 (same.0 h)),
  );
}
