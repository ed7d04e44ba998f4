use Rattle.ld_text.proofs.Names.{◌<◌, ◌∙◌, Any, Dependency, HasFact, InTurn, Kind, Leads, List, ShowsEdge, arith, arrow, inl, inr, kinds, length, length-set, refl, slice_index, slice_index_or, take_all, true, ℕ}
use Rattle.ld_text.proofs.GroupLemmas.{GrowsBy-more, GrowsBy-none, GrowsBy-nothing, InTurn-nothing}
use Rattle.ld_text.proofs.JoinedLemmas.{IsFoundArrow-dependency, at-place, done-kept, done-set, from-place, next-same, next-true, rest-set}
use Rattle.ld_text.proofs.PictureGrowing.{none-yet, says-false}
use Rattle.ld_text.proofs.picture.PictureView.add_edges_from.Goals as goal
use Rattle.ld_text.proofs.picture.PictureView.add_edges_from.Goals.{then-branch, else-branch}

-- no dependency leads from the key
none_from : (c : goal.Then-not-leads_on) → (to : ℕ) (kind : Kind) → ¬ HasFact c.args.self.settled.now (Dependency c.args.from to kind)
none_from c to kind has =
    let on = c.leads_on.ensures.1 (rw (c.facts.ensures, c.get.ensures.value) (to, kind, has)) in let none = c.if-not-leads_on.true in cc

none_found : (c : goal.Then-not-leads_on) → (to : ℕ) → ¬ Leads (HasFact c.args.self.settled.now) c.args.from to
none_found c to (i, kind, within, is, found) =
    none_from c to kind (IsFoundArrow-dependency (HasFact c.args.self.settled.now) (arrow c.args.from to kind) found)

pub returns-then-not-leads_on-clause-text : goal.returns-then-not-leads_on-clause-text
returns-then-not-leads_on-clause-text c =
    let Shows : ℕ → Kind → List ℕ → Type 0 =
    λ to kind. ShowsEdge (HasFact c.args.self.settled.now) c.args.self.names.now.names c.args.self.only (arrow c.args.from to kind) in
    GrowsBy-nothing _ _ (InTurn-nothing (λ to. InTurn (Shows to) kinds)
    (λ to. InTurn-nothing (Shows to) (λ kind. inr (none_from c to kind, refl)) kinds) c.args.self.keys.now)

pub returns-then-not-leads_on-clause-marks : goal.returns-then-not-leads_on-clause-marks
returns-then-not-leads_on-clause-marks c = λ n within. (
  (λ h. inl h),
  (λ h. elim h [ inl was ↦ was | inr found ↦ absurd (none_found c _ found) ]),
)

pub returns-then-not-leads_on-clause-any : goal.returns-then-not-leads_on-clause-any
returns-then-not-leads_on-clause-any c =
    says-false (Any (Leads (HasFact c.args.self.settled.now) c.args.from) c.args.self.keys.now) (λ (i, to, within, is, found). none_found c to found)

pub loop-to-init : goal.loop-to-init
loop-to-init c = record { text = GrowsBy-none _; len = refl; done = λ k l. absurd (omega (arith, l)); rest = λ k l. refl; any = says-false _ (none-yet _) }

pub loop-to-preserved : goal.loop-to-preserved
loop-to-preserved c =
    let To = Leads (HasFact c.args.self.settled.now) c.args.from in
    let keys = c.args.self.keys.now in
    let n = c.loop-to.to in
    let d = c.index-self-to.result in
    let i = c.loop-to.invariant in
    let within = c.loop-to-test.true in
    let within_marks : n < length c.loop-to.marks = omega (arith, i.len, within, c.requires) in
    let text = GrowsBy-more _ _ _ _ _ _ _ within i.text c.in_ok-add_edges_to.ensures.text in
    let leads = c.in_ok-add_edges_to.ensures.leads in
    elim c.if-branch.branch [
      | then-branch w ↦
          let there : To (slice_index_or keys n d) = leads.0 w.if-branch.true in
          rw (w.marks-is, w.any-is) record {
            text = text;
            len = length-set c.loop-to.marks n true ∙ i.len;
            done = done-set (λ k. To (slice_index keys k)) c.args.marks.now c.loop-to.marks n within_marks i.done i.rest (at-place To keys n d within there);
            rest = rest-set (λ k. To (slice_index keys k)) c.args.marks.now c.loop-to.marks n within_marks i.done i.rest;
            any = next-true To keys n d within there;
          }
      | else-branch w ↦
          let isnt : ¬ To (slice_index_or keys n d) = λ there. (let is = leads.1 there in let no = w.if-branch.false in cc) in
          rw (w.marks-is, w.any-is) record {
            text = text;
            len = i.len;
            done = done-kept (λ k. To (slice_index keys k)) c.args.marks.now c.loop-to.marks n within_marks i.done i.rest (λ p. isnt (from-place To keys n d within p));
            rest = λ k l. i.rest k (omega (arith, l));
            any = next-same To keys n d c.loop-to.any within i.any isnt;
          }
    ]

pub returns-clause-any : goal.returns-clause-any
returns-clause-any c = rw (take_all c.loop-to.to c.args.self.keys.now (omega (arith, c.loop-to-test.false))) at c.loop-to.invariant.any
