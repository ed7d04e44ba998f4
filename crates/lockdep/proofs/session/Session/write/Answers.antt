use Rattle.lockdep.proofs.Names.{◌↔◌, All, Appends, HasFact, IfErr, IfOk-from_err, IsClean, IsTextOf, IsTrue, IsWellFormed, List, SessionParts, StopsText, TracesHave, clean_is-same, subst, view_of, ℕ}
use Rattle.lockdep.proofs.FaultLemmas.{StopsText-settled, bad_workers_is, too_many_is}
use Rattle.lockdep.proofs.ProgramLemmas.{IfErr-passed}
use Rattle.lockdep.proofs.session.Session.write.Goals as goal

pub returns-in_err-settled-clause-refused : goal.returns-in_err-settled-clause-refused
returns-in_err-settled-clause-refused g c =
    let known = g.W.Write.contents c.args.w.now in
    let output = view_of c.args.output in
    subst (λ (s : SessionParts). IfErr c.from_residual.result (StopsText output s.traces s.names c.args.workers known known))
    c.self.view_is
    (IfErr-passed c.from_residual.result _ _ c.from_residual.ensures
    (rw c.as_slice-traces.ensures.value at (c.in_err-settled.ensures.refused known output)))

pub returns-in_err-settled-clause-bad_workers : goal.returns-in_err-settled-clause-bad_workers
returns-in_err-settled-clause-bad_workers g c =
    let known = g.W.Write.contents c.args.w.now in
    bad_workers_is (view_of c.args.output) c.args.self.traces c.args.self.names c.args.workers known known c.from_residual.result
    (IfOk-from_err c.from_residual.result _ c.from_residual.ensures.0) (returns-in_err-settled-clause-refused g c)

pub returns-in_err-settled-clause-too_many : goal.returns-in_err-settled-clause-too_many
returns-in_err-settled-clause-too_many g c =
    let known = g.W.Write.contents c.args.w.now in
    too_many_is (view_of c.args.output) c.args.self.traces c.args.self.names c.args.workers known known c.from_residual.result
    (IfOk-from_err c.from_residual.result _ c.from_residual.ensures.0) (returns-in_err-settled-clause-refused g c)

pub returns-in_err-write_output-clause-refused : goal.returns-in_err-write_output-clause-refused
returns-in_err-write_output-clause-refused g c =
    let old = g.W.Write.contents c.args.w.now in
    let new = g.W.Write.contents c.write_output.new.w in
    let output = view_of c.args.output in
    let ran = c.in_ok-settled.ensures.ok in
    subst (λ (s : SessionParts). IfErr c.from_residual-in_err-write_output.result (StopsText output s.traces s.names c.args.workers old new))
    c.self.view_is
    (IfErr-passed c.from_residual-in_err-write_output.result _ _ c.from_residual-in_err-write_output.ensures
    (rw c.as_slice-traces.ensures.value at (StopsText-settled output c.as_slice-traces.result.now c.self.inside.keys.names c.args.workers old new
    ran.crew ran.few ran.well_formed _ c.in_err-write_output.ensures.err)))

pub returns-clause-ok : goal.returns-clause-ok
returns-clause-ok g c =
    let old = g.W.Write.contents c.args.w.now in
    let new = g.W.Write.contents c.write_output.new.w in
    let ran = c.in_ok-settled.ensures.ok in
    subst (λ (s : SessionParts). All IsWellFormed s.traces
    × (IsTrue c.is_clean.result ↔ IsClean (TracesHave s.traces))
    × ((x : List ℕ) × IsTextOf (view_of c.args.output) s.traces s.names x × Appends old new x))
    c.self.view_is (
      rw c.as_slice-traces.ensures.value at ran.well_formed,
      rw c.as_slice-traces.ensures.value at (clean_is-same (HasFact c.in_ok-settled.settled) (TracesHave c.as_slice-traces.result.now) ran.facts_are c.is_clean.result c.is_clean.ensures),
      rw c.as_slice-traces.ensures.value at c.in_ok-write_output.ensures.ok,
    )
