use Rattle.std.proofs.Common.{rules, All, sym, subst, ◌∙◌}
use Rattle.ld_trace.specs.Events.{KeysBelow}
use Rattle.ld_board.specs.Boards.{IsSeatOf}
use Rattle.ld_run.specs.declared.worker.Worked.{Worked}
use Rattle.ld_board.specs.Laws.Seats.{all_last}
use Rattle.tests_high.proofs.boards.two_workers_in_threads_of_the_callers_own.Goals as goal

pub close_two-requires : goal.close_two-requires
close_two-requires g c =
    let Own : Worked → Type 0 = λ w. IsSeatOf c.in_ok-board.board w.seat in
    let last = all_last Own c.pop.new.self.items c.in-Some-Some.two c.in_ok-done.done.items c.in-Some-Some.ensures.items c.in_ok-done.ensures in
    let first = all_last Own c.pop-2.new.self.items c.in-Some-Some.one c.pop.new.self.items c.in-Some-Some.ensures'.items last.0 in
    (first.1, last.1)

pub work_in_threads-requires-clause-below : goal.work_in_threads-requires-clause-below
work_in_threads-requires-clause-below g c = λ _.
    let below : All (KeysBelow 2) c.deref.result.now = c.are_below.ensures (search rules) in
    subst (λ k. All (KeysBelow k) c.deref-2.result.now) (sym c.in_ok-board.ensures.ok.0)
    (subst (All (KeysBelow 2)) (c.deref.ensures.value ∙ sym c.deref-2.ensures.value) below)
