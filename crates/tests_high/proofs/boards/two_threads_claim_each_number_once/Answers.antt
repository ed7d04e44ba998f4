use Rattle.ld_board.specs.Boards.{IsSeatOf}
use Rattle.tests_high.specs.declared.boards.Claimed.{Claimed}
use Rattle.ld_board.specs.Laws.Seats.{all_last}
use Rattle.tests_high.proofs.boards.two_threads_claim_each_number_once.Goals as goal

pub close_two-requires : goal.close_two-requires
close_two-requires g c =
    let Own : Claimed → Type 0 = λ d. IsSeatOf c.in_ok-board.board d.seat in
    let last = all_last Own c.pop.new.self.items c.in-Some-Some.two c.in_ok-done.done.items c.in-Some-Some.ensures.items c.in_ok-done.ensures in
    let first = all_last Own c.pop-2.new.self.items c.in-Some-Some.one c.pop.new.self.items c.in-Some-Some.ensures'.items last.0 in
    (c.covers-2.ensures.seat, last.1)
