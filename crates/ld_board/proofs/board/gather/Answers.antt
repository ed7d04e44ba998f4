use Rattle.ld_board.proofs.Names.{◌+◌, ◌∙◌, ◌≡◌, Seat, View, all_last, ap, arith, joined, joined_onto, sym}
use Rattle.ld_board.proofs.Moves.{joins}
use Rattle.ld_board.proofs.SeatLists.{joined_onto_last}
use Rattle.ld_board.proofs.board.gather.Goals as goal

pub join_seat-requires : goal.join_seat-requires
join_seat-requires c =
    let i = c.loop-next.invariant in
    let s = all_last (λ (s : Seat). s.seat.table_id ≡ c.args.table.now.shared.table_id) c.pop.new.self.items c.in-Some.next c.loop-next.seats.items c.in-Some.ensures.items i.4 in
    (i.0, s.1, c.in-Some.next.no_slot, c.requires.words, joins _ _ _ _ _ i.3)

pub loop-next-preserved : goal.loop-next-preserved
loop-next-preserved c =
    let i = c.loop-next.invariant in
    let j = c.join_seat.ensures in
    let s = all_last (λ (s : Seat). s.seat.table_id ≡ c.args.table.now.shared.table_id) c.pop.new.self.items c.in-Some.next c.loop-next.seats.items c.in-Some.ensures.items i.4 in
    let now : c.join_seat.new.seat.me.0 ≡ joined c.loop-next.one.me.0 c.in-Some.next.seat.me.0 = ap (λ m. m.0) j.2 in
    let parts : c.join_seat.new.seat.me.0.parts ≡ c.loop-next.one.me.0.parts + c.in-Some.next.seat.me.0.parts = ap (λ (v : View). v.parts) now in
    let one = c.in-Some.next.one_part in
    let len = c.in-Some.ensures.len in
    let old = i.2 in (
      j.0 ∙ i.0,
      ap (λ (v : View). joined_onto v c.pop.new.self.items) now ∙ sym (joined_onto_last c.loop-next.one.me.0 c.pop.new.self.items c.in-Some.next) ∙ ap (joined_onto c.loop-next.one.me.0) (sym c.in-Some.ensures.items) ∙ i.1,
      omega arith,
      omega arith,
      s.0,
    )
