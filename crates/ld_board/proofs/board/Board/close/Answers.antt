use Rattle.ld_board.proofs.Names.{◌%◌, ◌+◌, ◌/◌, ◌↔◌, ◌∙◌, ◌≡◌, Fact, FactBelow, HasFact, Knows, NonePast, Seat, View, all_last, arith, bit_at, fact_number, gathered, slice_index, slots_items, subst, sym, ℕ}
use Rattle.ld_board.proofs.Moves.{knows}
use Rattle.ld_board.proofs.SeatFacts.{closed_put, closed_seen, closed_claims}
use Rattle.ld_board.proofs.SeatLists.{gathered_is}
use Rattle.ld_board.proofs.board.Board.close.Goals.{After-closed-1, After-free}
use Rattle.ld_board.proofs.board.Board.close.Goals as goal

pub gather-one-requires-clause-seats : goal.gather-one-requires-clause-seats
gather-one-requires-clause-seats c = (all_last (λ (s : Seat). s.seat.table_id ≡ c.args.self.table.shared.table_id) c.pop.new.self.items c.in-Some.last c.args.seats.items c.in-Some.ensures.items c.requires).0

pub free-requires : goal.free-requires
free-requires c =
    let none = c.args.self.no_slots in
    let n = c.close_with-closed.ensures.counts.1 in
    λ k l. absurd (omega arith)

known : (c : After-closed-1) → Knows c.args.self.keys (gathered c.args.seats.items) (slots_items c.close_with-closed.result.words)
known c =
    let seats = c.args.self.seated.0 in
    let test = c.if-len-self.false in
    let len = c.in-Some.ensures.len in
    let parts = c.gather-one.ensures.parts in
    let length_is = c.len.ensures in
    let whole = knows c.args.self.table.shared.key _ c.gather-one.result.me.0 _ _ (omega arith) c.close_with-closed.ensures.values.2 in
    let view_is = c.gather-one.ensures.view ∙ gathered_is c.pop.new.self.items c.in-Some.last c.args.seats.items c.in-Some.ensures.items in
    subst (λ (v : View). Knows c.args.self.keys v (slots_items c.close_with-closed.result.words)) view_is
    (subst (λ keys. Knows keys c.gather-one.result.me.0 (slots_items c.close_with-closed.result.words)) c.args.self.keyed whole)

pub unite_words-requires-clause-none_past : goal.unite_words-requires-clause-none_past
unite_words-requires-clause-none_past c = λ n.
    let k = known c in
    subst (λ (p : ℕ × ℕ). NonePast p.0 (n, p.1)) (λ i. (sym c.in_ok-facts.ensures.keys i, sym (k.bits n) i)) (k.none_past n)

same : (c : After-free) → (x : Fact) → HasFact c.unite_words.new.facts x ↔ (FactBelow c.args.self.keys x × (bit_at (slice_index (slots_items c.close_with-closed.result.words) (fact_number c.args.self.keys x / 64 + 1)) (fact_number c.args.self.keys x % 64) ≡ 1))
same c x =
    subst (λ keys. HasFact c.unite_words.new.facts x ↔ (FactBelow keys x × (bit_at (slice_index (slots_items c.close_with-closed.result.words) (fact_number keys x / 64 + 1)) (fact_number keys x % 64) ≡ 1)))
    c.in_ok-facts.ensures.keys (c.unite_words.ensures.facts x)

pub returns-clause-put : goal.returns-clause-put
returns-clause-put c = closed_put c.args.self.keys c.args.seats.items (slots_items c.close_with-closed.result.words) (known (goal.at.returns-clause-put c).After-closed-1) c.unite_words.new.facts (same c)

pub returns-clause-seen : goal.returns-clause-seen
returns-clause-seen c = closed_seen c.args.self.keys c.args.seats.items (slots_items c.close_with-closed.result.words) (known (goal.at.returns-clause-seen c).After-closed-1) c.unite_words.new.facts (same c)

pub returns-clause-claimed : goal.returns-clause-claimed
returns-clause-claimed c = closed_claims c.args.self.keys c.args.seats.items (slots_items c.close_with-closed.result.words) (known (goal.at.returns-clause-claimed c).After-closed-1) c.unite_words.new.facts (same c)
