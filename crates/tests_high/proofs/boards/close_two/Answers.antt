use Rattle.std.proofs.Common.{◌∷◌, ◌++◌, [], List, All, ap, ◌∙◌, sym, subst}
use Rattle.std.proofs.lemmas.List.Elements.{All-cons, All-nil}
use Rattle.ld_board.specs.Boards.{IsSeatOf}
use Rattle.ld_board.specs.declared.seat.Seat.{Seat}
use Rattle.tests_high.proofs.boards.close_two.Goals as goal

pub close-requires : goal.close-requires
close-requires c =
    let Own : Seat → Type 0 = IsSeatOf c.args.board in
    let items = c.in_ok-push-2.ensures.items ∙ ap (λ (ss : List Seat). ss ++ c.args.two ∷ []) (c.in_ok-push.ensures.items ∙ ap (λ (ss : List Seat). ss ++ c.args.one ∷ []) c.new-back.ensures.items) in
    subst (All Own) (sym items) (All-cons Own c.args.one (c.args.two ∷ []) c.requires.0 (All-cons Own c.args.two [] c.requires.1 (All-nil Own)))
