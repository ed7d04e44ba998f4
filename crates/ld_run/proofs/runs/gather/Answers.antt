use Rattle.ld_run.proofs.Names.{[], ◌++◌, ◌<◌, ◌∙◌, ◌∷◌, ◌≡◌, All, All-cons, All-map, IsSeatOf, List, Seat, Worked, all_last, ap, arith, keys_of, length, map, newcomer, subst, sym, view}
use Rattle.ld_run.proofs.Crews.{IsDone, seats_of, tally_of_all}
use Rattle.ld_run.proofs.runs.gather.Goals as goal

pub close-requires : goal.close-requires
close-requires g c =
    let board = c.in-Ok.board in
    let mine : Seat = c.in-Some.mine in
    let done : List Worked = c.in-Ok-work_in_threads.done.items in
    let items : c.in_ok-back.back.items ≡ seats_of mine done =
    c.in_ok-back.ensures.seats ∙ ap (λ (ss : List Seat). ss ++ map (λ (w : Worked). w.seat) done) (c.push_reserved.ensures.items ∙ ap (λ (ss : List Seat). ss ++ mine ∷ []) c.in-Ok-with_capacity.ensures.items) in
    let New : Seat → Type 0 = λ s. IsSeatOf board s × (view s ≡ newcomer 1) in
    let its : New mine = (all_last New c.pop.new.self.items mine c.in-Ok.seats.items c.in-Some.ensures.items c.in-Ok.ensures.seats).1 in
    subst (All (IsSeatOf board)) (sym items)
    (All-cons (IsSeatOf board) mine (map (λ (w : Worked). w.seat) done) its.0 (All-map (IsSeatOf board) (λ (w : Worked). w.seat) done (λ k d l. (c.in-Ok-work_in_threads.ensures.each k d l).0)))

pub returns-in-Ok-close-clause-tally : goal.returns-in-Ok-close-clause-tally
returns-in-Ok-close-clause-tally g c =
    let board = c.in-Ok.board in
    let mine : Seat = c.in-Some.mine in
    let done : List Worked = c.in-Ok-work_in_threads.done.items in
    let items : c.in_ok-back.back.items ≡ seats_of mine done =
    c.in_ok-back.ensures.seats ∙ ap (λ (ss : List Seat). ss ++ map (λ (w : Worked). w.seat) done) (c.push_reserved.ensures.items ∙ ap (λ (ss : List Seat). ss ++ mine ∷ []) c.in-Ok-with_capacity.ensures.items) in
    let New : Seat → Type 0 = λ s. IsSeatOf board s × (view s ≡ newcomer 1) in
    let its : New mine = (all_last New c.pop.new.self.items mine c.in-Ok.seats.items c.in-Some.ensures.items c.in-Ok.ensures.seats).1 in
    let e = c.in-Ok-close.ensures in
    let b = c.in_ok-back.ensures in
    let len = c.in-Ok-work_in_threads.ensures.len in
    let popped = c.in-Some.ensures.len in
    let opened = c.in-Ok.ensures.ok.2 in
    let crew = c.requires.crew.0 in
    let some : 0 < length done = omega arith in
    let keys = keys_of board in
    let are_done : All (IsDone keys c.args.traces.now) done = λ k d l. ((c.in-Ok-work_in_threads.ensures.each k d l).1, b.none_lost k d l) in
    tally_of_all keys c.args.traces.now mine done c.in_ok-back.back.items c.in-Ok-close.facts c.in_ok-back.refused items its.1 some are_done e.put e.seen e.claimed (b.refused c.args.traces.now)
