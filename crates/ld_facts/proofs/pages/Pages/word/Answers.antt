use Rattle.ld_facts.proofs.Names.{[], ◌%◌, ◌/◌, ◌∙◌, ◌≡◌, ap, arith, get_or, get_or_default, sym}
use Rattle.ld_facts.proofs.Paged.{is-below, page-below, words_below-at}
use Rattle.ld_facts.specs.Inside.Pages.{word_in}
use Rattle.ld_facts.proofs.pages.Pages.word.Goals as goal
use Rattle.ld_facts.proofs.pages.Pages.word.Goals.{After-index}

pub index-requires : goal.index-requires
index-requires c =
    let b = page-below c.self.inside.count c.self.inside.pages.cap c.self.inside.places.items c.self.inside.pages.items c.args.self.now c.self.invariant c.self.view_is c.args.i c.requires in
    omega arith

place : (c : After-index) → c.index.result.now ≡ get_or c.self.inside.places.items (c.args.i / 64) 0
place c = c.index.ensures ∙ get_or_default c.self.inside.places.items (c.args.i / 64) c.index.result.now 0
    (page-below c.self.inside.count c.self.inside.pages.cap c.self.inside.places.items c.self.inside.pages.items c.args.self.now c.self.invariant c.self.view_is c.args.i c.requires)

pub index-requires-2 : goal.index-requires-2
index-requires-2 c = let p = place (goal.at.index-requires-2 c).After-index in let w = c.self.invariant.within (c.args.i / 64) in omega arith

pub returns : goal.returns
returns c =
    let p = place (goal.at.returns c).After-index in
    let page : c.index-2.result.now ≡ get_or c.self.inside.pages.items (get_or c.self.inside.places.items (c.args.i / 64) 0) [] =
    c.index-2.ensures ∙ get_or_default c.self.inside.pages.items c.index.result.now c.index-2.result.now [] (let w = c.self.invariant.within (c.args.i / 64) in omega arith) ∙
    ap (λ q. get_or c.self.inside.pages.items q []) p in
    ap (λ ws. get_or ws (c.args.i % 64) 0) page ∙
    sym (words_below-at (word_in c.self.inside.places.items c.self.inside.pages.items) c.self.inside.count c.args.i
    (is-below c.self.inside.places.items c.self.inside.pages.items c.self.inside.count c.args.self.now c.self.view_is c.args.i c.requires)) ∙
    ap (λ ws. get_or ws c.args.i 0) c.self.view_is
