use Rattle.ld_book.proofs.Names.{◌++◌, ◌∙◌, ChainsParts, PutsChain, ap, append-nil, subst, sym}
use Rattle.ld_book.proofs.ChainsLemmas.{PutsChain-inserted}
use Rattle.ld_book.proofs.chains.Chains.insert.Goals as goal

pub returns-clause-put : goal.returns-clause-put
returns-clause-put c =
    let (kept, at, same) = c.in-Ok.ensures.stored in
    let puts = PutsChain-inserted c.move_to_end.new.indexed.keys c.insert_full.new.self.keys c.in-Ok.number c.args.chain kept
    c.in-Ok.ensures.keys c.in-Ok.ensures.within at same in
    let before = c.in_ok-move_to_end.ensures.moved ∙ ap (λ (v : ChainsParts). v.all) c.self.view_is in
    let after = sym (append-nil c.insert_full.new.self.keys) ∙ ap (λ l. c.insert_full.new.self.keys ++ l) (sym c.in_ok-move_to_end.ensures.emptied) in
    subst (λ all. PutsChain all (c.insert_full.new.self.keys ++ c.move_to_end.new.latest.items) c.in-Ok.number c.args.chain) before
    (subst (λ all. PutsChain c.move_to_end.new.indexed.keys all c.in-Ok.number c.args.chain) after puts)
