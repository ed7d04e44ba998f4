use Rattle.ld_book.proofs.Names.{◌++◌, ◌≡◌, ChainParts, ChainsParts, IfSome, List, None, Option, Some, chain_eq, position, slice_get, subst, ℕ}
use Rattle.ld_book.proofs.ChainsLemmas.{found-at}
use Rattle.ld_book.proofs.chains.Chains.find_indexed.Goals as goal

-- whatever the search found
found : (keys latest : List ChainParts) (chain : ChainParts) (answer : Option ℕ) → answer ≡ position (chain_eq chain) keys →
    IfSome answer (λ n. slice_get (keys ++ latest) n ≡ Some chain)
found keys latest chain None is = tt
found keys latest chain (Some n) is = found-at keys latest chain n (let e = is in cc)

pub returns : goal.returns
returns c =
    let keys = c.self.inside.indexed.keys in
    let latest = c.self.inside.latest.items in
    subst (λ (v : ChainsParts). IfSome c.get_index_of.result (λ n. slice_get v.all n ≡ Some c.args.chain.now)) c.self.view_is
    (found keys latest c.args.chain.now c.get_index_of.result c.get_index_of.ensures.index)
