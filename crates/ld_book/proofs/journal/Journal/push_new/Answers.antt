use Rattle.ld_book.proofs.Names.{JournalParts, StandsIn, subst}
use Rattle.ld_book.proofs.ChainsLemmas.{AreChains-push, PutsChain-new}
use Rattle.ld_book.proofs.JournalLemmas.{IsJournal-push, journal_of-push, list_any-iff}
use Rattle.ld_book.proofs.journal.Journal.push_new.Goals as goal

pub push_new-requires-clause-new : goal.push_new-requires-clause-new
push_new-requires-clause-new c =
    let all = c.self.inside.chains.all in
    let stands = list_any-iff all c.self.inside.entries.items c.self.invariant c.args.chain in
    AreChains-push all c.args.chain c.len-number.ensures.distinct
    (λ found. c.requires.new (subst (λ (v : JournalParts). StandsIn v.written c.args.chain) c.self.view_is (stands.0 found)))

pub invariant_of-self : goal.invariant_of-self
invariant_of-self c =
    let all = c.self.inside.chains.all in
    rw (c.push_reserved.ensures.items, c.new.ensures)
    (IsJournal-push all c.push_new.new.self.all c.self.inside.entries.items c.self.invariant c.args.trace c.len-number.result c.args.chain
    (PutsChain-new all c.push_new.new.self.all c.len-number.result c.args.chain c.push_new.ensures c.len-number.ensures.value))

pub returns : goal.returns
returns c =
    let all = c.self.inside.chains.all in
    rw (c.push_reserved.ensures.items, c.new.ensures, ← c.self.view_is)
    (journal_of-push all c.push_new.new.self.all c.self.inside.entries.items c.self.invariant c.args.trace c.len-number.result c.args.chain
    (PutsChain-new all c.push_new.new.self.all c.len-number.result c.args.chain c.push_new.ensures c.len-number.ensures.value))
