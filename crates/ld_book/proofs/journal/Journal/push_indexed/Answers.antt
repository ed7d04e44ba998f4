use Rattle.ld_book.proofs.Names.{JournalParts, StandsIn, subst}
use Rattle.ld_book.proofs.ChainsLemmas.{PutsChain-there}
use Rattle.ld_book.proofs.JournalLemmas.{IsJournal-push, StandsIn-at, journal_of-push}
use Rattle.ld_book.proofs.journal.Journal.push_indexed.Goals as goal

pub invariant_of-self : goal.invariant_of-self
invariant_of-self c =
    let all = c.self.inside.chains.all in
    rw (c.push_reserved.ensures.items, c.new.ensures)
    (IsJournal-push all all c.self.inside.entries.items c.self.invariant c.args.trace c.in-Some.number c.args.chain.now
    (PutsChain-there all c.in-Some.number c.args.chain.now c.in-Some.ensures))

pub returns-clause-pushed : goal.returns-clause-pushed
returns-clause-pushed c = λ found.
    let all = c.self.inside.chains.all in
    rw (c.push_reserved.ensures.items, c.new.ensures, ← c.self.view_is)
    (journal_of-push all all c.self.inside.entries.items c.self.invariant c.args.trace c.in-Some.number c.args.chain.now
    (PutsChain-there all c.in-Some.number c.args.chain.now c.in-Some.ensures))

pub returns-clause-known : goal.returns-clause-known
returns-clause-known c = λ found. subst (λ (v : JournalParts). StandsIn v.written c.args.chain.now) c.self.view_is
    (StandsIn-at c.self.inside.chains.all c.self.inside.entries.items c.self.invariant c.args.chain.now c.in-Some.number c.in-Some.ensures)
