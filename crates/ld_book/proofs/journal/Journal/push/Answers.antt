use Rattle.ld_book.proofs.Names.{IsJournal, subst, sym}
use Rattle.ld_book.proofs.JournalLemmas.{IsJournal-push, journal_of-push}
use Rattle.ld_book.proofs.journal.Journal.push.Goals as goal

pub invariant_of-self : goal.invariant_of-self
invariant_of-self c = subst (λ all. IsJournal all c.self.inside.entries.items) (sym c.in_err-number.ensures.refused) c.self.invariant

pub invariant_of-self-2 : goal.invariant_of-self-2
invariant_of-self-2 c = rw (c.push_reserved.ensures.items, c.new.ensures)
    (IsJournal-push c.self.inside.chains.all c.insert.new.self.all c.self.inside.entries.items c.self.invariant c.args.trace c.in_ok-number.number
    c.args.chain c.in_ok-number.ensures.put)

pub returns-clause-pushed : goal.returns-clause-pushed
returns-clause-pushed c = rw (c.push_reserved.ensures.items, c.new.ensures, ← c.self.view_is)
    (journal_of-push c.self.inside.chains.all c.insert.new.self.all c.self.inside.entries.items c.self.invariant c.args.trace c.in_ok-number.number
    c.args.chain c.in_ok-number.ensures.put)
