use Rattle.ld_book.proofs.Names.{IsNumberOf, StandsIn, length, subst}
use Rattle.ld_book.proofs.JournalLemmas.{IsNumberOf-kept}
use Rattle.ld_book.proofs.journal.Journal.distinct.Goals as goal

pub returns : goal.returns
returns c = rw c.len.ensures.value (subst (λ v. IsNumberOf (StandsIn v.written) (length c.self.inside.chains.all)) c.self.view_is
    (IsNumberOf-kept c.self.inside.chains.all c.self.inside.entries.items c.self.invariant c.len.ensures.distinct))
