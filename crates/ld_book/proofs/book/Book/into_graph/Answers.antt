use Rattle.ld_book.proofs.Names.{AreSame, HasFact, JournalHas, subst}
use Rattle.ld_book.proofs.book.Book.into_graph.Goals as goal

pub returns-clause-facts : goal.returns-clause-facts
returns-clause-facts c = subst (λ v. AreSame (HasFact c.self.inside.graph.facts) (JournalHas v.journal)) c.self.view_is c.self.invariant.facts_are
