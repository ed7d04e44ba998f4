use Rattle.ld_book.proofs.Names.{◌↔◌, HasFact, IsTrue, JournalHas, subst}
use Rattle.ld_graph.specs.Laws.Facts.{IsClean-same}
use Rattle.ld_graph.specs.Links.{IsClean}
use Rattle.ld_book.proofs.book.Book.is_clean.Goals as goal

pub returns : goal.returns
returns c =
    let clean = IsClean-same (HasFact c.self.inside.graph.facts) (JournalHas c.self.inside.journal.written) c.self.invariant.facts_are in
    subst (λ v. IsTrue c.is_clean.result ↔ IsClean (JournalHas v.journal)) c.self.view_is (
      (λ h. clean.0 (c.is_clean.ensures.0 h)),
      (λ h. c.is_clean.ensures.1 (clean.1 h)),
    )
