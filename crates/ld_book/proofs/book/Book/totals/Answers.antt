use Rattle.ld_book.proofs.Names.{◌-◌, ◌∙◌, ◌≡◌, BookParts, DependenciesOf, Dependency, HasFact, IsNumberOf, JournalHas, ap, arith, length, opening_count, subst, sym}
use Rattle.ld_facts.specs.Laws.Counting.{IsNumberOf-same}
use Rattle.ld_book.proofs.BookLemmas.{counts-length}
use Rattle.ld_book.proofs.book.Book.totals.Goals as goal

pub returns-clause-openings : goal.returns-clause-openings
returns-clause-openings c =
    let entries = c.len-entries.ensures.value ∙ ap (λ (v : BookParts). length v.journal) (sym c.self.view_is) in
    subst (λ v. c.len-entries.result - c.self.inside.acquisitions ≡ opening_count v.journal) c.self.view_is
    (omega (arith, entries, c.self.invariant.counted, counts-length c.self.inside.journal.written))

pub returns-clause-dependencies : goal.returns-clause-dependencies
returns-clause-dependencies c =
    let facts = c.self.inside.graph.facts in
    let journal = c.self.inside.journal.written in
    let number = subst (λ f. IsNumberOf (DependenciesOf (HasFact f)) c.dependencies.result) c.facts.ensures c.dependencies.ensures.number in
    subst (λ v. IsNumberOf (DependenciesOf (JournalHas v.journal)) c.dependencies.result) c.self.view_is
    (IsNumberOf-same (DependenciesOf (HasFact facts)) (DependenciesOf (JournalHas journal)) (λ d. c.self.invariant.facts_are (Dependency d.start d.end d.kind)) c.dependencies.result number)
