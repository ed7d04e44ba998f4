use Rattle.ld_book.proofs.Names.{◌↔◌, Dependency, Fact, HasFact, IsTrue, JournalHas, subst}
use Rattle.ld_book.proofs.book.Book.has_dep.Goals as goal

pub returns : goal.returns
returns c =
    let fact : Fact = Dependency c.args.from c.args.to c.args.kind in
    let are = c.self.invariant.facts_are fact in
    let has = subst (λ f. IsTrue c.has_dep.result ↔ HasFact f fact) c.facts.ensures c.has_dep.ensures in
    subst (λ v. IsTrue c.has_dep.result ↔ JournalHas v.journal fact) c.self.view_is ((λ h. are.0 (has.0 h)), (λ h. has.1 (are.1 h)))
