use Rattle.ld_book.proofs.Names.{◌↔◌, Fact, HasFact, IsTrue, JournalHas, Marked, subst}
use Rattle.ld_book.proofs.book.Book.has_mark.Goals as goal

pub returns : goal.returns
returns c =
    let fact : Fact = Marked c.args.key c.args.mark in
    let are = c.self.invariant.facts_are fact in
    let has = subst (λ f. IsTrue c.has_mark.result ↔ HasFact f fact) c.facts.ensures c.has_mark.ensures in
    subst (λ v. IsTrue c.has_mark.result ↔ JournalHas v.journal fact) c.self.view_is ((λ h. are.0 (has.0 h)), (λ h. has.1 (are.1 h)))
