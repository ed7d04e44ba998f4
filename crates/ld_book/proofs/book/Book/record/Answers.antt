use Rattle.ld_book.proofs.Names.{[], ◌++◌, ◌+◌, ◌↔◌, ◌∙◌, ◌∷◌, ◌≡◌, BookParts, ChainHas, Holds, IsFalse, IsLawful, JournalHas, ap, key_mode_and_frame, length, subst, sym}
use Rattle.ld_book.proofs.BookLemmas.{AreSame-adds, Holds-iff, IsLawful-entered, from_bool-taken, has_room}
use Rattle.ld_book.proofs.book.Book.record.Goals as goal

pub invariant_of-self-2 : goal.invariant_of-self-2
invariant_of-self-2 c =
    let facts = c.self.inside.graph.facts in
    let journal = c.self.inside.journal.written in
    let at = c.len.ensures.value ∙ ap (λ (v : BookParts). length v.journal) (sym c.self.view_is) in
    let entered = subst (λ j. c.enter.new.journal.written ≡ j ++ (c.args.trace, c.args.chain) ∷ []) c.make_room.ensures.same c.in-Ok.ensures.entered in
    let are = AreSame-adds facts journal c.self.invariant.facts_are c.enter.new.graph.facts c.args.trace c.args.chain c.in-Ok.ensures.adds in
    let one = from_bool-taken key_mode_and_frame c.args.chain.new_lock c.taken.result c.is_some-is_acquisition.result c.from.result c.taken.ensures c.is_some-is_acquisition.ensures c.from.ensures in
    subst (λ n. IsLawful c.enter.new.graph.facts c.enter.new.journal.written (c.self.inside.acquisitions + n) c.self.inside.limit) (sym one)
    (IsLawful-entered facts c.enter.new.graph.facts journal c.enter.new.journal.written c.self.inside.acquisitions c.self.inside.limit c.args.trace c.args.chain
    c.self.invariant (has_room c.len.result (length journal) c.self.inside.limit at c.if-len-self.false) entered are)

pub returns-clause-fresh : goal.returns-clause-fresh
returns-clause-fresh c =
    let facts = c.self.inside.graph.facts in
    let recorded = Holds-iff facts c.self.inside.journal.written c.self.invariant.facts_are c.args.chain in
    subst (λ (v : BookParts). IsFalse c.in-Ok.fresh ↔ Holds (JournalHas v.journal) (ChainHas c.args.chain)) c.self.view_is
    ((λ h. recorded.0 (c.in-Ok.ensures.fresh.0 h)), (λ h. c.in-Ok.ensures.fresh.1 (recorded.1 h)))
