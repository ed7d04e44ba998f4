use Rattle.ld_book.proofs.Names.{[], ◌↔◌, ChainHas, ChainParts, Err, Holds, IfOk, IsFalse, JournalHas, List, Ok, Result, ℕ}
use Rattle.ld_book.specs.declared.book.News.{News}
use Rattle.ld_book.specs.declared.fault.BookFault.{BookFault}
use Rattle.ld_book.proofs.BookLemmas.{Holds-none}
use Rattle.ld_book.proofs.locked.LockedBook.record.Goals as goal

-- whatever the journal was
never_fresh : (journal : List (ℕ × ChainParts)) (chain : ChainParts) (answer : Result News BookFault) →
    IfOk answer (λ news. IsFalse news.fresh ↔ Holds (JournalHas journal) (ChainHas chain)) → IfOk answer (λ news. Holds (JournalHas []) (ChainHas chain) → IsFalse news.fresh)
never_fresh journal chain (Ok news) told = λ none. told.1 (Holds-none journal chain none)
never_fresh journal chain (Err fault) told = tt

pub returns-clause-fresh : goal.returns-clause-fresh
returns-clause-fresh g c = never_fresh c.deref_mut.result.now.journal c.args.chain c.record.result c.record.ensures.fresh
