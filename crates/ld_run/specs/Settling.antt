-- When a book settles with the workers' facts [this project's own].
use Rattle.std.specs.Prelude.{◌≡◌}
use Rattle.ld_facts.specs.FactBits.{FactParts, HasFact}
use Rattle.ld_facts.specs.Facts.{AreSame}
use Rattle.ld_book.specs.Books.{BookParts, JournalHas}

-- the book's keys and facts are those of the tallies
pub record Settles (book : BookParts) (tallies : FactParts) : Type 0 where
  pub keys : book.keys ≡ tallies.keys
  pub facts : AreSame (HasFact tallies) (JournalHas book.journal)
