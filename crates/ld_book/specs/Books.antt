-- What a book returns: all of it is derived from the journal [this project's own].
use Rattle.std.specs.Prelude.{◌≡◌, ℕ, ◌≤◌, List, length, Any, count_by, is_none, is_some}
use Rattle.ld_task.specs.Chains.{ChainParts}
use Rattle.ld_facts.specs.FactBits.{FactParts, HasFact}
use Rattle.ld_facts.specs.Facts.{AreSame, ChainHas}
use Rattle.ld_facts.specs.declared.fact.Fact.{Fact}

-- what callers see of a book: its journal, an entry for each recorded chain with the trace that it comes from; the bound
-- on the keys; and the most entries that the journal may have
pub record BookParts : Type 0 where
  pub journal : List (ℕ × ChainParts)
  pub keys : ℕ
  pub limit : ℕ

-- some chain of the journal has the fact
abbrev pub JournalHas : List (ℕ × ChainParts) → Fact → Type 0
JournalHas journal x = Any (λ e. ChainHas e.1 x) journal

-- the chain is in the journal
abbrev pub StandsIn : List (ℕ × ChainParts) → ChainParts → Type 0
StandsIn journal chain = Any (λ e. e.1 ≡ chain) journal

-- how many entries are acquisitions, and how many are openings
abbrev pub acquisition_count : List (ℕ × ChainParts) → ℕ
acquisition_count journal = count_by (λ e. is_some e.1.new_lock) journal

abbrev pub opening_count : List (ℕ × ChainParts) → ℕ
opening_count journal = count_by (λ e. is_none e.1.new_lock) journal

-- what a book keeps: its facts are those of its journal, its acquisitions are counted, and the limit isn't exceeded.
-- Its flag and the number of its dependencies are its graph's
pub record IsLawful (facts : FactParts) (journal : List (ℕ ×
    ChainParts)) (acquisitions limit : ℕ) : Type 0 where
  pub facts_are : AreSame (HasFact facts) (JournalHas journal)
  pub counted : acquisitions ≡ acquisition_count journal
  pub within : length journal ≤ limit
