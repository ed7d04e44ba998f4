-- Names that several of this crate's proofs use, each brought in once.
pub use Rattle.std.proofs.Common.{[], ◌++◌, ◌+◌, ◌-◌, ◌<◌, ◌||◌, ◌↔◌, ◌∙◌, ◌∷◌, ◌≡◌, ◌≤◌, Bool, Err, List, None, Ok, Option, Result, Some, ap, append_assoc, arith, cond, false, get_or, if◌then◌else◌, inl, inr, is_some, length, length-append, position, refl, slice_get, subst, sym, true, true≢false, ℕ}
pub use Rattle.std.proofs.lemmas.List.{append-nil, get_or-map, get_or_append_left, get_or_default, get_or_push, length-map, map-append}
pub use Rattle.std.proofs.lemmas.Map.Views.{Contains-from_any, list_any-from_Contains}
pub use Rattle.std.proofs.lemmas.Option.{get_or_from_slice_get, slice_get_read, slice_get_within}
pub use Rattle.std.specs.List.{AllByRecursion, list_any}
pub use Rattle.std.specs.Prelude.{All, Contains, IfOk, IfSome, IsFalse, IsTrue, is_none, option_map}
pub use Rattle.std.specs.Vec.Iter.{drain_items}
pub use Rattle.indexmap.specs.IndexSet.{insert_key, spare}
pub use Rattle.ld_book.specs.Books.{BookParts, IsLawful, JournalHas, StandsIn, acquisition_count, opening_count}
pub use Rattle.ld_book.specs.Inside.Journals.{AreChains, ChainsParts, EntryParts, IsJournal, JournalParts, PutsChain, entry_of, journal_of, no_chain}
pub use Rattle.ld_facts.specs.Counting.{IsNumberOf}
pub use Rattle.ld_facts.specs.FactBits.{FactParts, HasFact}
pub use Rattle.ld_facts.specs.Facts.{Adds, AreSame, ChainHas, DependenciesOf, Holds}
pub use Rattle.ld_facts.specs.Laws.Lists.{Any-push}
pub use Rattle.ld_facts.specs.declared.fact.Fact.{Fact}
pub use Rattle.ld_facts.specs.declared.fact.Fact.TheVariants.{Dependency, Marked}
pub use Rattle.ld_task.specs.ChainEquality.{chain_eq}
pub use Rattle.ld_task.specs.Chains.{ChainParts, key_mode_and_frame}
pub use Rattle.ld_task.specs.Inside.ChainEqualityLaws.{chain_eq-decides, chain_eq-equivalence}
