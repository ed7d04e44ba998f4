-- Names that several of this crate's proofs use, each brought in once.
pub use Rattle.std.proofs.Common.{[], ◌%◌, ◌&&◌, ◌*◌, ◌++◌, ◌+◌, ◌-◌, ◌/◌, ◌<◌, ◌^◌, ◌||◌, ◌↔◌, ◌∙◌, ◌∷◌, ◌≡◌, ◌≢◌, ◌≤◌, ◌⊎◌, Bool, List, None, Option, Some, ap, arith, bit_and, bit_or, cond, count_ones, eq-eqb, eqb, eqb-true, false, get_or, get_or-set_other, get_or-set_same, inl, inr, length, max, min, not, refl, replicate, rules, set, slice_index, subst, suc, sym, take, true, w64, zero, ℕ}
pub use Rattle.std.proofs.Math.Nat.{div-div-eq-div-mul, div-lt_iff_lt-mul, mod-eq_of_lt}
pub use Rattle.std.proofs.Math.Pow.{pow-lt, pow_mono}
pub use Rattle.std.proofs.lemmas.Bool.{cases_Bool, cases_eq, cases_lt, le-ltb, lt-ltb, ne_eqb, or_cases, or_left, or_right}
pub use Rattle.std.proofs.lemmas.List.{ext_get_or, get_or-map, get_or-take, get_or_default, get_or_past, length-append, length-map, length-replicate, length-set, length-take-le, take_more, with_items_is}
pub use Rattle.std.proofs.lemmas.Nat.{div-add-mod', le_or_l, mod-pow-add, ones-le, ones_cat, ones_le_self, or_comm, or_lt, pow-add, pow_pos, zero_from_ones}
pub use Rattle.std.proofs.lemmas.Nat.Bits.{bit_at-lt, bit_at-pow_other, bit_at-pow_same, bit_at-trailing_zeros, bit_at-zero, bit_at_above, bit_at_and, bit_at_cat_high, bit_at_cat_low, bit_at_not, bit_at_or, bit_at_set_other, bit_at_set_same, same_from_bits_below}
pub use Rattle.std.proofs.lemmas.Option.{none-some, same_Some, slice_get-get_or, slice_get_past}
pub use Rattle.std.specs.Int.{bit_at, bit_not, trailing_zeros}
pub use Rattle.std.specs.List.{zip}
pub use Rattle.std.specs.Option.{ForSome}
pub use Rattle.std.specs.Prelude.{All, Any, Contains, IfSome, IsFalse, IsTrue, map, slice_get}
pub use Rattle.ld_facts.specs.ChainFacts.{chain_fact, dependency_from, fact_slots, mark_by_opening, mark_by_taking, mark_if, mark_of_held}
pub use Rattle.ld_facts.specs.Counting.{IsNumberOf}
pub use Rattle.ld_facts.specs.FactBits.{AreCounted, AreFacts, FactBelow, FactParts, HasFact, SetsBit, UnitesWord, dependency_count, mark_count, rows_allowed, rows_for}
pub use Rattle.ld_facts.specs.Facts.{Adds, AreSame, ChainHas, ChainsHave, DependenciesOf, MarksOf, TraceHas}
pub use Rattle.ld_facts.specs.Inside.Bits.{has_bit}
pub use Rattle.ld_facts.specs.Inside.WordTable.{AreWords, Gathered, HasBit, HasWord, IsRunOf, IsTable, StandsAt, TakesFact, TakesMarkBit, TakesRun, UnitesPair}
pub use Rattle.ld_facts.specs.Laws.{AddingInTurnUnites, TraceFactsAreTheChains}
pub use Rattle.ld_facts.specs.Laws.Bits.{count_below-le, count_below-one_more, count_below-same, has_bit-zeros, zeros_at}
pub use Rattle.ld_facts.specs.Laws.Chains.{FactBelow-chain, chain_fact-complete, chain_fact-sound, chains_give_what_they_have, later_slots_are_of_newer_locks, mark_if-some, slots_have_what_is_given}
pub use Rattle.ld_facts.specs.Laws.Counting.{IsNumberOf-unique, dependency_count-le, listed, listed-from, listed-has, listed-length, listed-once, mark_count-le}
pub use Rattle.ld_facts.specs.Laws.Growing.{Adds-grown, Grown, Grown-add, Grown-same, Grown-start, Holds-grown, StandsIn-cases, StandsIn-later}
pub use Rattle.ld_facts.specs.Laws.Numbers.{dependency-lt, dependency_of, dependency_of-is, fact_number-lt, fact_number-same, fact_of, kind_number-lt, kind_number-of, kind_of, mark-lt, mark_of, marked_of, marked_of-is}
pub use Rattle.ld_facts.specs.Laws.Words.{bit_or-bits, bits_if, bits_if-other, bits_if-same, bits_of-append, or_assoc, or_zero}
pub use Rattle.ld_facts.specs.Numbers.{bit_total, dependency_total, fact_number, mark_index, mark_total}
pub use Rattle.ld_facts.specs.Renaming.{Image, ImageBelow, RenamedFactsAreTheImage, TraceHasBy, TracesHaveBy, chain_by, lock_by}
pub use Rattle.ld_facts.specs.Renumbered.{fact_by}
pub use Rattle.ld_facts.specs.WordPairs.{AreWordsOf, PairsHave, bits_of, word_total}
pub use Rattle.ld_facts.specs.declared.chain_words.TheConstants.{MAX_WORDS, SEEN_WORDS}
pub use Rattle.ld_facts.specs.declared.fact.Fact.{Fact}
pub use Rattle.ld_facts.specs.declared.fact.Fact.TheVariants.{Dependency, Marked}
pub use Rattle.ld_task.specs.Chains.{ChainKeysBelow, ChainParts, key_and_mode}
pub use Rattle.ld_task.specs.Marks.{marks_opened, marks_taken}
pub use Rattle.ld_task.specs.declared.lock.Lock.{Lock}
pub use Rattle.ld_task.specs.declared.mark.Mark.{Mark}
pub use Rattle.ld_trace.specs.Modes.{is_read, may_wait}
pub use Rattle.ld_trace.specs.declared.key_id.TheConstants.{MAX_KEYS}
