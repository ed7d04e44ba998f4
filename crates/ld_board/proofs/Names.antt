-- Names that several of this crate's proofs use, each brought in once.
pub use Rattle.std.proofs.Common.{[], ◌%◌, ◌&&◌, ◌*◌, ◌++◌, ◌+◌, ◌-◌, ◌/◌, ◌<◌, ◌^◌, ◌||◌, ◌↔◌, ◌∙◌, ◌∷◌, ◌≡◌, ◌≢◌, ◌≤◌, All, AllPairs, Any, Bool, IsFalse, IsTrue, List, Some, add-zero, ap, arith, bit_and, bit_or, cond, drop, drop-cons, eq-eqb, eqb, eqb-true, false, get_or, get_or-set_other, get_or-set_same, inl, inr, length, length-append, length-set, mul-add, nat_eq, ne_eqb, refl, replicate, rules, set, slice_get, slice_index_or, subst, suc, sym, true, true≢false, unwrap_or, vec_capacity, vec_len, zero, zero-add, zero-le, ℕ, ⊎_elim}
pub use Rattle.std.proofs.lemmas.Bool.{cases_eq, or_parts}
pub use Rattle.std.proofs.lemmas.Bool.Decides.{nat_tests}
pub use Rattle.std.proofs.lemmas.Nat.{or_comm}
pub use Rattle.std.proofs.lemmas.Nat.Bits.{bit_at-lt, bit_at-zero, bit_at_or, same_from_bits, shr_and_one}
pub use Rattle.std.proofs.lemmas.Option.{get_or_from_slice_get, none-some, slice_get_within}
pub use Rattle.std.specs.Int.{bit_at}
pub use Rattle.std.specs.Mem.Slots.{slots_items}
pub use Rattle.std.specs.Prelude.{slice_index}
pub use Rattle.ld_board.specs.Boards.{IsSeatOf, keys_of}
pub use Rattle.ld_board.specs.Inside.BoardRule.{Claimed, Fits, Kept, Knows, Looked, Put, Seated, first_view, gather, joined, left_view, plus, right_view, spent_view, total, union, with_look, with_put}
pub use Rattle.ld_board.specs.Inside.Gathered.{gathered, joined_onto}
pub use Rattle.ld_board.specs.Laws.Seats.{Any-cases, Any-here, Any-later, all_last, none_has, times_append}
pub use Rattle.ld_board.specs.Seats.{claims_of, view}
pub use Rattle.ld_board.specs.Views.{KnowsFact, PutHas, SeenHas, ShareWord, newcomer, once_below, times, with_claim}
pub use Rattle.ld_board.specs.declared.seat.Seat.{Seat}
pub use Rattle.ld_board.specs.declared.view.View.{View}
pub use Rattle.ld_facts.specs.ChainFacts.{chain_fact}
pub use Rattle.ld_facts.specs.FactBits.{FactBelow, FactParts, HasFact}
pub use Rattle.ld_facts.specs.Facts.{Adds, AreSame, ChainHas, Holds}
pub use Rattle.ld_facts.specs.Laws.Words.{PairsHave-append, PairsHave-within, Within-bit, Within-facts, bit_or-bits, bits_of-append, bits_of-bit, or_assoc, or_zero}
pub use Rattle.ld_facts.specs.Numbers.{fact_number}
pub use Rattle.ld_facts.specs.WordPairs.{AreWordsOf, NonePast, PairsHave, Within, bits_of, word_total}
pub use Rattle.ld_facts.specs.declared.fact.Fact.{Fact}
