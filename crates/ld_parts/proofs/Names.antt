-- Names that several of this crate's proofs use, each brought in once.
pub use Rattle.std.proofs.Common.{◌%◌, ◌+◌, ◌-◌, ◌/◌, ◌<◌, ◌∙◌, ◌≡◌, ◌≤◌, ◌⊎◌, ap, arith, false, get_or, inl, inr, length, refl, slice_index, subst, sym, true, ℕ}
pub use Rattle.std.proofs.lemmas.Bool.{cases_eq, cases_lt, eq-eqb, le-leb, leb-true, ne_eqb}
pub use Rattle.std.proofs.lemmas.List.{get_or-map, get_or-take, get_or_append_left, get_or_default, get_or_past, get_or_push, length-map, length-take-le, length_push}
pub use Rattle.std.proofs.lemmas.List.Elements.{All-contains, All-push, All-take, Contains-append_left, Contains-get_or, Contains-push}
pub use Rattle.std.proofs.lemmas.Option.{IfSome_then}
pub use Rattle.std.specs.Prelude.{[], ◌++◌, ◌==◌, ◌↔◌, ◌∷◌, All, AllPairs, Bool, Contains, IfSome, IsFalse, IsNone, IsTrue, List, None, Option, Some, if◌then◌else◌, is_some, map, suc, take, zero}
pub use Rattle.ld_facts.specs.Arrows.{Arrow, MayFollow, arrow}
pub use Rattle.ld_facts.specs.FactBits.{FactParts, HasFact}
pub use Rattle.ld_facts.specs.Facts.{AreSame, DependenciesOf}
pub use Rattle.ld_facts.specs.Inside.Bits.{has_bit}
pub use Rattle.ld_facts.specs.Laws.Counting.{distinct-few, no_longer}
pub use Rattle.ld_facts.specs.Laws.Lists.{Contains-head, none_of}
pub use Rattle.ld_facts.specs.Numbers.{dependency_total, fact_number}
pub use Rattle.ld_facts.specs.Renumbered.{HasKeys, Renumbered, arrow_at, arrow_by, fact_by}
pub use Rattle.ld_facts.specs.declared.fact.Fact.{Fact}
pub use Rattle.ld_facts.specs.declared.fact.Fact.TheVariants.{Dependency, Marked}
pub use Rattle.ld_graph.specs.Laws.Facts.{IsCircle-more, IsClean-same, IsShortestCircle-same, OnCircle-member, StrongWalk-members}
pub use Rattle.ld_graph.specs.Links.{InInversion, IsClean, IsDouble, IsDoubleBy, IsInversion, IsInversionWith, IsLink, IsShortestInversion, link_by}
pub use Rattle.ld_graph.specs.Walks.{ClosedWalk, IsCircle, IsShortestCircle, IsShortestFrom, OnCircle, StrongWalk, last}
pub use Rattle.ld_parts.specs.FoundInParts.{AreFoundInPart, AreFoundInParts, ListsRank}
pub use Rattle.ld_parts.specs.Inside.Pairs.{IsPair, facts_in, renumbered_by}
pub use Rattle.ld_parts.specs.Inside.Parts.{AreApart, AreHomes, AreHoused, AreKeysOf, AreParts, AreTogether, IsAtPlace, IsHome, IsPart, IsPartOf, IsParted, IsShortestOfFirst, IsShortestOfPart}
pub use Rattle.ld_parts.specs.Ranks.{AmongRank, DependenciesClimb, IsCrowded, LinksClimb, NoneGoesDown}
pub use Rattle.ld_parts.specs.declared.home.Home.{Home}
pub use Rattle.ld_parts.specs.declared.part.Part.{Part}
pub use Rattle.ld_task.specs.Kinds.{is_r, is_s, kind_of_letters}
pub use Rattle.ld_task.specs.declared.mark.Mark.TheVariants.{Enabled, UsedIn}
pub use Rattle.ld_trace.specs.declared.event.Irq.{Irq}
pub use Rattle.ld_trace.specs.declared.event.Irq.TheVariants.{Hard, Soft}
pub use Rattle.ld_trace.specs.declared.key_id.TheConstants.{GRAPH_KEYS, MAX_KEYS}
