-- Words of this crate that its clauses cite: each brought in once.
pub use Rattle.ld_explain.specs.Findings.{Are, AreFindings, AreGates, AreOrders, IsCircle, IsOnly, members_of}
pub use Rattle.ld_explain.specs.Found.{AreFound, AreThose, arrows_among, doubles_among, inversions_among, kinds}
pub use Rattle.ld_explain.specs.Inside.Choosing.{AddsChoice, AddsEach, AddsFor, AreAsked, AreChoices, ChoosesCircle, ChoosesCircles, IsAmong, IsChoiceFrom, IsDoubleChoice, IsInversionChoice, IsMark, IsMember, IsPart, enabled_of, used_of}
pub use Rattle.ld_explain.specs.Inside.Explaining.{Explains, IsGuardOf, IsOfBoth, IsOfLink, Knows}
pub use Rattle.ld_explain.specs.Inside.Finding.{AddsThose}
pub use Rattle.ld_explain.specs.Inside.Firsts.{ComesNext, IsKnown, PutsOrigin, SeenBefore, SeenFrom, SeenTo, named_fact, slot_position}
pub use Rattle.ld_explain.specs.Inside.Guarding.{Among, AreGuards, AsksOrder, IsFirstGuard, IsGateBefore, IsGuardWith, IsKept, Narrows, PutsGuard, gate_in, is_among}
pub use Rattle.ld_explain.specs.Inside.Listing.{AddsEnd, AsksMore, AsksVerdict}
pub use Rattle.ld_explain.specs.Inside.Seeing.{AddsSeen, ExplainsSeen, HasBetween, IsCaseAt, IsChoiceFor, IsLoneDouble, IsLoneInversion, IsLoneMember, IsNestedChoice, IsPlan, IsSeenAmong, IsSeenAs, IsUnseenBy, Makes, SaysSeen, SeenHas, level_of, lock_level}
pub use Rattle.ld_explain.specs.Inside.Sure.{AreSureNumbers, no_key}
pub use Rattle.ld_explain.specs.Inside.Taking.{AreTakenIn, last_key}
pub use Rattle.ld_explain.specs.Naming.{key_by, view_of}
pub use Rattle.ld_explain.specs.Notes.{AreGuardsOf, HasGuard, IsAloneIn, IsGate}
pub use Rattle.ld_explain.specs.Origins.{AreOriginsOf, HasOrigin, IsFirst, IsOriginOf, OwnNamesChangeNothing, View, ViewHas, plain}
pub use Rattle.ld_explain.specs.Settling.{AreLevels, AreTypes, AreVerdictsAt, Borrows, IsSure, NoCircleIsLost, NoCirclesAreLost}
pub use Rattle.ld_explain.specs.Verdicts.{AreVerdicts, CirclesOfLocksAreSeen, IsSeenAt, IsUnseenAt, count_ranked, counts, has_finding, is_nesting, levels_of, rank}
pub use Rattle.ld_explain.specs.Whereabouts.{AreEnds, AreOriginsOfEach, AreWhereabouts, kept_at_end, nested_orders, orders_of, origin_in, place_in, places_in}
pub use Rattle.ld_explain.specs.declared.naming.Naming.{Naming}
