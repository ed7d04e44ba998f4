-- How it is chosen what findings are reported with, and what is asked about for them.
use Rattle.std.specs.Prelude.{[], ◌++◌, ◌<◌, ◌↔◌, ◌∷◌, ◌≡◌, ◌⊎◌, All, Contains, List, length, ℕ}
use Rattle.ld_explain.specs.Names.{Adds, Arrow, DependenciesOf, Dependency, Enabled, Fact, FactParts, HasFact, Holds, Irq, IsDoubleBy, IsShortestFrom, IsShortestInversion, Marked, UsedIn, arrow, link_by}
use Rattle.ld_explain.specs.Findings.{Are, AreReported, IsReported}
use Rattle.ld_explain.specs.Found.{FoundParts}
use Rattle.ld_explain.specs.declared.choices.Choice.{Choice}
use Rattle.ld_explain.specs.declared.choices.Choice.TheVariants.{ByBoth, ByLink, ByWalk}
use Rattle.ld_explain.specs.declared.choices.Choices.{Choices}
use Rattle.ld_explain.specs.declared.choices.Link.{Link}

-- ---- the facts of a choice
-- a member of the walk
abbrev pub IsMember : List Arrow → Fact → Type 0
IsMember walk (Dependency from to kind) = Contains walk (arrow from to kind)
IsMember walk (Marked key mark) = ⊥

-- the two marks of a link, and that a fact is one of them
abbrev pub used_of : Link → Fact
used_of l = Marked l.a (UsedIn l.irq l.used_read)

abbrev pub enabled_of : Link → Fact
enabled_of l = Marked l.b (Enabled l.irq l.enabled_read)

abbrev pub IsMark : Link → Fact → Type 0
IsMark l x = (x ≡ used_of l) ⊎ (x ≡ enabled_of l)

-- the choice has the fact
abbrev pub IsPart : Choice → Fact → Type 0
IsPart (ByWalk walk) x = IsMember walk.items x
IsPart (ByLink l) x = IsMark l x
IsPart (ByBoth walk l) x = IsMember walk.items x ⊎ IsMark l x

-- its facts are among these, and a circle has members
abbrev pub HasMembers : Choice → Type 0
HasMembers (ByWalk walk) = 0 < length walk.items
HasMembers _ = Unit {0}

abbrev pub IsAmong : FactParts → Choice → Type 0
IsAmong facts c = Holds (HasFact facts) (IsPart c) × HasMembers c

-- all that is asked about are facts, and each choice is among what is asked about
pub record AreAsked (facts : FactParts) (choices : Choices) : Type 0 where
  pub keys : choices.asked.keys ≡ facts.keys
  pub are : Holds (HasFact facts) (HasFact choices.asked)
  pub each : All (IsAmong choices.asked) choices.list.items

-- ---- one choice more
-- it was added, and its facts are asked about too
pub record AddsChoice (old new : Choices) (choice : Choice) : Type 0 where
  pub keys : new.asked.keys ≡ old.asked.keys
  pub list : new.list.items ≡ old.list.items ++ choice ∷ []
  pub asks : Adds (HasFact old.asked) (HasFact new.asked) (IsPart choice)

-- it is a choice for x
abbrev pub AddsFor : {X : Type 0} → (X → Choice → Type 0) → X → (old new : Choices) → Type 0
AddsFor R x old new = (choice : Choice) × R x choice × AddsChoice old new choice

-- one was added for each of these
pub record AddsEach {X : Type 0} (facts : FactParts) (R : X → Choice → Type 0) (xs : List X) (old new : Choices) : Type 0 where
  pub added : List Choice
  pub are : Are R xs added
  pub list : new.list.items ≡ old.list.items ++ added
  pub asked : AreAsked facts new

-- ---- what is chosen
-- for a circle its walk
abbrev pub IsCircleChoice : List Arrow → Choice → Type 0
IsCircleChoice circle (ByWalk walk) = (walk.items ≡ circle) × (0 < length circle)
IsCircleChoice circle _ = ⊥

-- for a dependency a shortest circle of those that begin with it
abbrev pub IsChoiceFrom : (Fact → Type 0) → Arrow → Choice → Type 0
IsChoiceFrom Has d choice = (circle : List Arrow) × IsShortestFrom Has d circle × IsCircleChoice circle choice

-- for a double its link
abbrev pub IsDoubleChoice : (Fact → Type 0) → Irq × ℕ → Choice → Type 0
IsDoubleChoice Has double (ByLink l) = ((l.irq, l.a) ≡ double) × IsDoubleBy Has l.irq l.a (link_by l.b l.a l.enabled_read l.used_read)
IsDoubleChoice Has double _ = ⊥

-- for an inversion a shortest walk, and the link that closes it
abbrev pub IsInversionChoice : (Fact → Type 0) → Irq × (ℕ × ℕ) → Choice → Type 0
IsInversionChoice Has inversion (ByBoth walk l) = ((l.irq, (l.a, l.b)) ≡ inversion)
    × IsShortestInversion Has l.irq l.a l.b (link_by l.b l.a l.enabled_read l.used_read) walk.items
IsInversionChoice Has inversion _ = ⊥

-- a shortest circle through the dependency is chosen, unless that is asked about
abbrev pub ChoosesCircle : FactParts → Arrow → (old new : Choices) → Type 0
ChoosesCircle facts d old new = (DependenciesOf (HasFact old.asked) d × (new ≡ old))
    ⊎ (¬ DependenciesOf (HasFact old.asked) d × AddsFor (IsChoiceFrom (HasFact facts)) d old new)

-- the circles that are reported for these dependencies are chosen, and exactly their members are asked about
pub record ChoosesCircles (facts : FactParts) (ds : List Arrow) (choices : Choices) : Type 0 where
  pub circles : List (List Arrow)
  pub reported : AreReported (HasFact facts) [] ds circles
  pub are : Are IsCircleChoice circles choices.list.items
  pub members : (d : Arrow) → DependenciesOf (HasFact choices.asked) d ↔ IsReported circles d
  pub asked : AreAsked facts choices

-- what is chosen for all findings
pub record AreChoices (facts : FactParts) (found : FoundParts) (choices : Choices) : Type 0 where
  pub walks : List (List Arrow)
  pub walks_are : AreReported (HasFact facts) [] found.circles walks
  pub circles : List Choice
  pub doubles : List Choice
  pub inversions : List Choice
  pub circles_are : Are IsCircleChoice walks circles
  pub doubles_are : Are (IsDoubleChoice (HasFact facts)) found.doubles doubles
  pub inversions_are : Are (IsInversionChoice (HasFact facts)) found.inversions inversions
  pub list : choices.list.items ≡ circles ++ (doubles ++ inversions)
  pub asked : AreAsked facts choices
