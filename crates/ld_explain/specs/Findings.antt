-- Findings as values: what was found, where it comes from, and what speaks against it [this project's own].
use Rattle.std.specs.Prelude.{[], ◌++◌, ◌↔◌, ◌∷◌, ◌≡◌, ◌≤◌, ◌⊎◌, All, Any, Contains, List, Option, Some, length, map, ℕ}
use Rattle.ld_explain.specs.Names.{Arrow, Enabled, Fact, Irq, UsedIn, is_r, is_s}
use Rattle.ld_facts.specs.declared.fact.Fact.TheVariants as fact
use Rattle.ld_explain.specs.Names.{IsDoubleBy, IsShortestFrom, IsShortestInversion}
use Rattle.ld_explain.specs.Found.{AreFound, AreThose, FoundParts}
use Rattle.ld_explain.specs.Notes.{IsAloneIn, IsGate}
use Rattle.ld_explain.specs.Origins.{IsFirst, View}
use Rattle.ld_explain.specs.declared.finding.Finding.{Finding}
use Rattle.ld_explain.specs.declared.finding.Finding.TheVariants.{Circle, Double, Inversion}
use Rattle.ld_explain.specs.declared.finding.GateNote.{GateNote}
use Rattle.ld_explain.specs.declared.finding.Order.{Order}

-- ---- which circles are reported
-- the dependency is a member of one of these circles
abbrev pub IsReported : List (List Arrow) → Arrow → Type 0
IsReported circles d = Any (λ circle. Contains circle d) circles

-- the circles that are reported for these dependencies in turn, if some were before: for each one that isn't a member of
-- any yet, a shortest of those that begin with it
abbrev pub AreReported : (Fact → Type 0) → (before : List (List Arrow)) → List Arrow → List (List Arrow) → Type 0
AreReported Has before [] circles = circles ≡ []
AreReported Has before (d ∷ ds) circles =
    (¬ IsReported before d × ((circle : List Arrow) × (rest : List (List Arrow)) × IsShortestFrom Has d circle
    × (circles ≡ circle ∷ rest) × AreReported Has (before ++ circle ∷ []) ds rest))
    ⊎ (IsReported before d × AreReported Has before ds circles)

-- ---- what a finding says
-- the members of a walk in turn
abbrev pub members_of : List Order → List Arrow
members_of orders = map (λ o. o.dependency) orders

-- they are those of this walk, each with its first occurrence
pub record AreOrders (view : View) (walk : List Arrow) (orders : List Order) : Type 0 where
  pub members : members_of orders ≡ walk
  pub first : All (λ o. IsFirst view (fact.Dependency o.dependency.start o.dependency.end o.dependency.kind) o.origin) orders

-- the key is a gate of two members of the walk or more
abbrev pub GuardsTwo : View → List Arrow → (key : ℕ) → Type 0
GuardsTwo view walk key = (guarded : List Arrow) × AreThose (λ d. IsGate view d key) walk guarded × (2 ≤ length guarded)

-- the keys that are, in this order, each with the members that it is a gate of
pub record AreGates (view : View) (keys : List ℕ) (walk : List Arrow) (gates : List GateNote) : Type 0 where
  pub keys_are : AreThose (GuardsTwo view walk) keys (map (λ g. g.key) gates)
  pub guarded : All (λ g. AreThose (λ d. IsGate view d g.key) walk g.guarded.items) gates

-- the trace that alone has all dependencies of the walk, if one has
abbrev pub IsOnly : View → List Arrow → Option ℕ → Type 0
IsOnly view walk only = (trace : ℕ) → (only ≡ Some trace) ↔ IsAloneIn view walk trace

-- the finding is this circle
abbrev pub IsCircle : View → (keys : List ℕ) → List Arrow → Finding → Type 0
IsCircle view keys walk (Circle orders gates only) =
    AreOrders view walk orders.items × AreGates view keys walk gates.items × IsOnly view walk only
IsCircle view keys walk _ = ⊥

-- the finding is this double, by a link that makes it one
abbrev pub IsTheDouble : (Fact → Type 0) → View → Irq × ℕ → Finding → Type 0
IsTheDouble Has view double (Double irq key used enabled) = ((irq, key) ≡ double) × ((l : Arrow) × IsDoubleBy Has irq key l
    × IsFirst view (fact.Marked key (UsedIn irq (is_r l.kind))) used × IsFirst view (fact.Marked key (Enabled irq (is_s l.kind))) enabled)
IsTheDouble Has view double _ = ⊥

-- the finding is this inversion, by a shortest walk and a link that closes it
abbrev pub IsTheInversion : (Fact → Type 0) → View → (keys : List ℕ) → Irq × (ℕ × ℕ) → Finding → Type 0
IsTheInversion Has view keys inversion (Inversion irq a b orders used enabled gates) =
    ((irq, (a, b)) ≡ inversion) × ((l : Arrow) × IsShortestInversion Has irq a b l (members_of orders.items)
    × AreOrders view (members_of orders.items) orders.items
    × IsFirst view (fact.Marked a (UsedIn irq (is_r l.kind))) used × IsFirst view (fact.Marked b (Enabled irq (is_s l.kind))) enabled
    × AreGates view keys (members_of orders.items) gates.items)
IsTheInversion Has view keys inversion _ = ⊥

-- ---- all findings
-- each thing of the second list is as R says of what stands at its place of the first
unfoldable pub Are : {X Y : Type 0} → (X → Y → Type 0) → List X → List Y → Type 0
Are R [] ys = ys ≡ []
Are {X} {Y} R (x ∷ xs) ys = (first : Y) × (rest : List Y) × R x first × Are R xs rest × (ys ≡ first ∷ rest)

-- these are the findings of the facts of these traces, among the keys in this order: the circles, the doubles, the inversions
pub record AreFindings (Has : Fact → Type 0) (view : View) (keys : List ℕ) (findings : List Finding) : Type 0 where
  pub found : FoundParts
  pub found_are : AreFound Has keys found
  pub walks : List (List Arrow)
  pub walks_are : AreReported Has [] found.circles walks
  pub circles : List Finding
  pub doubles : List Finding
  pub inversions : List Finding
  pub circles_are : Are (IsCircle view keys) walks circles
  pub doubles_are : Are (IsTheDouble Has view) found.doubles doubles
  pub inversions_are : Are (IsTheInversion Has view keys) found.inversions inversions
  pub are : findings ≡ circles ++ (doubles ++ inversions)
