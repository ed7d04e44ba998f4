-- In which traces the dependencies of findings are, and what traces hold at their end [this project's own].
use Rattle.std.specs.Prelude.{[], ◌++◌, ◌&&◌, ◌∷◌, ◌≡◌, ◌≢◌, All, List, None, Option, Some, if◌then◌else◌, length, map, nat_eq, nat_lt, option_and_then, slice_get, suc, zero, ℕ}
use Rattle.ld_explain.specs.Names.{Arrow, Dependency, Event, Fact, FactParts, fact_number, kept_positions, lookup}
use Rattle.ld_explain.specs.Findings.{Are}
use Rattle.ld_explain.specs.Found.{AreThose, numbers_below}
use Rattle.ld_explain.specs.Origins.{AreOriginsOf, NoLater, Occurs, OriginParts, View, plain}
use Rattle.ld_explain.specs.declared.ends.End.{End}
use Rattle.ld_explain.specs.declared.finding.Finding.{Finding}
use Rattle.ld_explain.specs.declared.finding.Finding.TheVariants.{Circle, Double, Inversion}
use Rattle.ld_explain.specs.declared.finding.Order.{Order}
use Rattle.ld_explain.specs.declared.origins.Origin.{Origin}
use Rattle.ld_explain.specs.declared.verdict.Between.{Between}
use Rattle.ld_explain.specs.declared.verdict.Between.TheVariants as between
use Rattle.ld_explain.specs.declared.verdict.Verdict.{Verdict}
use Rattle.ld_explain.specs.declared.whereabouts.Whereabouts.{Whereabouts}

-- ---- in which traces a fact is
-- the trace of this number has the fact
abbrev pub IsIn : View → Fact → (trace : ℕ) → Type 0
IsIn view x trace = (o : Origin) × Occurs view x o × (o.trace ≡ trace)

-- the fact's first occurrence in its trace
pub record IsFirstIn (view : View) (x : Fact) (at : Origin) : Type 0 where
  pub here : Occurs view x at
  pub first : (other : Origin) → Occurs view x other → other.trace ≡ at.trace → NoLater at other

-- of the traces that have the fact, in their order, its first occurrence in each
pub record AreFirstInEach (view : View) (x : Fact) (places : List Origin) : Type 0 where
  pub traces_are : AreThose (IsIn view x) (numbers_below (length view.traces)) (map (λ o. o.trace) places)
  pub first : All (IsFirstIn view x) places

-- ---- what is kept of them
-- the origin of a dependency among these
abbrev pub origin_in : OriginParts → Arrow → Option Origin
origin_in parts d = if nat_lt d.start parts.keys && nat_lt d.end parts.keys
    then lookup (λ n. nat_eq (fact_number parts.keys (Dependency d.start d.end d.kind)) n) parts.entries
    else None

-- the same place in the trace of this number
abbrev pub place_in : (trace : ℕ) → Option Origin → List Origin
place_in trace None = []
place_in trace (Some o) = record { trace = trace; place = o.place; held = o.held } ∷ []

-- the places of a dependency in the first n traces, of each of which by itself these are the origins
abbrev pub places_below : List OriginParts → (n : ℕ) → Arrow → List Origin
places_below each zero d = []
places_below each (suc n) d = places_below each n d ++ place_in n (option_and_then (λ parts. origin_in parts d) (slice_get each n))

abbrev pub places_in : List OriginParts → Arrow → List Origin
places_in each d = places_below each (length each) d

-- these are the origins of what is asked about in each trace by itself
abbrev pub AreOriginsOfEach : View → FactParts → List OriginParts → Type 0
AreOriginsOfEach view asked each =
    Are (λ t parts. AreOriginsOf (record { traces = t ∷ []; rename = view.rename }) asked parts) view.traces each

-- ---- at the end of a trace
-- the positions at which the locks were taken that the task keeps after the trace, in all its frames
abbrev pub kept_at_end : List Event → List ℕ
kept_at_end t = kept_positions t (length t)

-- the trace of this number holds something at its end
abbrev pub HoldsAtEnd : List (List Event) → (trace : ℕ) → Type 0
HoldsAtEnd traces trace = (t : List Event) × (slice_get traces trace ≡ Some t) × (kept_at_end t ≢ [])

-- what an end says of its trace is what that keeps
abbrev pub IsEnd : List (List Event) → End → Type 0
IsEnd traces e = (t : List Event) × (slice_get traces e.trace ≡ Some t) × (e.kept.items ≡ kept_at_end t)

-- of the traces that hold something at their end, in their order, what each holds there
pub record AreEnds (traces : List (List Event)) (ends : List End) : Type 0 where
  pub traces_are : AreThose (HoldsAtEnd traces) (numbers_below (length traces)) (map (λ e. e.trace) ends)
  pub kept : All (IsEnd traces) ends

-- ---- of verdicts
-- the members of a finding's walk, and of that of the finding between single locks
abbrev pub orders_of : Finding → List Order
orders_of (Circle orders gates only) = orders.items
orders_of (Double irq key used enabled) = []
orders_of (Inversion irq a b orders used enabled gates) = orders.items

abbrev pub nested_orders : Between → List Order
nested_orders (between.Locks nested) = orders_of nested
nested_orders (between.Perhaps nested) = orders_of nested
nested_orders _ = []

-- of each of these members, these are its first occurrences in the traces that have it
abbrev pub AreListed : View → List OriginParts → List Order → Type 0
AreListed view each orders =
    All (λ o. AreFirstInEach view (Dependency o.dependency.start o.dependency.end o.dependency.kind) (places_in each o.dependency)) orders

-- they are the whereabouts of these verdicts of the traces, whose locks' types are called so
pub record AreWhereabouts (traces : List (List Event)) (type : ℕ → ℕ) (verdicts : List Verdict) (w : Whereabouts) : Type 0 where
  pub types : All (λ v. AreListed (record { traces = traces; rename = type }) w.types (orders_of v.finding)) verdicts
  pub locks : All (λ v. AreListed (plain traces) w.locks (nested_orders v.between)) verdicts
  pub ends : AreEnds traces w.ends.items
