-- Places: a key together with whether the letter of arrival is R. Places decide what may follow: an arrow arrives at
-- one, by its second letter, and leaves one or two, by its first.
--
--      key a            key b             An S-arrow from b leaves only place b, since it may not
--     (a  ) --(S.N)--> (b  ) --(S.N)-->   follow what ends in R. An E-arrow from b leaves both
--                                         places of b. An arrow that ends in R arrives at (b,R).
--     (a,R)            (b,R)
--        \--(E.R)------->/  \--(E.N)-->   So a strong walk is a path over places.
use Rattle.std.specs.Prelude.{◌≡◌, ℕ, ◌+◌, ◌⊎◌, Bool, true, false, IsFalse, if◌then◌else◌}
use Rattle.ld_trace.specs.declared.event.Irq.{Irq}
use Rattle.ld_task.specs.declared.mark.Mark.TheVariants.{UsedIn, Enabled}
use Rattle.ld_task.specs.Kinds.{is_s, is_r}
use Rattle.ld_trace.specs.declared.key_id.TheConstants.{GRAPH_KEYS}
use Rattle.ld_facts.specs.Arrows.{Arrow}
use Rattle.ld_facts.specs.declared.fact.Fact.{Fact}
use Rattle.ld_facts.specs.declared.fact.Fact.TheVariants.{Marked}

-- the number of a place: those of R come after those of N
abbrev pub place : ℕ → Bool → ℕ
place key at_r = if at_r then key + GRAPH_KEYS else key

-- where an arrow arrives
abbrev pub arrival : Arrow → ℕ
arrival d = place d.end (is_r d.kind)

-- an arrow from the key, whose first letter is S or E, may follow what arrives at the place p
abbrev pub LeavesFrom : ℕ → Bool → ℕ → Type 0
LeavesFrom key by_s p = (p ≡ place key false) ⊎ ((p ≡ place key true) × IsFalse by_s)

-- d may follow what arrives at the place p
abbrev pub Leaves : Arrow → ℕ → Type 0
Leaves d p = LeavesFrom d.start (is_s d.kind) p

-- some arrow of the set leads from the place p to the place q
abbrev pub Leads : (Arrow → Type 0) → ℕ → ℕ → Type 0
Leads In p q = (d : Arrow) × In d × Leaves d p × (arrival d ≡ q)

-- q is reached from p by any number of steps
pub data Path (Edge : ℕ → ℕ → Type 0) : ℕ → ℕ → Type 0 where
  none : {p : ℕ} → Path Edge p p
  step : {p q r : ℕ} → Path Edge p q → Edge q r → Path Edge p r

-- q is reached from p by one step or more
abbrev pub Way : (ℕ → ℕ → Type 0) → ℕ → ℕ → Type 0
Way Edge p q = (m : ℕ) × Edge p m × Path Edge m q

-- a link of the state arrives at the place, if there is one: its key is used in the state
abbrev pub LinkArrives : (Fact → Type 0) → Irq → ℕ → Type 0
LinkArrives Has irq p = (a : ℕ) × (read : Bool) × Has (Marked a (UsedIn irq read)) ×
    (p ≡ place a read)

-- a link of the state leaves the place, if there is one: its key is used with the state enabled
abbrev pub LinkLeaves : (Fact → Type 0) → Irq → ℕ → Type 0
LinkLeaves Has irq q = (b : ℕ) × (read : Bool) × Has (Marked b (Enabled irq read)) ×
    LeavesFrom b read q
