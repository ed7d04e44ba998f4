-- How what was chosen is explained.
use Rattle.std.specs.Prelude.{[], ◌↔◌, ◌∷◌, ◌≡◌, Contains, List, Some, ℕ}
use Rattle.ld_explain.specs.Names.{Arrow, HasFact, Holds}
use Rattle.ld_explain.specs.Findings.{AreGates, AreOrders, IsCircle}
use Rattle.ld_explain.specs.Inside.Choosing.{enabled_of, used_of}
use Rattle.ld_explain.specs.Naming.{view_of}
use Rattle.ld_explain.specs.Notes.{AreGuardsOf, IsAloneIn, IsGate}
use Rattle.ld_explain.specs.Origins.{AreOriginsOf, IsFirst, View, ViewHas}
use Rattle.ld_explain.specs.declared.choices.Choice.{Choice}
use Rattle.ld_explain.specs.declared.choices.Choice.TheVariants.{ByBoth, ByLink, ByWalk}
use Rattle.ld_explain.specs.declared.choices.Link.{Link}
use Rattle.ld_explain.specs.declared.explainer.Explainer.{Explainer}
use Rattle.ld_explain.specs.declared.finding.Finding.{Finding}
use Rattle.ld_explain.specs.declared.finding.Finding.TheVariants.{Double, Inversion}
use Rattle.ld_explain.specs.declared.guard.Guard.{Guard}

-- it knows of the traces what is asked about, all of which they have: where each first occurs, and what speaks against it
pub record Knows (e : Explainer) : Type 0 where
  pub has : Holds (ViewHas (view_of e.naming e.traces.now)) (HasFact e.asked.now)
  pub origins_are : AreOriginsOf (view_of e.naming e.traces.now) e.asked.now e.evidence.now.origins
  pub guards_are : AreGuardsOf (view_of e.naming e.traces.now) e.asked.now e.evidence.now.guards

-- what speaks against a dependency
pub record IsGuardOf (view : View) (d : Arrow) (guard : Guard) : Type 0 where
  pub gates : (key : ℕ) → Contains guard.gates.items key ↔ IsGate view d key
  pub only : (trace : ℕ) → (guard.only ≡ Some trace) ↔ IsAloneIn view (d ∷ []) trace

-- the finding is of this link, with the first occurrences of its marks
abbrev pub IsOfLink : View → Link → Finding → Type 0
IsOfLink view l (Double irq key used enabled) =
    (irq ≡ l.irq) × (key ≡ l.a) × IsFirst view (used_of l) used × IsFirst view (enabled_of l) enabled
IsOfLink view l _ = ⊥

-- it is of this walk and this link
abbrev pub IsOfBoth : View → (keys : List ℕ) → List Arrow → Link → Finding → Type 0
IsOfBoth view keys walk l (Inversion irq a b orders used enabled gates) =
    (irq ≡ l.irq) × (a ≡ l.a) × (b ≡ l.b) × AreOrders view walk orders.items
    × IsFirst view (used_of l) used × IsFirst view (enabled_of l) enabled × AreGates view keys walk gates.items
IsOfBoth view keys walk l _ = ⊥

-- it is of this choice
abbrev pub Explains : View → (keys : List ℕ) → Choice → Finding → Type 0
Explains view keys (ByWalk walk) finding = IsCircle view keys walk.items finding
Explains view keys (ByLink l) finding = IsOfLink view l finding
Explains view keys (ByBoth walk l) finding = IsOfBoth view keys walk.items l finding
