-- Facts taken over by the keys of a list, each key by its place there, in the order of their numbers. No public clause speaks of these.
use Rattle.std.specs.Prelude.{◌≡◌, ℕ, ◌<◌, ◌↔◌, List, length}
use Rattle.ld_facts.specs.FactBits.{FactParts, HasFact}
use Rattle.ld_facts.specs.Numbers.{fact_number}
use Rattle.ld_facts.specs.Renumbered.{Renumbered}
use Rattle.ld_facts.specs.declared.fact.Fact.{Fact}

-- the facts with numbers below n have been taken over
pub record IsTakenOver (facts now : FactParts) (listed : List ℕ) (n : ℕ) : Type 0 where
  pub keys : now.keys ≡ length listed
  pub exact : (x : Fact) → HasFact now x ↔ (Renumbered (HasFact facts) listed x × (fact_number (length listed) x < n))
