use Rattle.ld_explain.proofs.Names.{◌↔◌, ◌≡◌, Bool, Dependency, En, Er, Fact, HasFact, IsTrue, Kind, Sn, Sr, false, ℕ}
use Rattle.ld_explain.proofs.found.has_dependency.Goals as goal

-- a dependency has one of the four kinds
no_dependency : (Has : Fact → Type 0) (from to : ℕ) (er en sr sn : Bool) →
    IsTrue er ↔ Has (Dependency from to Er) → IsTrue en ↔ Has (Dependency from to En) →
    IsTrue sr ↔ Has (Dependency from to Sr) → IsTrue sn ↔ Has (Dependency from to Sn) →
    er ≡ false → en ≡ false → sr ≡ false → sn ≡ false → (kind : Kind) → ¬ Has (Dependency from to kind)
no_dependency Has from to er en sr sn er_is en_is sr_is sn_is no_er no_en no_sr no_sn Er has = let is = er_is.1 has in absurd (cc)
no_dependency Has from to er en sr sn er_is en_is sr_is sn_is no_er no_en no_sr no_sn En has = let is = en_is.1 has in absurd (cc)
no_dependency Has from to er en sr sn er_is en_is sr_is sn_is no_er no_en no_sr no_sn Sr has = let is = sr_is.1 has in absurd (cc)
no_dependency Has from to er en sr sn er_is en_is sr_is sn_is no_er no_en no_sr no_sn Sn has = let is = sn_is.1 has in absurd (cc)

pub returns-else-sr : goal.returns-else-sr
returns-else-sr c = λ none kind.
    let facts = HasFact c.args.settled.now in
    no_dependency facts c.args.from c.args.to c.has_dep-er.result c.has_dep-en.result c.has_dep-sr.result c.has_dep-sn.result
    (rw (c.facts-facts.ensures, c.get-from.ensures.value, c.get-to.ensures.value) at c.has_dep-er.ensures)
    (rw (c.facts-facts.ensures, c.get-from.ensures.value, c.get-to.ensures.value) at c.has_dep-en.ensures)
    (rw (c.facts-facts.ensures, c.get-from.ensures.value, c.get-to.ensures.value) at c.has_dep-sr.ensures)
    (rw (c.facts-facts.ensures, c.get-from.ensures.value, c.get-to.ensures.value) at c.has_dep-sn.ensures)
    c.if-sr.false.0 c.if-sr.false.1 c.if-sr.false.2 none kind
