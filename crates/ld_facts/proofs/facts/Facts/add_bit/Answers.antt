use Rattle.ld_facts.proofs.Names.{◌<◌, ◌∙◌, ◌≡◌, ◌≤◌, FactParts, MAX_KEYS, SetsBit, bit_total, dependency_count-le, dependency_total, false, has_bit, mark_count-le, refl, rules, subst, sym}
use Rattle.ld_facts.proofs.Adding.{AreCounted-dependency, AreCounted-mark}
use Rattle.ld_facts.proofs.facts.Facts.add_bit.Goals as goal
use Rattle.ld_facts.proofs.facts.Facts.add_bit.Goals.{After-insert}

abbrev before : After-insert → FactParts
before c = record { keys = c.self.inside.keys; words = c.self.inside.bits }

abbrev after : After-insert → FactParts
after c = record { keys = c.self.inside.keys; words = c.insert.new.self }

sets : (c : After-insert) → SetsBit (before c) (after c) c.args.n
sets c = record { keys = refl; set = c.insert.ensures.set; others = c.insert.ensures.others }

off : (c : After-insert) → has_bit c.self.inside.bits c.args.n ≡ false
off c = sym c.has.ensures ∙ c.if-has.false

below : (c : After-insert) → c.args.n < bit_total c.self.inside.keys
below c = subst (λ v. c.args.n < bit_total v.keys) (sym c.self.view_is) c.requires

pub overflow_add-self : goal.overflow_add-self
overflow_add-self c =
    let most = dependency_count-le (record { keys = c.self.inside.keys; words = c.self.inside.bits }) MAX_KEYS c.self.invariant.are.few in
    let is = c.self.invariant.dependencies in
    search rules

pub invariant_of-self : goal.invariant_of-self
invariant_of-self c =
    let d = (goal.at.invariant_of-self c).After-insert in
    AreCounted-dependency (before d) (after d) c.args.n (sets d) c.self.inside.dependencies c.self.inside.marks d.insert.ensures.len c.self.invariant
    (subst (λ k. c.args.n < dependency_total k) c.from-keys.ensures c.if-n-keys.true) (off d)

pub overflow_add-self-else-n-keys : goal.overflow_add-self-else-n-keys
overflow_add-self-else-n-keys c =
    let most = mark_count-le (record { keys = c.self.inside.keys; words = c.self.inside.bits }) MAX_KEYS c.self.invariant.are.few in
    let is = c.self.invariant.marks in
    search rules

pub invariant_of-self-else-n-keys : goal.invariant_of-self-else-n-keys
invariant_of-self-else-n-keys c =
    let d = (goal.at.invariant_of-self-else-n-keys c).After-insert in
    AreCounted-mark (before d) (after d) c.args.n (sets d) c.self.inside.dependencies c.self.inside.marks d.insert.ensures.len c.self.invariant
    (subst (λ k. dependency_total k ≤ c.args.n) c.from-keys.ensures c.if-n-keys.false) (below d) (off d)
