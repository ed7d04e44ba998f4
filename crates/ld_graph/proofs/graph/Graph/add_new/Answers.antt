use Rattle.ld_graph.proofs.Names.{◌+◌, ◌↔◌, ◌∙◌, ◌≡◌, ◌≤◌, Adds, AreSpan, Arrow, Bool, DependenciesOf, FactParts, GRAPH_KEYS, HasFact, IsGraph, IsSource, IsTarget, Leads, MarkTurnsBack, StaysClean, ap, arith, arrow, false, has_bit, is_s, not, refl, rows_allowed, rows_allowed-le, rows_for, rules, subst, sym, true, ℕ}
use Rattle.ld_graph.specs.Graphs.{GraphParts}
use Rattle.ld_graph.proofs.Ways.{IsTransitive-ways}
use Rattle.ld_graph.proofs.GraphSteps.{IsGraph-dependency, IsGraph-led, IsGraph-mark}
use Rattle.ld_graph.proofs.graph.Graph.add_new.Goals as goal
use Rattle.ld_graph.proofs.graph.Graph.add_new.Goals.{Joined-was_clean-3, in-Dependency+then-leads, in-Dependency+else-leads, then-was_clean, else-was_clean, in-Marked, then-was_clean-2, else-was_clean-2, then-was_clean-3, else-was_clean-3}

pub add-requires-else-leads-clause-transitive : goal.add-requires-else-leads-clause-transitive
add-requires-else-leads-clause-transitive c = IsTransitive-ways (Leads (DependenciesOf (HasFact c.self.inside.facts))) c.self.inside.reach c.self.invariant.ways

pub add-requires-else-leads-clause-span : goal.add-requires-else-leads-clause-span
add-requires-else-leads-clause-span c = record {
  sources_are = subst (λ s. (p : ℕ) → (has_bit c.sources-sources.result p ≡ true) ↔ IsSource c.self.inside.reach c.in-Dependency.from s p)
      c.begins_with_s.ensures c.sources-sources.ensures;
  targets_are = subst (λ r. (q : ℕ) → (has_bit c.targets-targets.result q ≡ true) ↔ IsTarget c.self.inside.reach c.in-Dependency.to r q)
      c.ends_in_r.ensures c.targets-targets.ensures;
}

-- a new flag: set if the old one was and a test passes
flag : (was now test : Bool) (P : Type 0) → ((test ≡ true) ↔ P) → (was ≡ true) → now ≡ test → (now ≡ true) ↔ ((was ≡ true) × P)
flag was now test P iff on is = ((λ h. (on, iff.0 (sym is ∙ h))), (λ h. is ∙ iff.1 h.1))

no_flag : (was now : Bool) (P : Type 0) → (was ≡ false) → now ≡ false → (now ≡ true) ↔ ((was ≡ true) × P)
no_flag was now P off is = ((λ h. absurd (let e : false ≡ true = sym is ∙ h in cc)), (λ h. absurd (let e : false ≡ true = sym off ∙ h.0 in cc)))

not_iff : (b : Bool) (P : Type 0) → ((b ≡ true) ↔ P) → (not b ≡ true) ↔ (¬ P)
not_iff true P iff = ((λ h p. let e : false ≡ true = h in cc), (λ n. absurd (n (iff.0 refl))))
not_iff false P iff = ((λ h p. let e : false ≡ true = iff.1 p in cc), (λ n. refl))

-- as many rows as a new fact allows
counted : (c : Joined-was_clean-3) → c.if-was_clean-3.counted ≤ rows_for c.args.fact
counted c = elim c.if-was_clean-3.branch [
  | then-was_clean-3 w ↦ rw w.counted-is rows_few
  | else-was_clean-3 w ↦ rw w.counted-is (omega arith)
]
  where
    rows_few : c.match-fact.rows ≤ rows_for c.args.fact
    rows_few = elim c.match-fact.branch [
      | in-Dependency+then-leads w ↦ rw (w.rows-is, w.in-Dependency.is) (let few = w.rows_left.ensures in omega arith)
      | in-Dependency+else-leads w ↦ rw (w.rows-is, w.in-Dependency.is) w.add-else-leads.ensures.count
      | in-Marked w ↦ rw (w.rows-is, w.in-Marked.is) (let few = w.rows_read-rows.ensures in omega arith)
    ]

not_false : (b : Bool) → ¬ (b ≡ false) → b ≡ true
not_false true h = refl
not_false false h = absurd (h refl)

is_new : (c : Joined-was_clean-3) → c.add.result ≡ true
is_new c = not_false c.add.result
    (λ known. c.requires.new (subst (λ (g : GraphParts). HasFact g.facts c.args.fact) c.self.view_is (c.add.ensures.fresh.0 known)))

-- so no more were counted than may be
within : (c : Joined-was_clean-3) → c.match-fact.self-inside.searched + c.if-was_clean-3.counted ≤ rows_allowed c.add.new.self
within c =
    let more = c.add.ensures.allowed (is_new c) in
    let bound = c.self.invariant.bound in
    omega (arith, counted c, same)
  where
    same : c.match-fact.self-inside.searched ≡ c.self.inside.searched
    same = elim c.match-fact.branch [
      | in-Dependency+then-leads w ↦ ap (λ g. g.searched) w.self-inside-is
      | in-Dependency+else-leads w ↦ ap (λ g. g.searched) w.self-inside-is
      | in-Marked w ↦ ap (λ g. g.searched) w.self-inside-is
    ]

pub overflow_add-self : goal.overflow_add-self
overflow_add-self c =
    let most = rows_allowed-le c.add.new.self (subst (λ k. k ≤ GRAPH_KEYS) (sym c.add.ensures.keys) c.self.invariant.few) in
    let bound = within (goal.at.overflow_add-self c).Joined-was_clean-3 in
    search rules

pub invariant_of-self : goal.invariant_of-self
invariant_of-self c = elim c.match-fact.branch [
  | in-Dependency+then-leads w ↦
      let d : Arrow = arrow w.in-Dependency.from w.in-Dependency.to w.in-Dependency.kind in
      subst (λ g. IsGraph g.facts g.reach g.ends g.clean (c.match-fact.self-inside.searched + c.if-was_clean-3.counted)) (sym w.self-inside-is)
      (IsGraph-led c.self.inside.facts c.add.new.self d c.add.ensures.keys
      (subst (λ f. Adds (HasFact c.self.inside.facts) (HasFact c.add.new.self) (λ x. x ≡ f)) w.in-Dependency.is c.add.ensures.adds)
      c.self.inside.reach c.self.inside.ends c.self.inside.clean c.self.inside.searched c.self.invariant
      (w.leads.ensures.0 w.if-leads.true)
      (c.match-fact.self-inside.searched + c.if-was_clean-3.counted)
      (within (goal.at.invariant_of-self c).Joined-was_clean-3))
  | in-Dependency+else-leads w ↦
      let d : Arrow = arrow w.in-Dependency.from w.in-Dependency.to w.in-Dependency.kind in
      let span : AreSpan c.self.inside.reach d w.sources-sources.result w.targets-targets.result = record {
        sources_are = subst (λ s. (p : ℕ) → (has_bit w.sources-sources.result p ≡ true) ↔ IsSource c.self.inside.reach d.start s p)
            w.begins_with_s.ensures w.sources-sources.ensures;
        targets_are = subst (λ r. (q : ℕ) → (has_bit w.targets-targets.result q ≡ true) ↔ IsTarget c.self.inside.reach d.end r q)
            w.ends_in_r.ensures w.targets-targets.ensures;
      } in
      subst (λ g. IsGraph g.facts g.reach g.ends g.clean (c.match-fact.self-inside.searched + c.if-was_clean-3.counted)) (sym w.self-inside-is)
      (IsGraph-dependency c.self.inside.facts c.add.new.self d c.add.ensures.keys
      (subst (λ f. Adds (HasFact c.self.inside.facts) (HasFact c.add.new.self) (λ x. x ≡ f)) w.in-Dependency.is c.add.ensures.adds)
      c.self.inside.reach w.add-else-leads.new.self w.add-else-leads.ensures.takes w.sources-sources.result w.targets-targets.result span
      c.self.inside.ends c.self.inside.clean c.self.inside.searched c.self.invariant w.if-was_clean.self
      (c.match-fact.self-inside.searched + c.if-was_clean-3.counted)
      (elim w.if-was_clean.branch [
        | then-was_clean v ↦ flag c.self.inside.clean w.if-was_clean.self v.keeps_order-self-inside.result
            (StaysClean w.sources-sources.result w.targets-targets.result c.self.inside.ends d.start (is_s d.kind))
            v.keeps_order-self-inside.ensures v.if-was_clean.true v.self-is
        | else-was_clean v ↦ no_flag c.self.inside.clean w.if-was_clean.self
            (StaysClean w.sources-sources.result w.targets-targets.result c.self.inside.ends d.start (is_s d.kind))
            v.if-was_clean.false (v.self-is ∙ v.if-was_clean.false)
      ])
      (within (goal.at.invariant_of-self c).Joined-was_clean-3))
  | in-Marked w ↦
      let key = w.in-Marked.key in
      let mark = w.in-Marked.mark in
      subst (λ g. IsGraph g.facts g.reach g.ends g.clean (c.match-fact.self-inside.searched + c.if-was_clean-3.counted)) (sym w.self-inside-is)
      (IsGraph-mark c.self.inside.facts c.add.new.self key mark c.add.ensures.keys
      (subst (λ f. Adds (HasFact c.self.inside.facts) (HasFact c.add.new.self) (λ x. x ≡ f)) w.in-Marked.is c.add.ensures.adds)
      c.self.inside.reach c.self.inside.ends w.add-in-Marked.new.self w.add-in-Marked.ensures
      c.self.inside.clean c.self.inside.searched c.self.invariant w.if-was_clean-2.self
      (c.match-fact.self-inside.searched + c.if-was_clean-3.counted)
      (elim w.if-was_clean-2.branch [
        | then-was_clean-2 v ↦ flag c.self.inside.clean w.if-was_clean-2.self (not v.turns_back.result) (¬ MarkTurnsBack c.self.inside.reach c.self.inside.ends key mark)
            (not_iff v.turns_back.result (MarkTurnsBack c.self.inside.reach c.self.inside.ends key mark) v.turns_back.ensures) v.if-was_clean-2.true v.self-is
        | else-was_clean-2 v ↦ no_flag c.self.inside.clean w.if-was_clean-2.self (¬ MarkTurnsBack c.self.inside.reach c.self.inside.ends key mark)
            v.if-was_clean-2.false (v.self-is ∙ v.if-was_clean-2.false)
      ])
      (within (goal.at.invariant_of-self c).Joined-was_clean-3))
]

pub returns-clause-adds : goal.returns-clause-adds
returns-clause-adds c =
    subst (λ (f : FactParts). Adds (HasFact c.args.self.now.facts) (HasFact f) (λ x. x ≡ c.args.fact)) facts_are
    (subst (λ (g : GraphParts). Adds (HasFact g.facts) (HasFact c.add.new.self) (λ x. x ≡ c.args.fact)) c.self.view_is c.add.ensures.adds)
  where
    facts_are : c.add.new.self ≡ c.match-fact.self-inside.facts
    facts_are = elim c.match-fact.branch [
      | in-Dependency+then-leads w ↦ ap (λ g. g.facts) (sym w.self-inside-is)
      | in-Dependency+else-leads w ↦ ap (λ g. g.facts) (sym w.self-inside-is)
      | in-Marked w ↦ ap (λ g. g.facts) (sym w.self-inside-is)
    ]
