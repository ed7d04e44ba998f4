use Rattle.ld_graph.proofs.Names.{◌&&◌, ◌||◌, ◌↔◌, ◌∙◌, ◌≡◌, AreSpan, Arrow, IsTransitive, Leaves, LeavesFrom, List, TakesArrow, ap, arrival, arrow, has_bit, length, place, reaches, subst, sym, true, with_items_is, ℕ}
use Rattle.std.specs.Vec.{with_items}
use Rattle.ld_graph.proofs.Tables.{TakesArrow-joined, AreTables-joined}
use Rattle.ld_graph.proofs.reach.Reach.add.Goals as goal
use Rattle.ld_graph.proofs.reach.Reach.add.Goals.{After-join-2}

abbrev d : After-join-2 → Arrow
d c = arrow c.args.from c.args.to c.args.kind

abbrev table : After-join-2 → List (List ℕ)
table c = c.self.inside.ahead.items

abbrev ahead : After-join-2 → List (List ℕ)
ahead c = (with_items c.self.inside.ahead c.join.new.rows).items

abbrev behind : After-join-2 → List (List ℕ)
behind c = (with_items c.self.inside.behind c.join-2.new.rows).items

ahead_is : (c : After-join-2) → ahead c ≡ c.join.new.rows
ahead_is c = with_items_is c.self.inside.ahead c.join.new.rows (c.join.ensures.len ∙ c.deref_mut.ensures.len)

behind_is : (c : After-join-2) → behind c ≡ c.join-2.new.rows
behind_is c = with_items_is c.self.inside.behind c.join-2.new.rows (c.join-2.ensures.len ∙ c.deref_mut-2.ensures.len)

joined : (c : After-join-2) → (p q : ℕ) → reaches (ahead c) p q ≡
    (reaches (table c) p q || (has_bit c.remove.new.words p && has_bit c.args.targets.now q))
joined c = λ p q. ap (λ t. reaches t p q) (ahead_is c) ∙ c.join.ensures.joined p q ∙
    ap (λ t. reaches t p q || (has_bit c.remove.new.words p && has_bit c.args.targets.now q)) c.deref_mut.ensures.value

joined_behind : (c : After-join-2) → (q p : ℕ) → reaches (behind c) q p ≡
    (reaches c.self.inside.behind.items q p || (has_bit c.remove-2.new.words q && has_bit c.args.sources.now p))
joined_behind c = λ q p. ap (λ t. reaches t q p) (behind_is c) ∙ c.join-2.ensures.joined q p ∙
    ap (λ t. reaches t q p || (has_bit c.remove-2.new.words q && has_bit c.args.sources.now p)) c.deref_mut-2.ensures.value

transitive : (c : After-join-2) → IsTransitive (table c)
transitive c = subst IsTransitive (sym c.self.view_is) c.requires.transitive

span : (c : After-join-2) → AreSpan (table c) (d c) c.args.sources.now c.args.targets.now
span c = subst (λ t. AreSpan t (d c) c.args.sources.now c.args.targets.now) (sym c.self.view_is) c.requires.span

arriving : (c : After-join-2) → (p : ℕ) → has_bit c.to.result p ≡ reaches (table c) p (arrival (d c))
arriving c = λ p. c.to.ensures p ∙ ap (λ t. reaches t p c.place_of.result) (sym c.self.view_is) ∙
    ap (reaches (table c) p) (c.place_of.ensures.value ∙ ap (place c.args.to) c.ends_in_r.ensures)

each : (c : After-join-2) → (q : ℕ) → (has_bit c.reached_from_each.result q ≡ true) ↔ ((l : ℕ) → Leaves (d c) l → reaches (table c) l q ≡ true)
each c = subst (λ t. (q : ℕ) → (has_bit c.reached_from_each.result q ≡ true) ↔ ((l : ℕ) → Leaves (d c) l → reaches t l q ≡ true)) (sym c.self.view_is)
    (subst (λ s. (q : ℕ) → (has_bit c.reached_from_each.result q ≡ true) ↔ ((l : ℕ) → LeavesFrom c.args.from s l → reaches c.args.self.now l q ≡ true))
    c.begins_with_s.ensures c.reached_from_each.ensures)

pub invariant_of-self : goal.invariant_of-self
invariant_of-self c =
    let w = (goal.at.invariant_of-self c).After-join-2 in
    AreTables-joined (table w) c.self.inside.behind.items (ahead w) (behind w) (d w) c.args.sources.now c.args.targets.now
    c.remove.new.words c.remove-2.new.words c.to.result c.reached_from_each.result c.self.invariant (transitive w) (span w)
    c.remove.ensures.bits (arriving w) c.remove-2.ensures.bits (each w) (joined w) (joined_behind w)
    (ap length (ahead_is w) ∙ c.join.ensures.len ∙ ap length c.deref_mut.ensures.value)
    (ap length (behind_is w) ∙ c.join-2.ensures.len ∙ ap length c.deref_mut-2.ensures.value)

pub returns-clause-takes : goal.returns-clause-takes
returns-clause-takes c =
    let w = (goal.at.returns-clause-takes c).After-join-2 in
    subst (λ t. TakesArrow t (ahead w) (d w)) c.self.view_is
    (TakesArrow-joined (table w) c.self.inside.behind.items (ahead w) (behind w) (d w) c.args.sources.now c.args.targets.now
    c.remove.new.words c.remove-2.new.words c.to.result c.reached_from_each.result c.self.invariant (transitive w) (span w)
    c.remove.ensures.bits (arriving w) c.remove-2.ensures.bits (each w) (joined w) (joined_behind w))
