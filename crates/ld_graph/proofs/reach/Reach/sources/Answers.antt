use Rattle.ld_graph.proofs.Names.{◌↔◌, ◌≡◌, IsSource, has_bit, subst, sym, true, ℕ}
use Rattle.ld_graph.proofs.Tables.{IsSource-both}
use Rattle.ld_graph.proofs.reach.Reach.sources.Goals as goal

pub returns-then-not-by_s : goal.returns-then-not-by_s
returns-then-not-by_s c =
    subst (λ s. (p : ℕ) → (has_bit c.insert-then-not-by_s.new.words p ≡ true) ↔ IsSource c.args.self.now c.args.key s p) (sym c.if-not-by_s.true)
    (IsSource-both c.args.self.now c.args.key c.place_of-place.result c.place_of-place-then-not-by_s.result
    c.to-row.result c.insert.new.words c.to.result c.unite.new.words c.insert-then-not-by_s.new.words
    c.place_of-place.ensures.value c.place_of-place-then-not-by_s.ensures.value
    c.to-row.ensures c.insert.ensures.set c.insert.ensures.others c.to.ensures c.unite.ensures.bits
    c.insert-then-not-by_s.ensures.set c.insert-then-not-by_s.ensures.others)
