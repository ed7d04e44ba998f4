use Rattle.ld_parts.proofs.Names.{◌∙◌, AreApart, FactParts, IsPartOf, ap, arith, length, subst}
use Rattle.ld_parts.proofs.Parts.{are_apart, home_read, part_read, place_read}
use Rattle.ld_parts.proofs.parted_graph.PartedGraph.together.Goals as goal

pub returns-in_err-of_a-clause-none : goal.returns-in_err-of_a-clause-none
returns-in_err-of_a-clause-none c = λ _ la lb. absurd
    (let e = ap (λ (f : FactParts). f.keys) c.self.view_is in
    let n = c.self.invariant.homes_are.homes_of in
    let l = c.in_err-of_a.ensures.lookup.3 in
    omega (arith, c.from.ensures, ap length c.deref.ensures.value))

pub returns-in_err-of_b-clause-none : goal.returns-in_err-of_b-clause-none
returns-in_err-of_b-clause-none c = λ _ la lb. absurd
    (let e = ap (λ (f : FactParts). f.keys) c.self.view_is in
    let n = c.self.invariant.homes_are.homes_of in
    let l = c.in_err-of_b.ensures.lookup.3 in
    omega (arith, c.from-2.ensures, ap length c.deref-2.ensures.value))

pub returns-then-of_a-of_b-clause-none : goal.returns-then-of_a-of_b-clause-none
returns-then-of_a-of_b-clause-none c =
    let a = home_read c.self.inside.facts c.self.inside.parts.items c.self.inside.homes.items c.self.invariant
    c.deref.result.now c.from.result c.args.a c.in_ok-of_a.of_a.now c.deref.ensures.value c.from.ensures
    c.in_ok-of_a.ensures.lookup.3.0 c.in_ok-of_a.ensures.lookup.1 in
    let b = home_read c.self.inside.facts c.self.inside.parts.items c.self.inside.homes.items c.self.invariant
    c.deref-2.result.now c.from-2.result c.args.b c.in_ok-of_b.of_b.now c.deref-2.ensures.value c.from-2.ensures
    c.in_ok-of_b.ensures.lookup.3.0 c.in_ok-of_b.ensures.lookup.1 in
    λ _. subst (λ v. AreApart v c.args.a c.args.b) c.self.view_is
    (are_apart c.self.inside.facts c.self.inside.parts.items c.self.inside.homes.items c.self.invariant
    c.args.a c.args.b c.in_ok-of_a.of_a.now c.in_ok-of_b.of_b.now a b c.if-of_a-of_b.true)

pub index-part-requires : goal.index-part-requires
index-part-requires c =
    let a = home_read c.self.inside.facts c.self.inside.parts.items c.self.inside.homes.items c.self.invariant
    c.deref.result.now c.from.result c.args.a c.in_ok-of_a.of_a.now c.deref.ensures.value c.from.ensures
    c.in_ok-of_a.ensures.lookup.3.0 c.in_ok-of_a.ensures.lookup.1 in
    let l = a.within in let e = c.from-3.ensures in omega arith

pub returns-clause-some : goal.returns-clause-some
returns-clause-some c =
    let a = home_read c.self.inside.facts c.self.inside.parts.items c.self.inside.homes.items c.self.invariant
    c.deref.result.now c.from.result c.args.a c.in_ok-of_a.of_a.now c.deref.ensures.value c.from.ensures
    c.in_ok-of_a.ensures.lookup.3.0 c.in_ok-of_a.ensures.lookup.1 in
    let b = home_read c.self.inside.facts c.self.inside.parts.items c.self.inside.homes.items c.self.invariant
    c.deref-2.result.now c.from-2.result c.args.b c.in_ok-of_b.of_b.now c.deref-2.ensures.value c.from-2.ensures
    c.in_ok-of_b.ensures.lookup.3.0 c.in_ok-of_b.ensures.lookup.1 in
    let is = part_read c.self.inside.facts c.self.inside.parts.items c.self.inside.homes.items c.self.invariant
    c.args.a c.from-3.result c.in_ok-of_a.of_a.now c.index-part.result.now a c.from-3.ensures c.index-part.ensures in record {
      of = subst (λ v. IsPartOf v c.index-part.result.now) c.self.view_is is;
      at_a = place_read c.self.inside.facts c.self.inside.parts.items c.self.inside.homes.items c.self.invariant
          c.args.a c.from-3.result c.in_ok-of_a.of_a.now c.index-part.result.now a c.from-3.ensures c.index-part.ensures;
      at_b = place_read c.self.inside.facts c.self.inside.parts.items c.self.inside.homes.items c.self.invariant
          c.args.b c.from-3.result c.in_ok-of_b.of_b.now c.index-part.result.now b (c.from-3.ensures ∙ c.if-of_a-of_b.false) c.index-part.ensures;
    }
