use Rattle.ld_explain.proofs.Names.{Dependency, refl}
use Rattle.ld_explain.proofs.explainer.Explainer.guard.Goals as goal

pub unreachable-requires : goal.unreachable-requires
unreachable-requires c =
    let knows = c.requires.knows in
    let d = c.args.d.now in
    (rw (c.in_default.is, c.fact.ensures.value) at c.guard_of.ensures.none) refl
    (knows.guards_are.all d c.requires.asked (knows.has (Dependency d.start d.end d.kind) c.requires.asked))

pub returns : goal.returns
returns c =
    let guards = c.requires.knows.guards_are in
    let has = rw c.fact.ensures.value at c.in-Some.ensures.some in
    record {
      gates = guards.gates c.args.d.now c.requires.asked c.in-Some.guard.now has;
      only = guards.only c.args.d.now c.requires.asked c.in-Some.guard.now has;
    }
