use Rattle.ld_explain.proofs.Names.{◌∙◌, ◌≤◌, ComesNext, arith, length, refl, sym, view_of}
use Rattle.ld_explain.proofs.Keys.{never_past}
use Rattle.ld_explain.proofs.Passing.{taken_end, taken_start}
use Rattle.ld_explain.proofs.evidence.Evidence.add_trace.Goals as goal

pub loop-place-init : goal.loop-place-init
loop-place-init c = (
  refl,
  refl,
  c.new-state.ensures c.args.trace.now,
  λ traces here before.
      taken_start (view_of c.args.naming traces) c.args.asked.now c.args.number c.args.self.now.origins c.args.self.now.guards before,
)

pub unreachable-requires : goal.unreachable-requires
unreachable-requires c =
    let l = c.loop-place-test.true in
    let e = c.len-place-end.ensures.count in
    never_past c.args.trace.now c.loop-place.place (omega (arith, l, e)) (sym c.event.ensures ∙ c.in_default.is)

pub loop-place-preserved : goal.loop-place-preserved
loop-place-preserved c =
    let was = c.loop-place.invariant in
    let next : ComesNext c.args.trace.now c.loop-place.place c.loop-place.state c.in-Some.event =
    record { after = was.2; here = sym c.event.ensures ∙ c.in-Some.is; well_formed = c.requires.well_formed } in (
      c.in_ok-add_event.ensures.origins ∙ was.0,
      c.in_ok-add_event.ensures.guards ∙ was.1,
      c.in_ok-add_event.ensures.after c.args.trace.now next,
      λ traces here before.
          c.in_ok-add_event.ensures.taken traces c.args.trace.now here next (was.3 traces here before),
    )

pub returns-clause-taken : goal.returns-clause-taken
returns-clause-taken c traces here before =
    let past : length c.args.trace.now ≤ c.loop-place.place = omega (arith, c.len-place-end.ensures.count, c.loop-place-test.false) in
    taken_end (view_of c.args.naming traces) c.args.asked.now c.args.trace.now c.args.number here c.loop-place.place past c.loop-place.self.origins c.loop-place.self.guards
    (c.loop-place.invariant.3 traces here before)
