use Rattle.ld_trace.proofs.Names.{[], ◌++◌, ◌∙◌, ◌∷◌, ap, arith, length, length-map, map, name_at, name_by, place_of, refl, sym, with_name}
use Rattle.ld_trace.proofs.Alike.{with_all-within}
use Rattle.ld_trace.proofs.ClassLemmas.{name_at-map, numbers-all, with_name-longer}
use Rattle.ld_trace.proofs.TakenIn.{leads-below, one-taken}
use Rattle.ld_trace.proofs.renaming.Renaming.of.Goals as goal

pub loop-place-init : goal.loop-place-init
loop-place-init c =
    let none = c.new-keys.ensures.items in
    let table = c.in-Ok.ensures in
    rw (none, table.1) (
      record { few = omega arith; within = refl; places = refl },
      refl,
      sym (with_all-within [] [] refl),
      omega arith,
      table.0,
    )

pub loop-place-preserved : goal.loop-place-preserved
loop-place-preserved c =
    let kept = c.loop-place.invariant in
    let own = map (name_by c.args.level) c.args.table.now.names in
    let at = name_at-map (name_by c.args.level) c.args.table.now.names c.loop-place.place (let t = c.loop-place-test.true in let e = c.len-place-end.ensures.count in omega arith) in
    let one = one-taken [] own c.loop-place.names.names c.add_name.new.names.names c.loop-place.keys.items c.add_name.new.keys.items c.loop-place.place kept.0 kept.1 kept.2
    (let t = c.loop-place-test.true in let e = c.len-place-end.ensures.count in let l = length-map c.args.table.now.names (name_by c.args.level) in omega arith)
    (c.in_ok-add_name.ensures.names ∙ ap (with_name c.loop-place.names.names) (sym at))
    (c.in_ok-add_name.ensures.numbers ∙ ap (λ n. c.loop-place.keys.items ++ place_of c.loop-place.names.names n ∷ []) (sym at)) in
    let longer = with_name-longer c.loop-place.names.names (name_by c.args.level (name_at c.args.table.now.names c.loop-place.place)) in (
      one.0,
      one.1,
      one.2,
      (let n = ap length c.in_ok-add_name.ensures.names in let was = kept.3 in omega arith),
      c.in_ok-add_name.ensures.room ∙ kept.4,
    )

pub returns-clause-keys : goal.returns-clause-keys
returns-clause-keys c = numbers-all c.args.level c.args.table.now.names c.loop-place.names.names c.loop-place.keys.items c.loop-place.invariant.0
    (let n = c.loop-place.invariant.1 in let e = c.len-place-end.ensures.count in let t = c.loop-place-test.false in let a = c.loop-place.auto.place-end in omega arith)

pub returns-clause-below : goal.returns-clause-below
returns-clause-below c =
    leads-below (map (name_by c.args.level) c.args.table.now.names) c.loop-place.keys.items c.loop-place.names.names c.loop-place.invariant.0
