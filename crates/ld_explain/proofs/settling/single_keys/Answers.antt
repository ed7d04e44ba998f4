use Rattle.ld_explain.proofs.Names.{◌+◌, ◌<◌, ◌∙◌, AreSureNumbers, ap, arith, if◌then◌else◌, is_rest, name_at, no_key, subst, sym}
use Rattle.ld_explain.proofs.SettlingLemmas.{AreSureNumbers-next}
use Rattle.ld_explain.proofs.settling.single_keys.Goals.{in-Some+in_ok-push, in_default}
use Rattle.ld_explain.proofs.settling.single_keys.Goals as goal

pub loop-number-preserved : goal.loop-number-preserved
loop-number-preserved c = elim c.match-of_many.branch [
  | in-Some+in_ok-push w ↦
      subst (λ ks. AreSureNumbers c.args.names.now.names (c.loop-number.number + 1) ks) (sym (ap (λ v. v.items) w.keys-is ∙ w.in_ok-push.ensures.items))
      (AreSureNumbers-next c.args.names.now.names c.loop-number.number w.single_key.result c.loop-number.keys.items c.loop-number.invariant
      (w.single_key.ensures ∙ ap (λ k. if is_rest (name_at c.args.names.now.names k).0 then no_key else k) w.in-Some.ensures.value))
  | in_default w ↦
      let small : c.loop-number.number < 8192 = omega (arith, c.loop-number-test.true, c.len-number-end.ensures.numbered.few, c.len-number-end.ensures.numbered.most, c.len-number-end.ensures.count) in
      let absent = w.in_default.ensures.exact.1 small in cc
]
