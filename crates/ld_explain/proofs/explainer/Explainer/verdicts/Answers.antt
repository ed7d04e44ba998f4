use Rattle.ld_explain.proofs.Names.{[], ◌++◌, ◌+◌, ◌<◌, ◌∙◌, ◌∷◌, ◌≡◌, SaysSeen, Verdict, ap, append_assoc, arith, into_iter_items, length, length-append, length-map, length_push, map, map-append, refl, rules, subst, sym, take, take-item, vec_len, view_of}
use Rattle.ld_explain.specs.Findings.{Are}
use Rattle.ld_explain.proofs.ChoosingLemmas.{Are-more}
use Rattle.ld_explain.proofs.explainer.Explainer.verdicts.Goals as goal

pub loop-finding-init : goal.loop-finding-init
unfolding Are
loop-finding-init c =
    let none = c.new-verdicts.ensures.items in
    let R = SaysSeen (view_of c.args.self.now.naming c.args.self.now.traces.now) c.args.self.now.keys.now in
    (tt, tt, rw none c.into_iter-finding-iterator.ensures.into_iter_gives.0, subst (λ vs. Are R (take (length vs) c.args.seen.now) vs) (sym none) refl)

pub loop-finding-preserved : goal.loop-finding-preserved
loop-finding-preserved c =
    let R = SaysSeen (view_of c.args.self.now.naming c.args.self.now.traces.now) c.args.self.now.keys.now in
    let f = λ (x : Verdict). x.finding in
    let seen = c.args.seen.now in
    let vs = c.loop-finding.verdicts.items in
    let v : Verdict = record { finding = c.in-Some.finding; between = c.in_ok-between.between } in
    let first : into_iter_items c.loop-finding.finding-iterator ≡ c.in-Some.finding ∷ into_iter_items c.next.new.self = c.in-Some.ensures.steps.0 in
    let whole = c.loop-finding.invariant.2 in
    let long : length vs ≡ vec_len c.loop-finding.verdicts = search rules in
    let mapped : length (map f vs) ≡ length vs = length-map vs f in
    let all : length (map f vs) + length (into_iter_items c.loop-finding.finding-iterator) ≡ length c.args.findings.items =
    sym (length-append (map f vs) (into_iter_items c.loop-finding.finding-iterator)) ∙ ap length whole in
    let each = c.requires.each in
    let one = ap length first in
    let within : length vs < length seen = omega (arith, mapped, all, each, one) in (
      tt,
      tt,
      ap (λ ns. map f ns ++ into_iter_items c.next.new.self) c.in_ok-push.ensures.items
          ∙ ap (λ t. t ++ into_iter_items c.next.new.self) (map-append f vs (v ∷ []))
          ∙ append_assoc (map f vs) (c.in-Some.finding ∷ []) (into_iter_items c.next.new.self)
          ∙ ap (λ t. map f vs ++ t) (sym first) ∙ whole,
      subst (λ ns. Are R (take (length ns) seen) ns) (sym c.in_ok-push.ensures.items)
          (subst (λ n. Are R (take n seen) (vs ++ v ∷ [])) (sym (length_push vs v))
          (subst (λ ss. Are R ss (vs ++ v ∷ [])) (sym (take-item seen (length vs) c.index-seen-len.result (rw long (rw c.len.ensures at c.index-seen-len.is)) within))
          (Are-more R (take (length vs) seen) vs c.index-seen-len.result v c.loop-finding.invariant.3 c.in_ok-between.ensures))),
    )
