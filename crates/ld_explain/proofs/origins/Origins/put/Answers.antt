use Rattle.ld_explain.proofs.Names.{◌∙◌, FactBelow, OriginParts, PutsOrigin, Some, ap, cond, eqb, is_some, lookup, subst, sym}
use Rattle.ld_explain.proofs.Puts.{none_there, puts-known, puts-new}
use Rattle.ld_explain.proofs.origins.Origins.put.Goals as goal
use Rattle.ld_explain.proofs.origins.Origins.put.Goals.{in-Err, in-Ok}

pub returns-then-contains_key : goal.returns-then-contains_key
returns-then-contains_key c =
    let entries = c.self.inside.origins.entries in
    let was : OriginParts = record { keys = c.self.inside.keys; entries = entries } in
    subst (λ v. PutsOrigin v v c.args.fact c.args.origin) c.self.view_is
    (puts-known was c.args.fact c.args.origin
    (subst (λ (v : OriginParts). FactBelow v.keys c.args.fact) (sym c.self.view_is) c.requires)
    (ap (λ n. is_some (lookup (λ k. eqb n k) entries)) (sym c.number.ensures.value) ∙ sym c.contains_key.ensures ∙ c.if-contains_key.true))

pub returns : goal.returns
returns c = elim c.match-insert.branch [
  | in-Ok w ↦
      let old = c.self.inside.origins.entries in
      let new = c.insert.new.self.entries in
      let keys = c.self.inside.keys in
      let below = subst (λ (v : OriginParts). FactBelow v.keys c.args.fact) (sym c.self.view_is) c.requires in
      let number = c.number.ensures.value in
      rw w.result-is
      (subst (λ v. PutsOrigin v (record { keys = keys; entries = new }) c.args.fact c.args.origin) c.self.view_is
      (puts-new c.facts_are_bits.ensures.different keys old new c.args.fact c.args.origin below
      (none_there _ (ap (λ n. is_some (lookup (λ k. eqb n k) old)) (sym number) ∙ sym c.contains_key.ensures ∙ c.if-contains_key.false))
      (λ q. w.in-Ok.ensures.updates.0 q ∙ ap (λ n. cond (eqb n q) (Some c.args.origin) (lookup (λ k. eqb q k) old)) number)))
  | in-Err w ↦ rw w.result-is tt
]
