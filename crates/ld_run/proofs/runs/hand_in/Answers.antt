use Rattle.ld_run.proofs.Names.{[], ◌++◌, ◌∙◌, ◌∷◌, ◌≡◌, All-append, All-cons, All-nil, HasDrawn, IsFalse, LeastRefusedIs, List, Seat, SomeHasDrawn, Worked, all_last, ap, append_assoc, map, refl, subst, sym}
use Rattle.ld_run.proofs.Crews.{least-push}
use Rattle.ld_run.proofs.runs.hand_in.Goals as goal

seats_push : (ws : List Worked) (w : Worked) → map (λ (v : Worked). v.seat) ws ++ w.seat ∷ [] ≡ map (λ (v : Worked). v.seat) (ws ++ w ∷ [])
seats_push [] w = refl
seats_push (v ∷ ws) w = ap (λ (ss : List Seat). v.seat ∷ ss) (seats_push ws w)

pub loop-worked-preserved : goal.loop-worked-preserved
loop-worked-preserved c =
    let i = c.loop-worked.invariant in
    let w : Worked = c.in-Some.worked in
    let so_far : List Worked = c.loop-worked.yielded in
    let p = c.push_reserved.ensures in
    let NotLost : Worked → Type 0 = λ v. IsFalse v.lost in (
      tt,
      tt,
      p.items ∙ ap (λ (ss : List Seat). ss ++ w.seat ∷ []) i.2 ∙ append_assoc c.args.back.items (map (λ (v : Worked). v.seat) so_far) (w.seat ∷ [])
          ∙ ap (λ (ss : List Seat). c.args.back.items ++ ss) (seats_push so_far w),
      p.capacity ∙ i.3,
      All-append NotLost so_far (w ∷ []) i.4 (All-cons NotLost w [] c.if-lost.false (All-nil NotLost)),
      (λ traces all.
          let parts = all_last (λ v. LeastRefusedIs traces (HasDrawn v) v.refused) so_far w (so_far ++ w ∷ []) refl all in
          subst (LeastRefusedIs traces (SomeHasDrawn (so_far ++ w ∷ []))) (sym c.earlier-refused.ensures)
          (least-push traces so_far w c.loop-worked.refused (i.5 traces parts.0) parts.1)),
    )
