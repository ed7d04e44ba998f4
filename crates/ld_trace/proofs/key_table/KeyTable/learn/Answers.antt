use Rattle.std.specs.Prelude.{drop, take}
use Rattle.std.proofs.Math.Seq.{take-length}
use Rattle.std.proofs.lemmas.List.{length-drop}
use Rattle.ld_trace.proofs.Names.{◌∙◌, KeyIsBelow, ap, event_text, length, names_of, sym}
use Rattle.ld_trace.proofs.key_table.KeyTable.learn.Goals as goal

pub invariant_of-self : goal.invariant_of-self
invariant_of-self c =
    let names = ap (λ t. t.names) (sym c.self.view_is) in
    let below : KeyIsBelow (length (names_of c.self.inside.names)) c.args.event =
    rw (c.len.ensures.count, names) at (c.key_is_below.ensures.0 c.if-key_is_below.true) in
    let at = c.in_ok-at.at in
    let rest = drop at c.as_slice.result.now in
    let whole = ap (λ n. take n rest) (sym (length-drop at c.as_slice.result.now)) ∙ take-length rest in
    let written = ap (drop at) (c.as_slice.ensures.value ∙ ap (λ v. v.items) c.get_ref.ensures) ∙ c.in_ok-at.ensures.text in
    (c.self.invariant.0, c.learn.ensures (names_of c.self.inside.names) below (whole ∙ written ∙ ap (λ ns. event_text ns c.args.event) names) c.self.invariant.1)
