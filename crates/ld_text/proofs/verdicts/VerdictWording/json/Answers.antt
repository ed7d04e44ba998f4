use Rattle.ld_text.proofs.Names.{◌++◌, ◌∙◌, ◌≡◌, List, ap, append_assoc, codes, count_members, drop, flat_map, in_order, object, print, verdict_line, ℕ}
use Rattle.ld_text.specs.Verdicts.{end_line, verdict_json}
use Rattle.ld_text.proofs.verdicts.VerdictWording.json.Goals as goal

-- seven texts, one after the other
seven : (a b c d e f g : List ℕ) → ((((a ++ (b ++ c)) ++ d) ++ e) ++ f) ++ g ≡ a ++ (b ++ (c ++ (d ++ (e ++ (f ++ g)))))
seven a b c d e f g =
    append_assoc (((a ++ (b ++ c)) ++ d) ++ e) f g ∙ append_assoc ((a ++ (b ++ c)) ++ d) e (f ++ g)
    ∙ append_assoc (a ++ (b ++ c)) d (e ++ (f ++ g)) ∙ append_assoc a (b ++ c) (d ++ (e ++ (f ++ g)))
    ∙ ap (λ t. a ++ t) (append_assoc b c (d ++ (e ++ (f ++ g))))

pub returns : goal.returns
unfolding verdict_json
returns c =
    let counts = print (object (count_members c.args.verdicts.now)) in
    let lines = in_order (verdict_line c.args.self.now.types.now c.args.self.now.locks.now) c.args.verdicts.now in
    let ends = flat_map (end_line c.args.self.now.locks.now) c.args.ends.now in
    let line_items : c.add_objects.new.text.items ≡ lines = c.in_ok-add_objects.ensures ∙ ap (λ t. t ++ lines) c.new-lines.ensures.items in
    let end_items : c.add_ends.new.text.items ≡ ends = c.in_ok-add_ends.ensures ∙ ap (λ t. t ++ ends) c.new-held.ensures.items in
    let head = codes "{\"lockdep\":3,\"counts\":" ++ (counts ++ codes ",\"findings\":[") in
    let with_lines : c.extend_from_slice.new.self.items ≡ head ++ drop 1 lines =
    c.in_ok-extend_from_slice.ensures.items ∙ ap (λ t. t ++ c.without_first.result.now) c.in_ok-text.ensures
    ∙ ap (λ t. head ++ t) (c.without_first.ensures ∙ ap (drop 1) (c.as_slice.ensures.value ∙ line_items)) in
    let between : c.extend_from_slice-2.new.self.items ≡ (head ++ drop 1 lines) ++ codes "\n],\"ends\":[" =
    c.in_ok-extend_from_slice-2.ensures.items ∙ ap (λ t. t ++ c.as_bytes.result.now) with_lines
    ∙ ap (λ t. (head ++ drop 1 lines) ++ t) c.as_bytes.ensures.value in
    let with_ends : c.extend_from_slice-3.new.self.items ≡ ((head ++ drop 1 lines) ++ codes "\n],\"ends\":[") ++ drop 1 ends =
    c.in_ok-extend_from_slice-3.ensures.items ∙ ap (λ t. t ++ c.without_first-2.result.now) between
    ∙ ap (λ t. ((head ++ drop 1 lines) ++ codes "\n],\"ends\":[") ++ t) (c.without_first-2.ensures ∙ ap (drop 1) (c.as_slice-2.ensures.value ∙ end_items)) in
    c.in_ok-extend_from_slice-4.ensures.items ∙ ap (λ t. t ++ c.as_bytes-2.result.now) with_ends
    ∙ ap (λ t. (((head ++ drop 1 lines) ++ codes "\n],\"ends\":[") ++ drop 1 ends) ++ t) c.as_bytes-2.ensures.value
    ∙ seven (codes "{\"lockdep\":3,\"counts\":") counts (codes ",\"findings\":[") (drop 1 lines) (codes "\n],\"ends\":[") (drop 1 ends) (codes "\n]}\n")
