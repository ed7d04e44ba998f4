use Rattle.ld_text.proofs.Names.{◌++◌, ◌-◌, ◌<◌, ◌∙◌, ◌≡◌, ◌≤◌, Arrow, ap, append_assoc, arith, arrow, common_steps, drop, flat_map, length, member_text, string_bytes, sym, take}
use Rattle.ld_text.proofs.BecauseLemmas.{members_next}
use Rattle.ld_text.proofs.because.add_members.Goals as goal

pub loop-i-preserved : goal.loop-i-preserved
loop-i-preserved c =
    let d : Arrow = arrow c.member-to.result.0 c.member-to.result.1 c.member-to.result.2 in
    let within : c.loop-i.i < length c.args.circle.now = let l = c.loop-i-test.true in let m = c.requires.within in omega arith in
    let onwards : c.args.start ≤ c.loop-i.i = let l = c.loop-i.auto.i in l in
    let wrote : string_bytes c.write.new.self ≡ string_bytes c.loop-i.text ++ member_text c.args.names.now.names d = grind (arith, common_steps) in
    wrote ∙ ap (λ t. t ++ member_text c.args.names.now.names d) c.loop-i.invariant
    ∙ append_assoc (string_bytes c.args.text.now) (flat_map (member_text c.args.names.now.names) (take (c.loop-i.i - c.args.start) (drop c.args.start c.args.circle.now))) (member_text c.args.names.now.names d)
    ∙ ap (λ t. string_bytes c.args.text.now ++ t) (sym (members_next c.args.names.now.names c.args.circle.now c.args.start c.loop-i.i d onwards c.member-to.ensures within))
