use Rattle.ld_text.proofs.Names.{◌++◌, ◌-◌, ◌≡◌, Arrow, arith, arrow, codes, common_steps, drop, flat_map, key_text, member_text, name_at, string_bytes, subst, take}
use Rattle.ld_text.proofs.BecauseLemmas.{TellsTurned-from}
use Rattle.ld_text.proofs.because.add_line.Goals as goal

pub returns : goal.returns
returns c =
    let a : Arrow = arrow c.member.result.0 c.member.result.1 c.member.result.2 in
    let begun : string_bytes c.write.new.self ≡ string_bytes c.args.text.now ++ (codes "because " ++ key_text (name_at c.args.names.now.names a.start)) = grind (arith, common_steps) in
    TellsTurned-from c.args.names.now.names c.args.circle.now c.least_start-least.result a (string_bytes c.args.text.now) (string_bytes c.write.new.self)
    (string_bytes c.add_members.new.text) (string_bytes c.add_members-2.new.text) (string_bytes c.push_str.new.self)
    c.member.ensures c.least_start-least.ensures begun
    (subst (λ n. string_bytes c.add_members.new.text ≡ string_bytes c.write.new.self ++ flat_map (member_text c.args.names.now.names) (take (n - c.least_start-least.result) (drop c.least_start-least.result c.args.circle.now)))
    c.len.ensures.exact c.in_ok-add_members.ensures)
    c.in_ok-add_members-2.ensures c.in_ok-push_str.ensures.bytes
