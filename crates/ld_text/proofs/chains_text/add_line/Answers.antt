use Rattle.ld_text.proofs.Names.{◌++◌, ◌<◌, ◌∙◌, ◌≡◌, List, ap, append_assoc, arith, codes, decimal, flat_map, head_text, held_text, length, lock_text, sym, take, take_all, ℕ}
use Rattle.ld_text.specs.ChainLines.{chain_line}
use Rattle.ld_text.proofs.ChainLemmas.{locks_text-next, held-none}
use Rattle.ld_text.proofs.chains_text.add_line.Goals as goal

-- one more text after three
longer : (line new a b c x y xy : List ℕ) → line ≡ a ++ (b ++ (c ++ x)) → new ≡ line ++ y → xy ≡ x ++ y → new ≡ a ++ (b ++ (c ++ xy))
longer line new a b c x y xy is more both =
    more ∙ ap (λ t. t ++ y) is ∙ append_assoc a (b ++ (c ++ x)) y
    ∙ ap (λ t. a ++ t) (append_assoc b (c ++ x) y ∙ ap (λ t. b ++ t) (append_assoc c x y ∙ ap (λ t. c ++ t) (sym both)))

pub unreachable-requires : goal.unreachable-requires
unreachable-requires c = held-none c.args.chain.now.held_locks c.loop-place.place (sym c.held.ensures ∙ c.in_default.is) (omega (arith, c.held_len-place-end.ensures.exact))

pub loop-place-preserved : goal.loop-place-preserved
loop-place-preserved c =
    let locks = c.args.chain.now.held_locks in
    let within : c.loop-place.place < length locks = omega (arith, c.held_len-place-end.ensures.exact) in
    record {
      text = longer _ _ _ (codes " held ") (decimal (length locks)) _ _ _ c.loop-place.invariant.text c.add_lock.ensures.text
          (locks_text-next c.args.names.now.names locks c.loop-place.place _ (sym c.held.ensures ∙ c.in-Some.is) within);
      short = omega (arith, c.add_lock.ensures.short, c.loop-place.invariant.short);
    }

pub returns : goal.returns
unfolding chain_line
returns c =
    let locks = c.args.chain.now.held_locks in
    let head = head_text c.args.names.now.names c.args.chain.now.new_lock c.args.chain.now.flags in
    let all : take c.loop-place.place locks ≡ locks = take_all c.loop-place.place locks (omega (arith, c.held_len-place-end.ensures.exact)) in
    c.push_str-3.ensures.bytes
    ∙ ap (λ t. t ++ codes "\n") (c.loop-place.invariant.text ∙ ap (λ xs. head ++ (codes " held " ++ (decimal (length locks) ++ flat_map (lock_text c.args.names.now.names) xs))) all)
    ∙ append_assoc head (held_text c.args.names.now.names locks) (codes "\n")
