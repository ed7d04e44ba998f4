use Rattle.ld_explain.proofs.Names.{◌∙◌, ◌≡◌, ChainHas, ChainParts, Dependency, Fact, Frame, Lock, Marked, None, Some, ap, chain_fact, chain_fact-sound, fact_by, inl, inr, key_by, key_mode_and_frame, last_key, refl, same_Some, sym, ℕ}
use Rattle.ld_explain.proofs.Slots.{named_there}
use Rattle.ld_explain.proofs.asked.Asked.may_be_given.Goals as goal

-- what an acquisition gives ends in the key that it takes
ends_in_taken : (c : ChainParts) (new : Lock) (frame : Frame) → c.new_lock ≡ Some (new, frame) → (y : Fact) → ChainHas c y → last_key y ≡ new.key
ends_in_taken c new frame is (Dependency from to kind) h = h.to_is ∙ ap (λ (p : Lock × Frame). p.0.key) (same_Some (h.new, h.frame) (new, frame) (sym h.is_new ∙ is))
ends_in_taken c new frame is (Marked key mark) (inl h) = h.key_is ∙ ap (λ (p : Lock × Frame). p.0.key) (same_Some (h.new, h.frame) (new, frame) (sym h.is_new ∙ is))
ends_in_taken c new frame is (Marked key mark) (inr h) = absurd (let e : None ≡ Some (new, frame) = sym h.is_opening ∙ is in cc)

last_renamed : (rename : ℕ → ℕ) (y : Fact) → last_key (fact_by rename y) ≡ rename (last_key y)
last_renamed rename (Dependency from to kind) = refl
last_renamed rename (Marked key mark) = refl

pub returns-in-Some : goal.returns-in-Some
returns-in-Some c = λ no n x at.
    let rename = key_by c.args.naming in
    let (y, given, named) = named_there (fact_by rename) (chain_fact c.args.chain.now n) x at in
    let (new, taken, parts) = named_there key_mode_and_frame c.args.chain.now.new_lock c.in-Some.new (sym c.taken.ensures ∙ c.in-Some.is) in
    let ends = ends_in_taken c.args.chain.now new.0 new.1 taken y (chain_fact-sound c.args.chain.now n y given) in
    let called : c.of.result ≡ rename new.0.key = c.of.ensures ∙ ap rename (c.get.ensures.value ∙ sym (ap (λ p. p.0) parts)) in
    c.is_end.ensures no x (sym (ap last_key named) ∙ last_renamed rename y ∙ ap rename ends ∙ sym called)
