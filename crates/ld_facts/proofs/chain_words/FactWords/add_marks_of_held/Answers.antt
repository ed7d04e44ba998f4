use Rattle.ld_facts.proofs.Names.{[], ◌*◌, ◌+◌, ◌<◌, ◌∙◌, ◌∷◌, ◌≡◌, Gathered, List, Lock, None, Some, TakesRun, ap, arith, chain_fact, dependency_total, get_or, key_and_mode, length, none-some, slice_get, slice_get-get_or, subst, sym, ℕ}
use Rattle.std.specs.Option.{option_map}
use Rattle.ld_facts.proofs.Gathering.{Gathered-run, IsRunOf-start, IsRunOf-more, IsMarkOf, IsMarkOf-held, chain_fact-held, fact_slots-opening}
use Rattle.ld_facts.proofs.chain_words.FactWords.add_marks_of_held.Goals as goal
use Rattle.ld_facts.proofs.chain_words.FactWords.add_marks_of_held.Goals.{in-Some, in_default}

-- there is a lock at a place within the list
some_within : (locks : List Lock) (i : ℕ) → i < length locks → ¬ (option_map key_and_mode (slice_get locks i) ≡ None)
some_within [] i l e = omega arith
some_within (lock ∷ locks) i l e =
    none-some (key_and_mode (get_or (lock ∷ locks) i lock)) (sym e ∙ ap (option_map key_and_mode) (slice_get-get_or (lock ∷ locks) i lock l))

pub loop-i-preserved : goal.loop-i-preserved
loop-i-preserved c = elim c.match-held.branch [
  | in-Some w ↦
      let chain = c.args.chain.now in
      let i = c.loop-i.i in
      let lock = slice_get chain.held_locks i in
      let key_is : option_map key_and_mode lock ≡ Some (w.in-Some.key, w.in-Some.field-0-1) = sym c.held.ensures ∙ w.in-Some.is in
      let hard = w.mark_of_old.result in
      let soft = w.mark_of_old-in-Some.result in
      let hard_at : chain_fact chain (i * 2) ≡ hard = ap (chain_fact chain) (omega arith) ∙ chain_fact-held chain i 0 (omega arith) c.requires.opening ∙ sym w.mark_of_old.ensures in
      let soft_at : chain_fact chain (i * 2 + 1) ≡ soft = chain_fact-held chain i 1 (omega arith) c.requires.opening ∙ sym w.mark_of_old-in-Some.ensures in
      let one = IsRunOf-more chain w.in-Some.key (i * 2) (i * 2) 0 w.with_mark-run.result hard (omega arith) (IsRunOf-start chain w.in-Some.key (i * 2)) hard_at
      (subst (IsMarkOf w.in-Some.key) (sym w.mark_of_old.ensures) (IsMarkOf-held lock chain.flags 0 w.in-Some.key w.in-Some.field-0-1 key_is)) w.with_mark-run.ensures.bits in
      let both = IsRunOf-more chain w.in-Some.key (i * 2) (i * 2 + 1) w.with_mark-run.result w.with_mark-run-in-Some.result soft (omega arith) one soft_at
      (subst (IsMarkOf w.in-Some.key) (sym w.mark_of_old-in-Some.ensures) (IsMarkOf-held lock chain.flags 1 w.in-Some.key w.in-Some.field-0-1 key_is)) w.with_mark-run-in-Some.ensures.bits in
      let got : w.get.result ≡ w.in-Some.key = (let k = w.in-Some.key-is in let v = w.get.ensures.value in cc) in
      let takes : TakesRun c.loop-i.self w.add_run.new.self (dependency_total c.args.keys + w.in-Some.key * 9) w.with_mark-run-in-Some.result =
      subst (λ first. TakesRun c.loop-i.self w.add_run.new.self first w.with_mark-run-in-Some.result)
      (w.first_mark.ensures.value ∙ ap (λ key. dependency_total c.args.keys + key * 9) got) w.add_run.ensures in
      rw w.self-is
      (subst (Gathered c.args.keys chain w.add_run.new.self) (omega arith)
      (Gathered-run c.args.keys chain c.loop-i.self w.add_run.new.self w.in-Some.key (i * 2) (i * 2 + 1 + 1) w.with_mark-run-in-Some.result (omega arith)
      c.loop-i.invariant both takes))
  | in_default w ↦
      let l : c.loop-i.i < length c.args.chain.now.held_locks = (let e = c.held_len-i-end.ensures.exact in let t = c.loop-i-test.true in omega arith) in
      let none : option_map key_and_mode (slice_get c.args.chain.now.held_locks c.loop-i.i) ≡ None = sym c.held.ensures ∙ w.in_default.is in
      absurd (some_within c.args.chain.now.held_locks c.loop-i.i l none)
]

pub returns : goal.returns
returns c =
    let slots = fact_slots-opening c.args.chain.now c.requires.opening in
    subst (Gathered c.args.keys c.args.chain.now c.loop-i.self)
    (let e = c.held_len-i-end.ensures.exact in let most = c.loop-i.auto.i-end in let least = c.loop-i-test.false in omega arith)
    c.loop-i.invariant
