use Rattle.ld_facts.proofs.Names.{◌*◌, ◌+◌, ◌<◌, ◌∙◌, ◌≡◌, Gathered, IfSome, IsRunOf, Lock, TakesRun, ap, arith, chain_fact, dependency_total, is_read, length, mark_by_taking, marks_taken, subst, sym}
use Rattle.ld_facts.proofs.Gathering.{Gathered-run, IsRunOf-start, IsRunOf-more, IsMarkOf, IsMarkOf-if, chain_fact-mark_of_new, fact_slots-taking}
use Rattle.ld_facts.proofs.chain_words.FactWords.add_marks_of_new.Goals as goal

pub loop-n-init : goal.loop-n-init
loop-n-init c =
    let held = length c.args.chain.now.held_locks in
    record {
      short = omega arith;
      run = subst (λ last. IsRunOf c.args.chain.now c.args.key held last 0) (omega arith) (IsRunOf-start c.args.chain.now c.args.key held);
    }

pub loop-n-preserved : goal.loop-n-preserved
loop-n-preserved c =
    let held = length c.args.chain.now.held_locks in
    let at : chain_fact c.args.chain.now (held + c.loop-n.n) ≡ c.mark_of_new.result =
    chain_fact-mark_of_new c.args.chain.now (record { key = c.args.key; mode = c.args.mode }) c.args.frame c.loop-n.n c.requires.taken ∙ sym c.mark_of_new.ensures in
    let mark : IsMarkOf c.args.key c.mark_of_new.result =
    subst (IsMarkOf c.args.key) (sym c.mark_of_new.ensures)
    (IsMarkOf-if (marks_taken c.args.mode c.args.frame c.args.chain.now.flags) c.args.key (mark_by_taking (is_read c.args.mode) c.loop-n.n)) in
    record {
      short = c.with_mark-run.ensures.short;
      run = subst (λ last. IsRunOf c.args.chain.now c.args.key held last c.with_mark-run.result) (omega arith)
          (IsRunOf-more c.args.chain.now c.args.key held (held + c.loop-n.n) c.loop-n.run c.with_mark-run.result c.mark_of_new.result (omega arith)
          c.loop-n.invariant.run at mark c.with_mark-run.ensures.bits);
    }

pub first_mark-requires-clause-key : goal.first_mark-requires-clause-key
first_mark-requires-clause-key c =
    subst (λ key. key < c.args.keys) (sym c.get.ensures.value)
    (subst (λ o. IfSome o (λ new. new.0.key < c.args.keys)) c.requires.taken c.requires.below.new_below)

pub returns : goal.returns
returns c =
    let lock : Lock = record { key = c.args.key; mode = c.args.mode } in
    let held = length c.args.chain.now.held_locks in
    let slots = fact_slots-taking c.args.chain.now lock c.args.frame c.requires.taken in
    let n : c.loop-n.n ≡ 5 = (let most = c.loop-n.auto.n-end in let least = c.loop-n-test.false in omega arith) in
    let takes : TakesRun c.args.self.now c.add_run.new.self (dependency_total c.args.keys + c.args.key * 9) c.loop-n.run =
    subst (λ first. TakesRun c.args.self.now c.add_run.new.self first c.loop-n.run)
    (c.first_mark.ensures.value ∙ ap (λ key. dependency_total c.args.keys + key * 9) c.get.ensures.value) c.add_run.ensures in
    subst (Gathered c.args.keys c.args.chain.now c.add_run.new.self) (omega arith)
    (Gathered-run c.args.keys c.args.chain.now c.args.self.now c.add_run.new.self c.args.key held (held + c.loop-n.n) c.loop-n.run (omega arith)
    c.requires.before c.loop-n.invariant.run takes)
