use Rattle.ld_text.proofs.Names.{◌+◌, ◌<◌, ◌↔◌, ◌∙◌, ◌≡◌, ◌⊎◌, Any, HasFact, IsTrue, Leads, ap, arith, false, get_or_default, length, length-replicate, length-set, slice_index, slice_index_or, slice_set, subst, sym, true, with_items, with_items_is, ℕ}
use Rattle.ld_text.proofs.GroupLemmas.{GrowsBy-more, GrowsBy-none}
use Rattle.ld_text.proofs.JoinedLemmas.{Joined, joined-all, joined-kept, joined-none, joined-set}
use Rattle.ld_text.proofs.picture.PictureView.add_edges.Goals as goal
use Rattle.ld_text.proofs.picture.PictureView.add_edges.Goals.{then-branch, else-branch}

pub loop-n-init : goal.loop-n-init
loop-n-init c = record {
  text = GrowsBy-none _;
  len = ap length (c.in_ok-marks.ensures.items_if_clones_equal (λ y same. same)) ∙ length-replicate (length c.args.self.keys.now) false;
  each = joined-none (Leads (HasFact c.args.self.settled.now)) c.args.self.keys.now c.in_ok-marks.marks.items (c.in_ok-marks.ensures.items_if_clones_equal (λ y same. same));
}

pub loop-n-preserved : goal.loop-n-preserved
loop-n-preserved c =
    let Lead = Leads (HasFact c.args.self.settled.now) in
    let keys = c.args.self.keys.now in
    let n = c.loop-n.n in
    let marks = c.add_edges_from.new.marks in
    let within = c.loop-n-test.true in
    let i = c.loop-n.invariant in
    let more = c.in_ok-add_edges_from.ensures in
    let text = GrowsBy-more _ _ _ _ _ _ _ within i.text more.text in
    let marks_are : (with_items c.loop-n.marks marks).items ≡ marks = with_items_is c.loop-n.marks marks (more.len ∙ c.deref_mut.ensures.len) in
    let key_is : slice_index_or keys n c.index-self-n.result ≡ slice_index keys n = get_or_default keys n c.index-self-n.result 0 within in
    let len : length marks ≡ length keys = more.len ∙ ap length c.deref_mut.ensures.value ∙ i.len in
    let was : (k : ℕ) → k < length keys → IsTrue (slice_index_or c.deref_mut.result.now k false) ↔ Joined Lead keys n k =
    subst (λ before. (k : ℕ) → k < length keys → IsTrue (slice_index_or before k false) ↔ Joined Lead keys n k) (sym c.deref_mut.ensures.value) i.each in
    let led : (k : ℕ) → k < length keys → IsTrue (slice_index_or marks k false) ↔ (IsTrue (slice_index_or c.deref_mut.result.now k false) ⊎ Lead (slice_index keys n) (slice_index keys k)) =
    subst (λ from. (k : ℕ) → k < length keys → IsTrue (slice_index_or marks k false) ↔ (IsTrue (slice_index_or c.deref_mut.result.now k false) ⊎ Lead from (slice_index keys k))) key_is more.marks in
    elim c.if-branch.branch [
      | then-branch w ↦
          let out : Any (Lead (slice_index keys n)) keys = subst (λ from. Any (Lead from) keys) key_is (more.any.0 w.if-branch.true) in
          rw w.marks-is record {
            text = text;
            len = length-set (with_items c.loop-n.marks marks).items n true ∙ ap length marks_are ∙ len;
            each = subst (λ ms. (k : ℕ) → k < length keys → IsTrue (slice_index_or (slice_set ms n true) k false) ↔ Joined Lead keys (n + 1) k) (sym marks_are)
                (joined-set Lead keys n within c.deref_mut.result.now marks len was led out);
          }
      | else-branch w ↦
          let nowhere : ¬ Any (Lead (slice_index keys n)) keys = λ any. (let some = more.any.1 (subst (λ from. Any (Lead from) keys) (sym key_is) any) in let none = w.if-branch.false in cc) in
          rw w.marks-is record {
            text = text;
            len = ap length marks_are ∙ len;
            each = subst (λ ms. (k : ℕ) → k < length keys → IsTrue (slice_index_or ms k false) ↔ Joined Lead keys (n + 1) k) (sym marks_are)
                (joined-kept Lead keys n within c.deref_mut.result.now marks len was led nowhere);
          }
    ]

pub returns-clause-joined : goal.returns-clause-joined
returns-clause-joined c = record {
  len = c.loop-n.invariant.len;
  each = λ k l. joined-all (HasFact c.args.self.settled.now) c.args.self.keys.now c.loop-n.n k _ (omega (arith, c.loop-n-test.false)) l (c.loop-n.invariant.each k l);
}
