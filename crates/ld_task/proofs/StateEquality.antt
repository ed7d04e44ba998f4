-- The test of two states is true exactly for equal ones.
use Rattle.ld_task.proofs.Names.{◌==◌, ◌∙◌, ◌≡◌, Bool, EndState, IsTrue, KeptLock, OpenFrame, false, not, refl, sym, true, true≢false}
use Rattle.std.specs.Prelude.{◌↔◌}
use Rattle.std.specs.Bool.{Decides}
use Rattle.std.specs.Cmp.Lexicographic.{pointwise, pointwise_decides}
use Rattle.std.proofs.lemmas.Bool.Decides.{Decides-eqb}
use Rattle.ld_task.specs.ChainEquality.{lock_eq}
use Rattle.ld_task.specs.Inside.ChainEqualityLaws.{both, flags_eq-decides, frame_eq-decides, lock_eq-decides}
use Rattle.ld_task.specs.contracts.frame.FramePartialEq.TheImpl as frame
use Rattle.ld_task.specs.contracts.frame.FlagsPartialEq.TheImpl as flags
use Rattle.ld_task.specs.contracts.frame.OpenFramePartialEq.TheImpl as open_frame
use Rattle.ld_task.specs.contracts.lock.KeptLockPartialEq.TheImpl as kept_lock

pub frames-decides : (a b : OpenFrame) → Decides (open_frame.eq-value.it a b) (a ≡ b)
frames-decides a b =
    both (frame.eq-value.it a.kind b.kind) (flags.eq-value.it a.flags b.flags) (frame_eq-decides a.kind b.kind) (flags_eq-decides a.flags b.flags)
    (λ p i. record { kind = p.0 i; flags = p.1 i }) (λ e. (λ i. (e i).kind, λ i. (e i).flags))

pub locks-decides : (a b : KeptLock) → Decides (kept_lock.eq-value.it a b) (a ≡ b)
locks-decides a b =
    both (a.level == b.level) (lock_eq a.lock b.lock) (Decides-eqb a.level b.level) (lock_eq-decides a.lock b.lock)
    (λ p i. record { level = p.0 i; lock = p.1 i }) (λ e. (λ i. (e i).level, λ i. (e i).lock))

untold : (b : Bool) → not b ≡ false → b ≡ true
untold true e = refl
untold false e = absurd (true≢false e)

-- two states of which the first two parts aren't told apart are equal exactly if the third isn't
pub same_by : (a b : EndState) (first second third : Bool) → first ≡ not (open_frame.eq-value.it a.current b.current) → first ≡ false
    → second ≡ not (pointwise open_frame.eq-value.it a.outer b.outer) → second ≡ false → third ≡ pointwise kept_lock.eq-value.it a.locks b.locks → IsTrue third ↔ a ≡ b
same_by a b first second third first_is f second_is s third_is = (
  (λ h. λ i. record { outer = outer i; current = current i; locks = (locks.0 (sym third_is ∙ h)) i }),
  (λ e. third_is ∙ locks.1 (λ i. (e i).locks)),
)
  where
    current : a.current ≡ b.current
    current = (frames-decides a.current b.current).0 (untold _ (sym first_is ∙ f))

    outer : a.outer ≡ b.outer
    outer = (pointwise_decides frames-decides a.outer b.outer).0 (untold _ (sym second_is ∙ s))

    locks : Decides (pointwise kept_lock.eq-value.it a.locks b.locks) (a.locks ≡ b.locks)
    locks = pointwise_decides locks-decides a.locks b.locks
