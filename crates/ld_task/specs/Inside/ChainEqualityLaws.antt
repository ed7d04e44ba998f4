-- The test of two chains is true exactly for equal ones. Cited by the laws of equality and hash.
use Rattle.std.specs.Prelude.{◌≡◌, Bool, ◌&&◌, Option, Some, None, refl}
use Rattle.std.specs.Bool.{Decides, beq}
use Rattle.std.specs.Cmp.{IsEquivalence, booleans_Decides, both_ways}
use Rattle.std.specs.Cmp.Lexicographic.{pointwise, pointwise_decides}
use Rattle.std.specs.Option.{option_eq}
use Rattle.std.proofs.Common.{sym, ap, ◌∙◌}
use Rattle.std.proofs.lemmas.Bool.{true≢false, and_parts, and_from}
use Rattle.std.proofs.lemmas.Bool.Decides.{Decides-eqb}
use Rattle.ld_task.specs.declared.frame.Flags.{Flags}
use Rattle.ld_task.specs.declared.frame.Frame.{Frame}
use Rattle.ld_task.specs.declared.frame.Frame.TheVariants.{Task, Softirq, Hardirq}
use Rattle.ld_task.specs.contracts.frame.FramePartialEq.TheImpl as frame
use Rattle.ld_task.specs.contracts.frame.FlagsPartialEq.TheImpl as flags
use Rattle.ld_task.specs.ChainEquality.{chain_eq, lock_eq, new_lock_eq}
use Rattle.ld_task.specs.Chains.{ChainParts}
use Rattle.ld_task.specs.Laws.Locks.{lock_of_word-word}
use Rattle.ld_task.specs.Locks.{LockParts, lock_of_word, lock_word}

pub lock_eq-decides : (a b : LockParts) → Decides (lock_eq a b) (a ≡ b)
lock_eq-decides a b = (
  λ h. sym (lock_of_word-word a) ∙ ap lock_of_word ((Decides-eqb (lock_word a) (lock_word b)).0 h) ∙ lock_of_word-word b,
  λ e. (Decides-eqb (lock_word a) (lock_word b)).1 (ap lock_word e),
)

pub frame_eq-decides : (a b : Frame) → Decides (frame.eq-value.it a b) (a ≡ b)
frame_eq-decides Task Task = (λ _. refl, λ _. refl)
frame_eq-decides Softirq Softirq = (λ _. refl, λ _. refl)
frame_eq-decides Hardirq Hardirq = (λ _. refl, λ _. refl)
frame_eq-decides Task Softirq = (λ h. absurd (true≢false (sym h)), λ h. cc)
frame_eq-decides Task Hardirq = (λ h. absurd (true≢false (sym h)), λ h. cc)
frame_eq-decides Softirq Task = (λ h. absurd (true≢false (sym h)), λ h. cc)
frame_eq-decides Softirq Hardirq = (λ h. absurd (true≢false (sym h)), λ h. cc)
frame_eq-decides Hardirq Task = (λ h. absurd (true≢false (sym h)), λ h. cc)
frame_eq-decides Hardirq Softirq = (λ h. absurd (true≢false (sym h)), λ h. cc)

-- two tests decide what their facts together are
pub both : {P Q R : Type 0} (r s : Bool) → Decides r P → Decides s Q → (P × Q → R) → (R → P × Q) → Decides (r && s) R
both r s d e there back =
    (λ h. let h' = and_parts r s h in there (d.0 h'.0, e.0 h'.1), λ x. and_from r s (d.1 (back x).0) (e.1 (back x).1))

new_lock_eq-decides : (a b : LockParts × Frame) → Decides (new_lock_eq a b) (a ≡ b)
new_lock_eq-decides a b =
    both (lock_eq a.0 b.0) (frame.eq-value.it a.1 b.1) (lock_eq-decides a.0 b.0) (frame_eq-decides a.1 b.1)
    (λ p i. (p.0 i, p.1 i)) (λ e. (λ i. (e i).0, λ i. (e i).1))

option_eq-decides : {A : Type 0} (eq : A → A → Bool) → ((a b : A) → Decides (eq a b) (a ≡ b)) → (a b : Option A) → Decides (option_eq eq a b) (a ≡ b)
option_eq-decides eq d None None = (λ _. refl, λ _. refl)
option_eq-decides eq d None (Some b) = (λ h. absurd (true≢false (sym h)), λ h. cc)
option_eq-decides eq d (Some a) None = (λ h. absurd (true≢false (sym h)), λ h. cc)
option_eq-decides eq d (Some a) (Some b) = (λ h. ap Some ((d a b).0 h), λ e. let same : a ≡ b = cc in (d a b).1 same)

pub flags_eq-decides : (a b : Flags) → Decides (flags.eq-value.it a b) (a ≡ b)
flags_eq-decides a b =
    both (beq a.hard_on b.hard_on) (beq a.soft_on b.soft_on) (booleans_Decides a.hard_on b.hard_on) (booleans_Decides a.soft_on b.soft_on)
    (λ p i. record { hard_on = p.0 i; soft_on = p.1 i }) (λ e. (λ i. (e i).hard_on, λ i. (e i).soft_on))

-- two chains are equal exactly if all their parts are
pub chain_eq-decides : (a b : ChainParts) → Decides (chain_eq a b) (a ≡ b)
chain_eq-decides a b =
    both _ _ locks (flags_eq-decides a.flags b.flags)
    (λ p i. record { held_locks = p.0.0 i; new_lock = p.0.1 i; flags = p.1 i })
    (λ e. ((λ i. (e i).held_locks, λ i. (e i).new_lock), λ i. (e i).flags))
  where
    locks : Decides (pointwise lock_eq a.held_locks b.held_locks && option_eq new_lock_eq a.new_lock b.new_lock)
        ((a.held_locks ≡ b.held_locks) × (a.new_lock ≡ b.new_lock))
    locks =
        both _ _ (pointwise_decides lock_eq-decides a.held_locks b.held_locks)
        (option_eq-decides new_lock_eq new_lock_eq-decides a.new_lock b.new_lock) (λ p. p) (λ p. p)

-- so it is an equivalence
pub chain_eq-equivalence : IsEquivalence chain_eq
chain_eq-equivalence = record {
  refl = λ x. (chain_eq-decides x x).1 refl;
  symm = λ x y. both_ways (chain_eq x y) (chain_eq y x) (λ h. (chain_eq-decides y x).1 (sym ((chain_eq-decides x y).0 h))) (λ h. (chain_eq-decides x y).1 (sym ((chain_eq-decides y x).0 h)));
  congr = λ x y z h. ap (λ w. chain_eq w z) ((chain_eq-decides x y).0 h);
}
