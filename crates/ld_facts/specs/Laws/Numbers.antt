-- The numbers of facts: no two facts have one number, and each number is a fact's.
use Rattle.std.proofs.Common.{◌≡◌, ℕ, suc, zero, ◌+◌, ◌-◌, ◌*◌, ◌/◌, ◌%◌, ◌<◌, refl, ap, sym, ◌∙◌, inl, inr, arith, true, false}
use Rattle.std.proofs.lemmas.Bool.{cases_lt}
use Rattle.std.proofs.Math.Nat.{div-lt_iff_lt-mul, mod-lt}
use Rattle.std.proofs.lemmas.Nat.{same_from_place, mul-add-lt, div-add-mod'}
use Rattle.ld_trace.specs.declared.event.Irq.TheVariants.{Hard, Soft}
use Rattle.ld_task.specs.declared.kind.Kind.{Kind}
use Rattle.ld_task.specs.declared.kind.Kind.TheVariants.{Er, En, Sr, Sn}
use Rattle.ld_task.specs.declared.mark.Mark.{Mark}
use Rattle.ld_task.specs.declared.mark.Mark.TheVariants.{Used, UsedIn, Enabled}
use Rattle.ld_facts.specs.Numbers.{kind_number, mark_index, dependency_total, mark_total, bit_total, fact_number}
use Rattle.ld_facts.specs.FactBits.{FactBelow}
use Rattle.ld_facts.specs.declared.fact.Fact.{Fact}
use Rattle.ld_facts.specs.declared.fact.Fact.TheVariants.{Dependency, Marked}

-- ---- kinds and marks by their numbers
pub kind_of : ℕ → Kind
kind_of zero = Er
kind_of (suc zero) = En
kind_of (suc (suc zero)) = Sr
kind_of (suc (suc (suc n))) = Sn

pub kind_of-number : (kind : Kind) → kind_of (kind_number kind) ≡ kind
unfolding kind_of
kind_of-number Er = refl
kind_of-number En = refl
kind_of-number Sr = refl
kind_of-number Sn = refl

pub kind_number-same : (a b : Kind) → kind_number a ≡ kind_number b → a ≡ b
kind_number-same a b e = sym (kind_of-number a) ∙ ap kind_of e ∙ kind_of-number b

pub kind_number-lt : (kind : Kind) → kind_number kind < 4
kind_number-lt Er = omega arith
kind_number-lt En = omega arith
kind_number-lt Sr = omega arith
kind_number-lt Sn = omega arith

pub kind_number-of : (n : ℕ) → n < 4 → kind_number (kind_of n) ≡ n
unfolding kind_of
kind_number-of zero l = refl
kind_number-of (suc zero) l = refl
kind_number-of (suc (suc zero)) l = refl
kind_number-of (suc (suc (suc zero))) l = refl
kind_number-of (suc (suc (suc (suc n)))) l = absurd (omega arith)

pub mark_of : ℕ → Mark
mark_of zero = Used
mark_of (suc zero) = UsedIn Hard false
mark_of (suc (suc zero)) = UsedIn Hard true
mark_of (suc (suc (suc zero))) = Enabled Hard false
mark_of (suc (suc (suc (suc zero)))) = Enabled Hard true
mark_of (suc (suc (suc (suc (suc zero))))) = UsedIn Soft false
mark_of (suc (suc (suc (suc (suc (suc zero)))))) = UsedIn Soft true
mark_of (suc (suc (suc (suc (suc (suc (suc zero))))))) = Enabled Soft false
mark_of (suc (suc (suc (suc (suc (suc (suc (suc n)))))))) = Enabled Soft true

mark_of-index : (mark : Mark) → mark_of (mark_index mark) ≡ mark
unfolding mark_of
mark_of-index Used = refl
mark_of-index (UsedIn Hard true) = refl
mark_of-index (UsedIn Hard false) = refl
mark_of-index (UsedIn Soft true) = refl
mark_of-index (UsedIn Soft false) = refl
mark_of-index (Enabled Hard true) = refl
mark_of-index (Enabled Hard false) = refl
mark_of-index (Enabled Soft true) = refl
mark_of-index (Enabled Soft false) = refl

mark_index-lt : (mark : Mark) → mark_index mark < 9
mark_index-lt Used = omega arith
mark_index-lt (UsedIn Hard true) = omega arith
mark_index-lt (UsedIn Hard false) = omega arith
mark_index-lt (UsedIn Soft true) = omega arith
mark_index-lt (UsedIn Soft false) = omega arith
mark_index-lt (Enabled Hard true) = omega arith
mark_index-lt (Enabled Hard false) = omega arith
mark_index-lt (Enabled Soft true) = omega arith
mark_index-lt (Enabled Soft false) = omega arith

mark_index-of : (n : ℕ) → n < 9 → mark_index (mark_of n) ≡ n
unfolding mark_of
mark_index-of zero l = refl
mark_index-of (suc zero) l = refl
mark_index-of (suc (suc zero)) l = refl
mark_index-of (suc (suc (suc zero))) l = refl
mark_index-of (suc (suc (suc (suc zero)))) l = refl
mark_index-of (suc (suc (suc (suc (suc zero))))) l = refl
mark_index-of (suc (suc (suc (suc (suc (suc zero)))))) l = refl
mark_index-of (suc (suc (suc (suc (suc (suc (suc zero))))))) l = refl
mark_index-of (suc (suc (suc (suc (suc (suc (suc (suc zero)))))))) l = refl
mark_index-of (suc (suc (suc (suc (suc (suc (suc (suc (suc n))))))))) l = absurd (omega arith)

-- ---- how far they go
pub dependency-lt : (keys from to : ℕ) (kind : Kind) → from < keys → to < keys →
    fact_number keys (Dependency from to kind) < dependency_total keys
dependency-lt keys from to kind lf lt = grow (from * keys + to) (keys * keys) (mul-add-lt from keys to keys lf lt) (kind_number-lt kind)
  where
    grow : (a c : ℕ) → a < c → kind_number kind < 4 → a * 4 + kind_number kind < c * 4
    grow a c la lb = omega arith

pub mark-lt : (keys key : ℕ) (mark : Mark) → key < keys → key * 9 + mark_index mark < mark_total keys
mark-lt keys key mark l = let p = mul-add-lt key 9 (mark_index mark) keys l (mark_index-lt mark) in omega arith

pub fact_number-lt : (keys : ℕ) (x : Fact) → FactBelow keys x → fact_number keys x < bit_total keys
fact_number-lt keys (Dependency from to kind) (lf, lt) = omega (arith, dependency-lt keys from to kind lf lt)
fact_number-lt keys (Marked key mark) l = omega (arith, mark-lt keys key mark l)

-- ---- a number is that of one fact
pub fact_number-same : (keys : ℕ) (x y : Fact) → FactBelow keys x → FactBelow keys y → fact_number keys x ≡ fact_number keys y → x ≡ y
fact_number-same keys (Dependency a b k) (Dependency c d m) (la, lb) (lc, ld) e =
    let split = same_from_place (a * keys + b) (kind_number k) (c * keys + d) (kind_number m) 4 (kind_number-lt k) (kind_number-lt m) e in
    let same = same_from_place a b c d keys lb ld split.0 in
    let kinds = sym (kind_of-number k) ∙ ap kind_of split.1 ∙ kind_of-number m in
    λ i. Dependency (same.0 i) (same.1 i) (kinds i)
fact_number-same keys (Marked a m) (Marked b n) la lb e =
    let split = same_from_place a (mark_index m) b (mark_index n) 9 (mark_index-lt m) (mark_index-lt n) (omega arith) in
    let marks = sym (mark_of-index m) ∙ ap mark_of split.1 ∙ mark_of-index n in
    λ i. Marked (split.0 i) (marks i)
fact_number-same keys (Dependency a b k) (Marked c m) (la, lb) lc e = absurd (omega (arith, dependency-lt keys a b k la lb))
fact_number-same keys (Marked c m) (Dependency a b k) lc (la, lb) e = absurd (omega (arith, dependency-lt keys a b k la lb))

-- ---- the fact of a number
abbrev pub dependency_of : ℕ → ℕ → Fact
dependency_of keys n = Dependency (n / 4 / keys) (n / 4 % keys) (kind_of (n % 4))

abbrev pub marked_of : ℕ → Fact
marked_of n = Marked (n / 9) (mark_of (n % 9))

abbrev pub IsFactOf : ℕ → ℕ → Fact → Type 0
IsFactOf keys n x = FactBelow keys x × (fact_number keys x ≡ n)

pub dependency_of-is : (keys n : ℕ) → n < dependency_total keys → IsFactOf keys n (dependency_of keys n)
dependency_of-is keys n l =
    let some : 0 < keys = positive keys l in
    let m : n / 4 < keys * keys = quarter (keys * keys) l in (
      ((div-lt_iff_lt-mul some).1 m, mod-lt (n / 4) some),
      (λ i. div-add-mod' (n / 4) keys i * 4 + kind_number-of (n % 4) (omega arith) i) ∙ omega arith,
    )
  where
    positive : (k : ℕ) → n < k * k * 4 → 0 < k
    positive zero h = absurd (let e : n < 0 = h in omega arith)
    positive (suc k) h = omega arith

    quarter : (k : ℕ) → n < k * 4 → n / 4 < k
    quarter k h = omega arith

pub marked_of-is : (keys n : ℕ) → n < mark_total keys → IsFactOf keys (dependency_total keys + n) (marked_of n)
marked_of-is keys n l = (
  omega arith,
  (λ j. dependency_total keys + (n / 9 * 9 + mark_index-of (n % 9) (omega arith) j)) ∙ omega arith,
)

pub fact_of : (keys n : ℕ) → n < bit_total keys → (x : Fact) × IsFactOf keys n x
fact_of keys n l = elim (cases_lt n (dependency_total keys)) [
  | inl d ↦ (dependency_of keys n, dependency_of-is keys n d)
  | inr m ↦
      let i : ℕ = n - dependency_total keys in
      let (below, is) = marked_of-is keys i (omega arith) in
      (marked_of i, (below, is ∙ omega arith))
]
