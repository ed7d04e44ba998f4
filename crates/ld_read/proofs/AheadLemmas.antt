-- What a thread has read ahead, when its table has more names, and when a part of it goes.
use Rattle.ld_read.proofs.Names.{[], ◌++◌, ◌∷◌, ◌≡◌, All, All-push, AreFrom, Bool, Event, IfSome, IsAhead, IsFrom, IsPart, KeysBelow, List, Name, None, Option, ReadsTo, Some, ap, arith, false, get_or, if◌then◌else◌, length, length-append, suc, take, take-append-le, take-append_seam, take-length, true, ℕ}
use Rattle.ld_trace.specs.Laws.{RenumberingsStay}
use Rattle.ld_read.specs.declared.ahead.Ahead.{Ahead}
use Rattle.ld_read.specs.declared.ahead.Part.{Part}

pub if-some : {X : Type 0} (known : Option X) (P Q : X → Type 0) → ((x : X) → P x → Q x) → IfSome known P → IfSome known Q
if-some None P Q f h = tt
if-some (Some x) P Q f h = f x h

-- what holds of the bytes that a source has holds of those that it is known to have
pub held-read : (held known : Option (List ℕ)) (P : List ℕ → Type 0) → IfSome held (λ bytes. known ≡ Some bytes) → IfSome known P → IfSome held P
held-read None known P is read = tt
held-read (Some bytes) known P is read = rw is at read

pub all-head : {X : Type 0} (P : X → Type 0) (x : X) (xs : List X) → All P (x ∷ xs) → P x
all-head P x xs all = all 0 x (omega arith)

pub all-tail : {X : Type 0} (P : X → Type 0) (x : X) (xs : List X) → All P (x ∷ xs) → All P xs
all-tail P x xs all = λ k d lt. all (suc k) d (omega (arith, lt))

pub parts-longer : (own more : List Name) (parts : List Part) → All (IsPart own) parts → All (IsPart (own ++ more)) parts
parts-longer own more parts are = λ k d lt.
    let part = are k d lt in
    record { more = part.more; within = omega (arith, part.within, length-append own more); below = part.below }

pub from-longer : (holds : ℕ → Option (List ℕ)) (own more : List Name) (parts : List Part) → All (IsPart own) parts → All (IsFrom holds own) parts → All (IsFrom holds (own ++ more)) parts
from-longer holds own more parts are from = λ k d lt.
    let part = get_or parts k d in
    let is = are k d lt in
    if-some (holds part.place) _ _
    (λ bytes read. (read.0, rw (take-append-le part.before own more (omega (arith, is.more, is.within)), take-append-le part.after own more is.within) read.1))
    (from k d lt)

-- what holds of the old and of the one that came, if it did
pub all-pushed : {X : Type 0} (P : X → Type 0) (came : Bool) (xs new : List X) (x : X) → new ≡ (if came then xs ++ x ∷ [] else xs) → All P xs → P x → All P new
all-pushed P true xs new x is all one = rw is (All-push P xs x all one)
all-pushed P false xs new x is all one = rw is all

-- one more part
pub part-after : (own old : List Name) (more : List Name) (before after place : ℕ) (trace : List Event) → own ≡ old ++ more → before ≡ length old → after ≡ length own → KeysBelow (length own) trace
    → IsPart own (record { place = place; before = before; after = after; trace = trace })
part-after own old more before after place trace are b a below = record {
  more = omega (arith, ap length are, length-append old more, b, a);
  within = omega (arith, a);
  below = rw a below;
}

pub from-after : (holds : ℕ → Option (List ℕ)) (any : ℕ) (own old : List Name) (more : List Name) (before after place : ℕ) (trace : List Event) → own ≡ old ++ more → before ≡ length old → after ≡ length own
    → IfSome (holds place) (λ bytes. ReadsTo any old bytes own trace) → IsFrom holds own (record { place = place; before = before; after = after; trace = trace })
from-after holds any own old more before after place trace are b a read =
    let first : take before own ≡ old = rw (b, are) (take-append_seam old more) in
    let all : take after own ≡ own = rw a (take-length own) in
    if-some (holds place) _ _ (λ bytes r. (any, rw (first, all) r)) read

-- ---- when the table that takes in has more names
pub all-ahead-longer : RenumberingsStay → (names added : List Name) (aheads : List Ahead) → All (IsAhead names) aheads → All (IsAhead (names ++ added)) aheads
all-ahead-longer stay names added aheads all = λ k d lt.
    let is = all k d lt in
    let ahead = get_or aheads k d in
    record { leads = stay ahead.own.names names added ahead.by is.leads; parts = is.parts }

pub none-known : (aheads : List Ahead) → All (AreFrom (λ place. None)) aheads
none-known aheads = λ k d lt i e l. tt
