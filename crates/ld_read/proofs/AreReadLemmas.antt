-- Traces that are read in turn, one more and several more.
use Rattle.ld_read.proofs.Names.{[], ◌++◌, ◌+◌, ◌∷◌, ◌≡◌, ◌≤◌, All, All-append, All-cons, All-nil, Err, Event, IfErr, IsRead, KeyIsBelow, KeysBelow, List, Name, Ok, OnOk, Option, Result, StopsAfter, ap, arith, get_or, length, length-append, refl, suc, ℕ}
use Rattle.std.specs.Prelude.{⊤}
use Rattle.ld_trace.specs.declared.event.Event.TheVariants.{Acquire, Release, Enter, Leave, TurnOn, TurnOff}
use Rattle.ld_read.specs.Reading.{AreRead}
use Rattle.ld_read.specs.declared.unread.Unread.{Unread}

module _ (room : ℕ) (holds : ℕ → Option (List ℕ)) where
  pub read-none : (place : ℕ) (names : List Name) → AreRead room holds place names names []
  unfolding AreRead
  read-none place names = refl

  pub read-append : (place : ℕ) (old mid new : List Name) (xs ys : List (List Event)) → AreRead room holds place old mid xs → AreRead room holds (place + length xs) mid new ys → AreRead room holds place old new (xs ++ ys)
  unfolding AreRead
  read-append place old mid new [] ys first rest = let e : place + 0 ≡ place = omega arith in rw (e, first) at rest
  read-append place old mid new (x ∷ xs) ys first rest =
      let e : place + suc (length xs) ≡ suc place + length xs = omega arith in
      (first.0, first.1, read-append (suc place) first.0 mid new xs ys first.2 (rw e at rest))

  pub read-one-more : (place : ℕ) (old mid new : List Name) (xs : List (List Event)) (x : List Event) → AreRead room holds place old mid xs → IsRead room (holds (place + length xs)) mid new x → AreRead room holds place old new (xs ++ x ∷ [])
  unfolding AreRead
  read-one-more place old mid new xs x first one = read-append place old mid new xs (x ∷ []) first (new, one, refl)

  pub stops-append : (place : ℕ) (old mid new : List Name) (xs ys : List (List Event)) (unread : Unread) → AreRead room holds place old mid xs → StopsAfter room holds (place + length xs) mid new ys unread → StopsAfter room holds place old new (xs ++ ys) unread
  stops-append place old mid new xs ys unread first rest = record {
    between = rest.between;
    are_read = read-append place old mid rest.between xs ys first rest.are_read;
    at = omega (arith, rest.at, length-append xs ys);
    is_not = rest.is_not;
  }

-- ---- the keys of all traces are in the table
KeyIsBelow-mono : (m n : ℕ) (event : Event) → m ≤ n → KeyIsBelow m event → KeyIsBelow n event
KeyIsBelow-mono m n (Acquire mode key) h below = omega arith
KeyIsBelow-mono m n (Release key) h below = omega arith
KeyIsBelow-mono m n (Enter irq) h below = tt
KeyIsBelow-mono m n Leave h below = tt
KeyIsBelow-mono m n (TurnOn irq) h below = tt
KeyIsBelow-mono m n (TurnOff irq) h below = tt

below-mono : (m n : ℕ) (traces : List (List Event)) → m ≤ n → All (KeysBelow m) traces → All (KeysBelow n) traces
below-mono m n traces h below = λ k d lt k' d' lt'. KeyIsBelow-mono m n (get_or (get_or traces k d) k' d') h (below k d lt k' d' lt')

kept-longer : (old new added : List Name) → new ≡ old ++ added → length old ≤ length new
kept-longer old new added e = omega (arith, ap length e, length-append old added)

module _ (room : ℕ) (holds : ℕ → Option (List ℕ)) where
  pub read-longer : (place : ℕ) (old new : List Name) (traces : List (List Event)) → AreRead room holds place old new traces → length old ≤ length new
  unfolding AreRead
  read-longer place old new [] read = omega (arith, ap length read)
  read-longer place old new (trace ∷ traces) read =
      let first = kept-longer old read.0 read.1.kept.0 read.1.kept.1 in
      omega (arith, first, read-longer (suc place) read.0 new traces read.2)

  pub read-below : (place : ℕ) (old new : List Name) (traces : List (List Event)) → AreRead room holds place old new traces → All (KeysBelow (length new)) traces
  unfolding AreRead
  read-below place old new [] read = All-nil (KeysBelow (length new))
  read-below place old new (trace ∷ traces) read =
      let rest = read-longer (suc place) read.0 new traces read.2 in
      All-cons (KeysBelow (length new)) trace traces (λ k d lt. KeyIsBelow-mono (length read.0) (length new) (get_or trace k d) rest (read.1.below k d lt)) (read-below (suc place) read.0 new traces read.2)

  -- of those before too
  pub all-below : (old new : List Name) (before after added : List (List Event)) → after ≡ before ++ added → AreRead room holds 0 old new added → All (KeysBelow (length old)) before → All (KeysBelow (length new)) after
  all-below old new before after added is read below =
      rw is (All-append (KeysBelow (length new)) before added (below-mono (length old) (length new) before (read-longer 0 old new added read) below) (read-below 0 old new added read))

  pub stopped-below : (old new : List Name) (before after added : List (List Event)) (unread : Unread) → after ≡ before ++ added → StopsAfter room holds 0 old new added unread → All (KeysBelow (length old)) before → All (KeysBelow (length new)) after
  stopped-below old new before after added unread is stops below =
      below-mono (length stops.between) (length new) after (kept-longer stops.between new stops.is_not.kept.0 stops.is_not.kept.1)
      (all-below old stops.between before after added is stops.are_read below)

-- either way
pub below-after : (r : Result ⊤ Unread) (P : Type 0) (Q : Unread → Type 0) (B : Type 0) → (P → B) → ((unread : Unread) → Q unread → B) → OnOk r P → IfErr r Q → B
below-after (Ok x) P Q B ok err a b = ok a
below-after (Err unread) P Q B ok err a b = err unread b
