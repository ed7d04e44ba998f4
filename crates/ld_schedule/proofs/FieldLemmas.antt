-- The fields of a record by their places, and what the record then says.
use Rattle.std.proofs.Common.{[], ◌&&◌, ◌<◌, ◌==◌, ◌∷◌, ◌≡◌, ◌≢◌, ◌≤◌, ◌^◌, All, Bool, Err, List, None, Ok, Result, Some, arith, codes, false, get_or, if◌then◌else◌, length, nat_le, nat_lt, not, refl, suc, true, zero, ℕ}
use Rattle.std.proofs.lemmas.Bool.{and_from, and_parts}
use Rattle.std.proofs.lemmas.Bool.Decides.{nat_tests}
use Rattle.std.proofs.lemmas.List.Sums.{AllPass-from_list_all}
use Rattle.std.proofs.lemmas.Str.{IsUtf8-from_ascii}
use Rattle.std.proofs.lemmas.Str.Ascii.{IsAscii-from_all}
use Rattle.std.proofs.lemmas.Str.Parse.{IsDigitsTest, numerals_by_value, parse_digits}
use Rattle.std.specs.Result.{OkIff, result_ok}
use Rattle.std.specs.Str.{IsUtf8, bytes_eq}
use Rattle.std.specs.Str.Parse.{ParsesUnsigned, digits_value}
use Rattle.csv.specs.Records.{field_at}
use Rattle.ld_schedule.specs.Names.{are_visible, is_name}
use Rattle.ld_schedule.specs.declared.limits.TheConstants.{MAX_NAME}
use Rattle.ld_schedule.specs.declared.read_fault.ReadFaultKind.TheVariants.{BadRecord}
use Rattle.ld_schedule.specs.Records.{Record, are_digits, declaration, is_decimal, is_header, kind_of, line_of_record, message_of, short_deed, short_line, take_line}

-- a field within the record is there
pub field-there : (fs : Record) (i : ℕ) → i < length fs → field_at fs i ≢ None
unfolding field_at
field-there [] i h e = omega arith
field-there (f ∷ fs) zero h e = cc
field-there (f ∷ fs) (suc i) h e = field-there fs i (omega arith) e

pub one-field : (fs : Record) (a : List ℕ) → length fs ≡ 1 → field_at fs 0 ≡ Some a → fs ≡ a ∷ []
unfolding field_at
one-field [] a n h = absurd (omega arith)
one-field (x ∷ []) a n h = cc
one-field (x ∷ y ∷ r) a n h = absurd (omega arith)

pub two-fields : (fs : Record) (a b : List ℕ) → length fs ≡ 2 → field_at fs 0 ≡ Some a → field_at fs 1 ≡ Some b → fs ≡ a ∷ b ∷ []
unfolding field_at
two-fields [] a b n h i = absurd (omega arith)
two-fields (x ∷ r) a b n h i = let e : r ≡ b ∷ [] = one-field r b (omega arith) i in cc

pub three-fields : (fs : Record) (a b d : List ℕ) → length fs ≡ 3 → field_at fs 0 ≡ Some a → field_at fs 1 ≡ Some b → field_at fs 2 ≡ Some d → fs ≡ a ∷ b ∷ d ∷ []
unfolding field_at
three-fields [] a b d n h i j = absurd (omega arith)
three-fields (x ∷ r) a b d n h i j = let e : r ≡ b ∷ d ∷ [] = two-fields r b d (omega arith) i j in cc

pub four-fields : (fs : Record) (a b d f : List ℕ) → length fs ≡ 4 → field_at fs 0 ≡ Some a → field_at fs 1 ≡ Some b → field_at fs 2 ≡ Some d → field_at fs 3 ≡ Some f → fs ≡ a ∷ b ∷ d ∷ f ∷ []
unfolding field_at
four-fields [] a b d f n h i j k = absurd (omega arith)
four-fields (x ∷ r) a b d f n h i j k = let e : r ≡ b ∷ d ∷ f ∷ [] = three-fields r b d f (omega arith) i j k in cc

-- what a record with this many fields says
pub line_of_record-two : (fs : Record) (a b : List ℕ) → length fs ≡ 2 → field_at fs 0 ≡ Some a → field_at fs 1 ≡ Some b → line_of_record fs ≡ declaration (kind_of a) b
unfolding line_of_record
line_of_record-two fs a b n h i = rw (two-fields fs a b n h i)

pub line_of_record-three : (fs : Record) (a b d : List ℕ) → length fs ≡ 3 → field_at fs 0 ≡ Some a → field_at fs 1 ≡ Some b → field_at fs 2 ≡ Some d → line_of_record fs ≡ short_line a (short_deed b d)
unfolding line_of_record
line_of_record-three fs a b d n h i j = rw (three-fields fs a b d n h i j)

pub line_of_record-four : (fs : Record) (a b d f : List ℕ) → length fs ≡ 4 → field_at fs 0 ≡ Some a → field_at fs 1 ≡ Some b → field_at fs 2 ≡ Some d → field_at fs 3 ≡ Some f
    → line_of_record fs ≡ take_line a b d f
unfolding line_of_record
line_of_record-four fs a b d f n h i j k = rw (four-fields fs a b d f n h i j k)

pub line_of_record-others : (fs : Record) → length fs ≢ 2 → length fs ≢ 3 → length fs ≢ 4 → line_of_record fs ≡ Err BadRecord
unfolding line_of_record
line_of_record-others [] n2 n3 n4 = refl
line_of_record-others (a ∷ []) n2 n3 n4 = refl
line_of_record-others (a ∷ b ∷ []) n2 n3 n4 = absurd (n2 refl)
line_of_record-others (a ∷ b ∷ d ∷ []) n2 n3 n4 = absurd (n3 refl)
line_of_record-others (a ∷ b ∷ d ∷ f ∷ []) n2 n3 n4 = absurd (n4 refl)
line_of_record-others (a ∷ b ∷ d ∷ f ∷ g ∷ rest) n2 n3 n4 = refl

-- whether a record is the first one
pub is_header-two : (fs : Record) (a b : List ℕ) → length fs ≡ 2 → field_at fs 0 ≡ Some a → field_at fs 1 ≡ Some b
    → is_header fs ≡ (bytes_eq a (codes "history") && bytes_eq b (codes "1"))
unfolding is_header
is_header-two fs a b n h i = rw (two-fields fs a b n h i)

pub is_header-others : (fs : Record) → length fs ≢ 2 → is_header fs ≡ false
unfolding is_header
is_header-others [] n = refl
is_header-others (a ∷ []) n = refl
is_header-others (a ∷ b ∷ []) n = absurd (n refl)
is_header-others (a ∷ b ∷ d ∷ rest) n = refl

pub not-history : (fs : Record) (a : List ℕ) → length fs ≡ 2 → field_at fs 0 ≡ Some a → bytes_eq a (codes "history") ≡ false → is_header fs ≡ false
unfolding is_header field_at
not-history [] a n h other = refl
not-history (x ∷ []) a n h other = refl
not-history (x ∷ y ∷ []) a n h other = let e : x ≡ a = cc in rw (e, other) refl
not-history (x ∷ y ∷ z ∷ rest) a n h other = refl

-- visible bytes are text
visible-below : (b : ℕ) → (nat_le 0x21 b && nat_le b 0x7E) ≡ true → b < 128
visible-below b h = grind (arith, nat_tests)

each-visible : (bytes : List ℕ) → are_visible bytes ≡ true → All (λ b. b < 128) bytes
each-visible bytes h = λ k d lt. visible-below (get_or bytes k d) (AllPass-from_list_all _ bytes h k d lt)

last-of-three : (a b v : Bool) → (a && b && v) ≡ true → v ≡ true
last-of-three a b v h = grind arith

pub utf8-name : (bytes : List ℕ) → is_name bytes ≡ true → IsUtf8 bytes
utf8-name bytes h = IsUtf8-from_ascii bytes (IsAscii-from_all bytes (each-visible bytes (last-of-three (nat_le 1 (length bytes)) (nat_le (length bytes) MAX_NAME) (are_visible bytes) h)))

-- so are digits
digit-below : (b : ℕ) → (nat_le 48 b && nat_le b 57) ≡ true → b < 128
digit-below b h = grind (arith, nat_tests)

each-digit : (bytes : List ℕ) → are_digits bytes ≡ true → All (λ b. b < 128) bytes
each-digit bytes h = λ k d lt. digit-below (get_or bytes k d) (AllPass-from_list_all _ bytes h k d lt)

third-of-four : (a b v d : Bool) → (a && b && v && d) ≡ true → v ≡ true
third-of-four a b v d h = grind arith

first-of-four : (a b v d : Bool) → (a && b && v && d) ≡ true → a ≡ true
first-of-four a b v d h = grind arith

pub digits-of-decimal : (word : List ℕ) → is_decimal word ≡ true → are_digits word ≡ true
digits-of-decimal word h = third-of-four (nat_le 1 (length word)) (nat_le (length word) 10) (are_digits word) _ h

pub utf8-decimal : (word : List ℕ) → is_decimal word ≡ true → IsUtf8 word
utf8-decimal word h = IsUtf8-from_ascii word (IsAscii-from_all word (each-digit word (digits-of-decimal word h)))

digits-test : IsDigitsTest (λ ds. are_digits ds ≡ true)
digits-test = record {
  empty = refl;
  parts = λ c cs h. let both = and_parts (nat_le 48 c && nat_le c 57) (are_digits cs) h in (digit-range c both.0, both.1);
  more = λ c cs range h. and_from (nat_le 48 c && nat_le c 57) (are_digits cs) (range-digit c range.0 range.1) h;
}
  where
    digit-range : (c : ℕ) → (nat_le 48 c && nat_le c 57) ≡ true → (48 ≤ c) × (c ≤ 57)
    digit-range c h = (grind (arith, nat_tests), grind (arith, nat_tests))

    range-digit : (c : ℕ) → 48 ≤ c → c ≤ 57 → (nat_le 48 c && nat_le c 57) ≡ true
    range-digit c low high = grind (arith, nat_tests)

-- the message that was parsed from decimal digits
pub message_of-parsed : {E : Type 0} (word : List ℕ) (r : Result ℕ E) → is_decimal word ≡ true → ParsesUnsigned 32 10 word r → result_ok r ≡ message_of word
message_of-parsed {E = E} word r h parsed = by r (parse_digits (numerals_by_value _ digits-test) 32 word r parsed (digits-of-decimal word h))
  where
    long : 0 < length word
    long = let first = first-of-four (nat_le 1 (length word)) (nat_le (length word) 10) (are_digits word) _ h in grind (arith, nat_tests)

    past : (n : ℕ) → (n < 2 ^ 32 → ⊥) → nat_lt n (2 ^ 32) ≡ false
    past n large = grind (arith, nat_tests)

    by : (s : Result ℕ E) → OkIff s ((0 < length word) × (digits_value 10 word < 2 ^ 32)) (digits_value 10 word) → result_ok s ≡ message_of word
    by (Ok n) both = let small : nat_lt (digits_value 10 word) (2 ^ 32) ≡ true = grind (arith, nat_tests) in rw (h, small, both.1) refl
    by (Err e) none = let large : nat_lt (digits_value 10 word) (2 ^ 32) ≡ false = past (digits_value 10 word) (λ lt. none (long, lt)) in rw (h, large) refl
