-- The fields of a record by their places, and what the record then says.
use Rattle.ld_trace.proofs.Names.{[], ◌&&◌, ◌<◌, ◌∷◌, ◌≡◌, ◌≢◌, All, AllPass-from_list_all, BadRecord, Bool, Err, IsUtf8, IsUtf8-from_ascii, List, MAX_NAME, None, Record, Some, Version, acquire_line, are_visible, arith, bytes_eq, codes, get_or, if◌then◌else◌, irq_line, irq_of, is_class_name, leave_line, length, mode_of, name_of_fields, nat_le, nat_tests, refl, release_line, sub_of, suc, true, version_named, zero, ℕ}
use Rattle.std.proofs.lemmas.Str.Ascii.{IsAscii-from_all}
use Rattle.csv.specs.Records.{field_at}
use Rattle.ld_trace.specs.Lines.{line_of_record, version_of}

-- a field within the record is there
pub field-there : (fs : Record) (i : ℕ) → i < length fs → field_at fs i ≢ None
unfolding field_at
field-there [] i h e = omega arith
field-there (f ∷ fs) zero h e = cc
field-there (f ∷ fs) (suc i) h e = field-there fs i (omega arith) e

pub one-field : (fs : Record) (a : List ℕ) → length fs ≡ 1 → field_at fs 0 ≡ Some a → fs ≡ a ∷ []
unfolding field_at
one-field [] a n h = absurd (omega arith)
one-field (x ∷ []) a n h = cc
one-field (x ∷ y ∷ r) a n h = absurd (omega arith)

pub two-fields : (fs : Record) (a b : List ℕ) → length fs ≡ 2 → field_at fs 0 ≡ Some a → field_at fs 1 ≡ Some b → fs ≡ a ∷ b ∷ []
unfolding field_at
two-fields [] a b n h i = absurd (omega arith)
two-fields (x ∷ r) a b n h i = let e : r ≡ b ∷ [] = one-field r b (omega arith) i in cc

pub three-fields : (fs : Record) (a b d : List ℕ) → length fs ≡ 3 → field_at fs 0 ≡ Some a → field_at fs 1 ≡ Some b → field_at fs 2 ≡ Some d → fs ≡ a ∷ b ∷ d ∷ []
unfolding field_at
three-fields [] a b d n h i j = absurd (omega arith)
three-fields (x ∷ r) a b d n h i j = let e : r ≡ b ∷ d ∷ [] = two-fields r b d (omega arith) i j in cc

pub four-fields : (fs : Record) (a b d f : List ℕ) → length fs ≡ 4 → field_at fs 0 ≡ Some a → field_at fs 1 ≡ Some b → field_at fs 2 ≡ Some d → field_at fs 3 ≡ Some f → fs ≡ a ∷ b ∷ d ∷ f ∷ []
unfolding field_at
four-fields [] a b d f n h i j k = absurd (omega arith)
four-fields (x ∷ r) a b d f n h i j k = let e : r ≡ b ∷ d ∷ f ∷ [] = three-fields r b d f (omega arith) i j k in cc

-- what a record with this many fields says
pub line_of_record-one : (version : Version) (fs : Record) (a : List ℕ) → length fs ≡ 1 → field_at fs 0 ≡ Some a → line_of_record version fs ≡ leave_line a
unfolding line_of_record
line_of_record-one version fs a n h = rw (one-field fs a n h)

pub line_of_record-two : (version : Version) (fs : Record) (a b : List ℕ) → length fs ≡ 2 → field_at fs 0 ≡ Some a → field_at fs 1 ≡ Some b → line_of_record version fs ≡ irq_line a (irq_of b)
unfolding line_of_record
line_of_record-two version fs a b n h i = rw (two-fields fs a b n h i)

pub line_of_record-three : (version : Version) (fs : Record) (a b d : List ℕ) → length fs ≡ 3 → field_at fs 0 ≡ Some a → field_at fs 1 ≡ Some b → field_at fs 2 ≡ Some d → line_of_record version fs ≡ release_line a (name_of_fields b (sub_of d))
unfolding line_of_record
line_of_record-three version fs a b d n h i j = rw (three-fields fs a b d n h i j)

pub line_of_record-four : (version : Version) (fs : Record) (a b d f : List ℕ) → length fs ≡ 4 → field_at fs 0 ≡ Some a → field_at fs 1 ≡ Some b → field_at fs 2 ≡ Some d → field_at fs 3 ≡ Some f
    → line_of_record version fs ≡ acquire_line a (name_of_fields b (sub_of d)) (mode_of version f)
unfolding line_of_record
line_of_record-four version fs a b d f n h i j k = rw (four-fields fs a b d f n h i j k)

pub line_of_record-others : (version : Version) (fs : Record) → length fs ≢ 1 → length fs ≢ 2 → length fs ≢ 3 → length fs ≢ 4 → line_of_record version fs ≡ Err BadRecord
unfolding line_of_record
line_of_record-others version [] n1 n2 n3 n4 = refl
line_of_record-others version (a ∷ []) n1 n2 n3 n4 = absurd (n1 refl)
line_of_record-others version (a ∷ b ∷ []) n1 n2 n3 n4 = absurd (n2 refl)
line_of_record-others version (a ∷ b ∷ d ∷ []) n1 n2 n3 n4 = absurd (n3 refl)
line_of_record-others version (a ∷ b ∷ d ∷ f ∷ []) n1 n2 n3 n4 = absurd (n4 refl)
line_of_record-others version (a ∷ b ∷ d ∷ f ∷ g ∷ rest) n1 n2 n3 n4 = refl

-- the version that a record names
pub version-two : (fs : Record) (a b : List ℕ) → length fs ≡ 2 → field_at fs 0 ≡ Some a → field_at fs 1 ≡ Some b
    → version_of fs ≡ (if bytes_eq a (codes "lockdep") then version_named b else None)
unfolding version_of
version-two fs a b n h i = rw (two-fields fs a b n h i)

pub version-others : (fs : Record) → length fs ≢ 2 → version_of fs ≡ None
unfolding version_of
version-others [] n = refl
version-others (a ∷ []) n = refl
version-others (a ∷ b ∷ []) n = absurd (n refl)
version-others (a ∷ b ∷ d ∷ rest) n = refl

-- visible bytes are text
visible-below : (b : ℕ) → (nat_le 0x21 b && nat_le b 0x7E) ≡ true → b < 128
visible-below b h = grind (arith, nat_tests)

each-ascii : (bytes : List ℕ) → are_visible bytes ≡ true → All (λ b. b < 128) bytes
each-ascii bytes h = λ k d lt. visible-below (get_or bytes k d) (AllPass-from_list_all _ bytes h k d lt)

class-visible : (a b v : Bool) → (a && b && v) ≡ true → v ≡ true
class-visible a b v h = grind arith

pub utf8-class_name : (bytes : List ℕ) → is_class_name bytes ≡ true → IsUtf8 bytes
utf8-class_name bytes h = IsUtf8-from_ascii bytes (IsAscii-from_all bytes (each-ascii bytes (class-visible (nat_le 1 (length bytes)) (nat_le (length bytes) MAX_NAME) (are_visible bytes) h)))
