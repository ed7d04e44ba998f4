-- No field of a trace's records has a newline.
use Rattle.ld_trace.proofs.Names.{[], ◌&&◌, ◌-◌, ◌==◌, ◌∙◌, ◌∷◌, ◌≡◌, BadName, BadSub, Bool, Err, Irq, Line, List, MAX_NAME, Mode, Name, None, Ok, One, Option, Record, Result, Some, TraceFaultKind, Two, Version, and_from, and_parts, ap, are_visible, arith, bytes_eq, bytes_eq-Decides, codes, false, giving_back, if◌then◌else◌, irq_line, irq_of, is_class_name, length, mode_of, name_of_fields, nat_le, nat_tests, not, refl, sub_of, taking, true, try_mode_of, version_named, ℕ, list_all}
use Rattle.ld_trace.specs.Lines.{line_of_record, version_of}
use Rattle.ld_trace.proofs.LineLemmas.{Say}
use Rattle.ld_trace.proofs.RowLemmas.{is_line, is_one_line}

-- a word of the format has no newline
word-line : (field word : List ℕ) → bytes_eq field word ≡ true → is_line word ≡ true → is_line field ≡ true
word-line field word same line = ap is_line ((bytes_eq-Decides field word).0 same) ∙ line

-- a choice by a word that succeeds is that word's, or another's
one-word : {X : Type 0} (field word : List ℕ) (first other : Option X) (x : X) → is_line word ≡ true → (if bytes_eq field word then first else other) ≡ Some x
    → (other ≡ Some x → is_line field ≡ true) → is_line field ≡ true
one-word field word first other x line e else-line = by (bytes_eq field word) refl e
  where
    by : (b : Bool) → bytes_eq field word ≡ b → (if b then first else other) ≡ Some x → is_line field ≡ true
    by true same e = word-line field word same line
    by false same e = else-line e

one-verb : {X : Type 0} (field word : List ℕ) (first other : Result X TraceFaultKind) (x : X) → is_line word ≡ true → (if bytes_eq field word then first else other) ≡ Ok x
    → (other ≡ Ok x → is_line field ≡ true) → is_line field ≡ true
one-verb field word first other x line e else-line = by (bytes_eq field word) refl e
  where
    by : (b : Bool) → bytes_eq field word ≡ b → (if b then first else other) ≡ Ok x → is_line field ≡ true
    by true same e = word-line field word same line
    by false same e = else-line e

-- ---- the fields of a line
mode-line : (version : Version) (field : List ℕ) (mode : Mode) → mode_of version field ≡ Some mode → is_line field ≡ true
mode-line version field mode e =
    one-word field (codes "w") _ _ mode refl e
    (λ e. one-word field (codes "r") _ _ mode refl e (λ e. one-word field (codes "rr") _ _ mode refl e (try-line version)))
  where
    try-line : (version : Version) → try_mode_of version field ≡ Some mode → is_line field ≡ true
    try-line One e = cc
    try-line Two e =
        one-word field (codes "tw") _ _ mode refl e
        (λ e. one-word field (codes "tr") _ _ mode refl e (λ e. one-word field (codes "trr") _ _ mode refl e (λ e. cc)))

irq-line : (field : List ℕ) (irq : Irq) → irq_of field ≡ Some irq → is_line field ≡ true
irq-line field irq e = one-word field (codes "hardirq") _ _ irq refl e (λ e. one-word field (codes "softirq") _ _ irq refl e (λ e. cc))

sub-line : (field : List ℕ) (sub : ℕ) → sub_of field ≡ Some sub → is_line field ≡ true
sub-line [] sub e = cc
sub-line (digit ∷ []) sub e = by (nat_le 48 digit && nat_le digit 55) refl e
  where
    by : (b : Bool) → (nat_le 48 digit && nat_le digit 55) ≡ b → (if b then Some (digit - 48) else None) ≡ Some sub → is_line (digit ∷ []) ≡ true
    by true within e = grind (arith, nat_tests)
    by false within e = cc
sub-line (digit ∷ more ∷ rest) sub e = cc

visible-line : (field : List ℕ) → are_visible field ≡ true → is_line field ≡ true
visible-line [] visible = refl
visible-line (byte ∷ field) visible =
    let parts = and_parts (nat_le 0x21 byte && nat_le byte 0x7E) (are_visible field) visible in
    and_from (not (byte == 10)) (is_line field) (other byte parts.0) (visible-line field parts.1)
  where
    other : (byte : ℕ) → (nat_le 0x21 byte && nat_le byte 0x7E) ≡ true → not (byte == 10) ≡ true
    other byte h = grind (arith, nat_tests)

class-line : (field : List ℕ) → is_class_name field ≡ true → is_line field ≡ true
class-line field class = visible-line field (and_parts (nat_le 1 (length field) && nat_le (length field) MAX_NAME) (are_visible field) class).1

-- a name's two fields
name-lines : (class field : List ℕ) (name : Name) → name_of_fields class (sub_of field) ≡ Ok name → (is_line class ≡ true) × (is_line field ≡ true)
name-lines class field name e = by (sub_of field) refl e
  where
    by : (sub : Option ℕ) → sub_of field ≡ sub → name_of_fields class sub ≡ Ok name → (is_line class ≡ true) × (is_line field ≡ true)
    by None none e = absurd (no (is_class_name class) e)
      where
        no : (b : Bool) → (if b then Err BadSub else Err BadName) ≡ Ok name → ⊥
        no true e = cc
        no false e = cc
    by (Some sub) some e = (class-line class (yes-class (is_class_name class) e), sub-line field sub some)
      where
        yes-class : (b : Bool) → (if b then Ok (class, sub) else Err BadName) ≡ Ok name → b ≡ true
        yes-class true e = refl
        yes-class false e = cc

-- ---- records that say something, and headers
chosen : {X : Type 0} (b : Bool) (first : Result X TraceFaultKind) (fault : TraceFaultKind) (x : X) → (if b then first else Err fault) ≡ Ok x → (b ≡ true) × (first ≡ Ok x)
chosen true first fault x e = (refl, e)
chosen false first fault x e = cc

given-back : (name : Result Name TraceFaultKind) (line : Line) → giving_back name ≡ Ok line → (own : Name) × (name ≡ Ok own)
given-back (Err fault) line e = cc
given-back (Ok own) line e = (own, refl)

taken : (name : Result Name TraceFaultKind) (mode : Option Mode) (line : Line) → taking name mode ≡ Ok line → (own : Name) × (name ≡ Ok own) × (how : Mode) × (mode ≡ Some how)
taken (Err fault) mode line e = cc
taken (Ok own) None line e = cc
taken (Ok own) (Some how) line e = (own, refl, how, refl)

irq-lines : (verb word : List ℕ) (line : Line) → irq_line verb (irq_of word) ≡ Ok line → (is_line verb ≡ true) × (is_line word ≡ true)
irq-lines verb word line e = by (irq_of word) refl e
  where
    by : (irq : Option Irq) → irq_of word ≡ irq → irq_line verb irq ≡ Ok line → (is_line verb ≡ true) × (is_line word ≡ true)
    by None none e = cc
    by (Some irq) some e = (
      one-verb verb (codes "enter") _ _ line refl e
          (λ e. one-verb verb (codes "on") _ _ line refl e (λ e. one-verb verb (codes "off") _ _ line refl e (λ e. cc))),
      irq-line word irq some,
    )

says-lines : (version : Version) (row : Record) (line : Line) → line_of_record version row ≡ Ok line → is_one_line row ≡ true
unfolding line_of_record
says-lines version [] line e = cc
says-lines version (verb ∷ []) line e =
    let own = word-line verb (codes "leave") (chosen (bytes_eq verb (codes "leave")) _ _ line e).0 refl in
    rw own refl
says-lines version (verb ∷ irq ∷ []) line e = let own = irq-lines verb irq line e in rw (own.0, own.1) refl
says-lines version (verb ∷ class ∷ sub ∷ []) line e =
    let first = chosen (bytes_eq verb (codes "rel")) _ _ line e in
    let own = word-line verb (codes "rel") first.0 refl in
    let name = given-back (name_of_fields class (sub_of sub)) line first.1 in
    let rest = name-lines class sub name.0 name.1 in
    rw (own, rest.0, rest.1) refl
says-lines version (verb ∷ class ∷ sub ∷ mode ∷ []) line e =
    let first = chosen (bytes_eq verb (codes "acq")) _ _ line e in
    let own = word-line verb (codes "acq") first.0 refl in
    let name = taken (name_of_fields class (sub_of sub)) (mode_of version mode) line first.1 in
    let rest = name-lines class sub name.0 name.1 in
    let last = mode-line version mode name.2 name.3 in
    rw (own, rest.0, rest.1, last) refl
says-lines version (verb ∷ class ∷ sub ∷ mode ∷ more ∷ rest) line e = cc

version-line : (word : List ℕ) (version : Version) → version_named word ≡ Some version → is_line word ≡ true
version-line word version e = one-word word (codes "1") _ _ version refl e (λ e. one-word word (codes "2") _ _ version refl e (λ e. cc))

pub header-lines : (row : Record) (version : Version) → version_of row ≡ Some version → is_one_line row ≡ true
unfolding version_of
header-lines [] version e = cc
header-lines (word ∷ []) version e = cc
header-lines (word ∷ named ∷ []) version e = by (bytes_eq word (codes "lockdep")) refl e
  where
    by : (b : Bool) → bytes_eq word (codes "lockdep") ≡ b → (if b then version_named named else None) ≡ Some version → is_one_line (word ∷ named ∷ []) ≡ true
    by true same e = let own = word-line word (codes "lockdep") same refl in let last = version-line named version e in rw (own, last) refl
    by false same e = cc
header-lines (word ∷ named ∷ more ∷ rest) version e = cc

-- ---- the records of a trace without fault
pub said-lines : (version : Version) (rows : List Record) (lines : List Line) → Say version rows lines → list_all is_one_line rows ≡ true
said-lines version [] lines say = refl
said-lines version (row ∷ rows) [] say = absurd say
said-lines version (row ∷ rows) (line ∷ lines) say =
    and_from (is_one_line row) (list_all is_one_line rows) (says-lines version row line say.0) (said-lines version rows lines say.1)
