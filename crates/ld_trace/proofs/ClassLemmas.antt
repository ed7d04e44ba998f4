-- What the names of classes and of types are: beginnings of names.
use Rattle.ld_trace.proofs.Names.{[], ◌&&◌, ◌++◌, ◌+◌, ◌<◌, ◌==◌, ◌∙◌, ◌∷◌, ◌≡◌, ◌≤◌, Bool, IfSome, Leads, List, MAX_NAME, MAX_SUB, Name, None, Option, Some, and_from, and_parts, ap, append-nil, append_assoc, are_visible, arith, before_at, cases_Bool, class_by, class_of, drop, false, if◌then◌else◌, inl, inr, is_class_name, is_known, is_name, is_one_too_many, length, length-append, length-map, list_all-append, map, name_at, name_by, nat_le, nat_tests, not, numbers_at, option_map, place_of, position_or_len, refl, rfind_below, some_or, subst, suc, sym, take, take_all, text_at, true, with_name, zero, ℕ}
use Rattle.std.proofs.Common.{take-append-drop}
use Rattle.std.proofs.lemmas.Simd.{map-map}
use Rattle.std.specs.Path.{rsplit_once}
use Rattle.ld_trace.specs.declared.level.Level.{Level}
use Rattle.ld_trace.specs.declared.level.Level.TheVariants.{Locks, Classes, Types}

-- the name begins with this text
abbrev Begins : (name text : List ℕ) → Type 0
Begins name text = (rest : List ℕ) × (name ≡ text ++ rest)

Begins-taken : (name : List ℕ) (n : ℕ) → Begins name (take n name)
Begins-taken name n = (drop n name, sym (take-append-drop n name))

Begins-whole : (name : List ℕ) → Begins name name
Begins-whole name = ([], sym (append-nil name))

Begins-within : (name text part : List ℕ) → Begins name text → Begins text part → Begins name part
Begins-within name text part (rest, is) (more, here) = (more ++ rest, is ∙ ap (λ t. t ++ rest) here ∙ append_assoc part more rest)

-- a beginning of a class's name that isn't empty is one
begins-named : (name text : List ℕ) → Begins name text → 0 < length text → is_class_name name ≡ true → is_class_name text ≡ true
begins-named name text (rest, is) some named =
    let outer = and_parts (nat_le 1 (length name) && nat_le (length name) MAX_NAME) (are_visible name) named in
    let sizes = and_parts (nat_le 1 (length name)) (nat_le (length name) MAX_NAME) outer.0 in
    let short : length text ≤ length name = let e = ap length is in omega (arith, length-append text rest) in
    let visible : are_visible (text ++ rest) ≡ true = subst (λ t. are_visible t ≡ true) is outer.1 in
    let p : ℕ → Bool = λ byte. nat_le 33 byte && nat_le byte 126 in
    let parts = and_parts (are_visible text) (are_visible rest) (sym (list_all-append p text rest) ∙ visible) in
    and_from (nat_le 1 (length text) && nat_le (length text) MAX_NAME) (are_visible text)
    (and_from (nat_le 1 (length text)) (nat_le (length text) MAX_NAME) (grind (arith, nat_tests)) (let most = sizes.1 in grind (arith, nat_tests))) parts.0

-- a class's name at a level
module _ (name : List ℕ) (named : is_class_name name ≡ true) where
  long : (text : List ℕ) → is_class_name text ≡ true → 0 < length text
  long text is =
      let outer = and_parts (nat_le 1 (length text) && nat_le (length text) MAX_NAME) (are_visible text) is in
      let least = (and_parts (nat_le 1 (length text)) (nat_le (length text) MAX_NAME) outer.0).0 in
      grind (arith, nat_tests)

  some_or-named : (before all : List ℕ) → Begins name before → is_class_name all ≡ true → is_class_name (some_or before all) ≡ true
  some_or-named before all begins is = elim (cases_Bool (length before == 0)) [
    | inl none ↦ rw none is
    | inr some ↦ rw some (begins-named name before begins (grind (arith, nat_tests)) named)
  ]

  class_by-named : (split : Option (List ℕ × List ℕ)) → IfSome split (λ s. Begins name s.0) → is_class_name (class_by name split) ≡ true
  class_by-named None begins = named
  class_by-named (Some split) begins = some_or-named split.0 name begins named

  split-begins : IfSome {T = List ℕ × List ℕ} (rsplit_once 35 name) (λ s. Begins name s.0)
  unfolding rsplit_once
  split-begins = by (rfind_below 35 name (length name))
    where
      by : (found : Option ℕ) → IfSome {T = List ℕ × List ℕ} (option_map (λ i. (take i name, drop (i + 1) name)) found) (λ s. Begins name s.0)
      by None = tt
      by (Some i) = Begins-taken name i

  class_of-named : is_class_name (class_of name) ≡ true
  class_of-named = class_by-named (rsplit_once 35 name) split-begins

at_named : (text : List ℕ) → is_class_name text ≡ true → is_class_name (some_or (before_at text) text) ≡ true
at_named text named = some_or-named text named (before_at text) text (Begins-taken text (position_or_len (λ byte. byte == 64) text)) named

text_at-named : (level : Level) (name : List ℕ) → is_class_name name ≡ true → is_class_name (text_at level name) ≡ true
text_at-named Locks name named = named
text_at-named Classes name named = class_of-named name named
text_at-named Types name named = at_named (class_of name) (class_of-named name named)

-- a key's name at a level is one
pub name_by-named : (level : Level) (text : List ℕ) (sub : ℕ) → is_name (text, sub) ≡ true → is_name (text_at level text, sub) ≡ true
name_by-named level text sub named =
    let parts = and_parts (is_class_name text) (nat_le sub MAX_SUB) named in
    and_from (is_class_name (text_at level text)) (nat_le sub MAX_SUB) (text_at-named level text parts.0) parts.1

-- ---- names at a level
-- a name more at most
pub with_name-longer : (names : List Name) (name : Name) → length (with_name names name) ≤ length names + 1
with_name-longer names name = by (is_known names name)
  where
    by : (known : Bool) → length (if known then names else names ++ name ∷ []) ≤ length names + 1
    by true = omega arith
    by false = let long = length-append names (name ∷ []) in omega arith

-- names that there is room for aren't too many
pub fits : (room : ℕ) (names : List Name) (name : Name) → length names < room → ¬ (is_one_too_many room names name ≡ true)
fits room names name less h = let full = (and_parts (not (is_known names name)) (nat_le room (length names)) h).1 in grind (arith, nat_tests)

pub name_at-map : (f : Name → Name) (names : List Name) (place : ℕ) → place < length names → name_at (map f names) place ≡ f (name_at names place)
name_at-map f [] place l = absurd (omega arith)
name_at-map f (x ∷ xs) zero l = refl
name_at-map f (x ∷ xs) (suc place) l = name_at-map f xs place (omega arith)

-- the numbers of all names
pub numbers-all : (level : Level) (names others : List Name) (numbers : List ℕ) → Leads (map (name_by level) names) numbers others → length numbers ≡ length names →
    numbers ≡ numbers_at level names others
numbers-all level names others numbers leads all =
    let own = map (name_by level) names in
    leads.places ∙ ap (map (place_of others)) (take_all (length numbers) own (let n = length-map names (name_by level) in omega arith))
    ∙ map-map (place_of others) (name_by level) names
