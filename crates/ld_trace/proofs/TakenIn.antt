-- Names and events that a table takes in.
use Rattle.ld_trace.proofs.Names.{[], ◌&&◌, ◌++◌, ◌+◌, ◌<◌, ◌∙◌, ◌∷◌, ◌≡◌, ◌≤◌, ◌⊎◌, Acquire, All, All-cons, All-nil, Bool, Enter, Event, KeyIsBelow, KeysBelow, Leads, Leave, List, Name, Release, RenumberingsStay, TurnOff, TurnOn, Within, all_moved, and_from, and_parts, ap, arith, drop, event_with, false, get_or, get_or_from_slice_get, if◌then◌else◌, inl, inr, is_known, is_one_too_many, length, length-append, length-map, list_all, list_all-append, map, map-append, moved, name_at, nat_le, nat_tests, not, place_of, refl, slice_index, suc, sym, take, take-suc, true, true≢false, with_name, zero, ℕ}
use Rattle.std.proofs.lemmas.List.{take-append-drop}
use Rattle.ld_trace.specs.TakingIn.{with_all}
use Rattle.ld_trace.proofs.Alike.{known-longer, place_of-longer, place_of-with_name, with_all-added, with_all-append, with_name-knows}
use Rattle.ld_trace.proofs.LineLemmas.{head-below, tail-below}
use Rattle.ld_trace.proofs.ReadBack.{name_at-there}
use Rattle.ld_trace.proofs.TakenLemmas.{place-below, with_name-added}

-- ---- events with other numbers
pub all-renumbered : (f : Event → Event) (xs ys : List Event) → length ys ≡ length xs → ((k : ℕ) → k < length xs → get_or ys k Leave ≡ f (get_or xs k Leave)) → ys ≡ map f xs
all-renumbered f [] [] long each = refl
all-renumbered f [] (y ∷ ys) long each = absurd (omega (arith, long))
all-renumbered f (x ∷ xs) [] long each = absurd (omega (arith, long))
all-renumbered f (x ∷ xs) (y ∷ ys) long each =
    let first : y ≡ f x = each 0 (omega arith) in
    let rest = all-renumbered f xs ys (omega (arith, long)) (λ k lt. each (suc k) (omega (arith, lt))) in
    λ i. first i ∷ rest i

index-map : (g : Name → ℕ) (first : List Name) (key : ℕ) → key < length first → slice_index (map g first) key ≡ g (name_at first key)
index-map g [] key lt = absurd (omega arith)
index-map g (x ∷ xs) zero lt = refl
index-map g (x ∷ xs) (suc key) lt = index-map g xs key (omega (arith, lt))

module _ (g : Name → ℕ) (first : List Name) (numbers : List ℕ) (are : numbers ≡ map g first) where
  number-at : (key : ℕ) → key < length numbers → slice_index numbers key ≡ g (name_at first key)
  number-at key lt =
      let long : length numbers ≡ length first = ap length are ∙ length-map first g in
      ap (λ l. slice_index l key) are ∙ index-map g first key (omega (arith, long, lt))

module _ (own : List Name) (numbers : List ℕ) (names : List Name) (leads : Leads own numbers names) where
  renumbered-moved : (event : Event) → KeyIsBelow (length numbers) event → event_with numbers event ≡ moved (take (length numbers) own) names event
  renumbered-moved (Acquire mode key) lt = ap (Acquire mode) (number-at (place_of names) (take (length numbers) own) numbers leads.places key lt)
  renumbered-moved (Release key) lt = ap Release (number-at (place_of names) (take (length numbers) own) numbers leads.places key lt)
  renumbered-moved (Enter irq) lt = refl
  renumbered-moved Leave lt = refl
  renumbered-moved (TurnOn irq) lt = refl
  renumbered-moved (TurnOff irq) lt = refl

  pub all-renumbered-moved : (events : List Event) → KeysBelow (length numbers) events → map (event_with numbers) events ≡ all_moved (take (length numbers) own) names events
  all-renumbered-moved [] below = refl
  all-renumbered-moved (event ∷ events) below =
      let first = renumbered-moved event (head-below (length numbers) event events below) in
      let rest = all-renumbered-moved events (tail-below (length numbers) event events below) in
      λ i. first i ∷ rest i

-- their keys are in the table
module _ (first names : List Name) (within : Within first names) where
  known-at : (few : List Name) (key : ℕ) → Within few names → key < length few → is_known names (name_at few key) ≡ true
  known-at [] key w lt = absurd (omega arith)
  known-at (x ∷ xs) zero w lt = (and_parts (is_known names x) (list_all (is_known names) xs) w).0
  known-at (x ∷ xs) (suc key) w lt = known-at xs key (and_parts (is_known names x) (list_all (is_known names) xs) w).1 (omega (arith, lt))

  pub place-known : (name : Name) → is_known names name ≡ true → place_of names name < length names
  place-known name known = let there = place-below names name in rw known at there

  moved-below : (event : Event) → KeyIsBelow (length first) event → KeyIsBelow (length names) (moved first names event)
  moved-below (Acquire mode key) lt = place-known (name_at first key) (known-at first key within lt)
  moved-below (Release key) lt = place-known (name_at first key) (known-at first key within lt)
  moved-below (Enter irq) lt = tt
  moved-below Leave lt = tt
  moved-below (TurnOn irq) lt = tt
  moved-below (TurnOff irq) lt = tt

  pub all-moved-below : (events : List Event) → KeysBelow (length first) events → KeysBelow (length names) (all_moved first names events)
  all-moved-below [] below = All-nil (KeyIsBelow (length names))
  all-moved-below (event ∷ events) below =
      All-cons (KeyIsBelow (length names)) (moved first names event) (all_moved first names events) (moved-below event (head-below (length first) event events below))
      (all-moved-below events (tail-below (length first) event events below))

-- ---- one more name
within-longer : (few names more : List Name) → Within few names → Within few (names ++ more)
within-longer [] names more w = refl
within-longer (x ∷ xs) names more w =
    let parts = and_parts (is_known names x) (list_all (is_known names) xs) w in
    and_from (is_known (names ++ more) x) (list_all (is_known (names ++ more)) xs) (known-longer names more x parts.0) (within-longer xs names more parts.1)

places-longer : (few names more : List Name) → Within few names → map (place_of (names ++ more)) few ≡ map (place_of names) few
places-longer [] names more w = refl
places-longer (x ∷ xs) names more w =
    let parts = and_parts (is_known names x) (list_all (is_known names) xs) w in
    let first = place_of-longer names more x parts.0 in
    let rest = places-longer xs names more parts.1 in
    λ i. first i ∷ rest i

take-next : (own : List Name) (place : ℕ) → place < length own → take (suc place) own ≡ take place own ++ name_at own place ∷ []
take-next own place lt =
    let there = name_at-there own place lt in
    take-suc own place (name_at own place) lt ∙ ap (λ name. take place own ++ name ∷ []) (get_or_from_slice_get own place (name_at own place) (name_at own place) there)

module _ (own : List Name) (numbers : List ℕ) (names : List Name) (leads : Leads own numbers names) (lt : length numbers < length own) where
  name : Name
  name = name_at own (length numbers)

  pub leads-more : Leads own (numbers ++ place_of names (name_at own (length numbers)) ∷ []) (with_name names (name_at own (length numbers)))
  leads-more =
      let n = name_at own (length numbers) in
      let first = take (length numbers) own in
      let long : length (numbers ++ place_of names n ∷ []) ≡ suc (length numbers) = omega (arith, length-append numbers (place_of names n ∷ [])) in
      let next : take (length (numbers ++ place_of names n ∷ [])) own ≡ first ++ n ∷ [] = rw long (take-next own (length numbers) lt) in
      let added = with_name-added names n in
      let old : Within first (with_name names n) = rw added.1 (within-longer first names added.0 leads.within) in
      let new : list_all (is_known (with_name names n)) (n ∷ []) ≡ true = and_from (is_known (with_name names n) n) true (with_name-knows names n) refl in
      let places : map (place_of (with_name names n)) first ≡ numbers = rw added.1 (places-longer first names added.0 leads.within) ∙ sym leads.places in
      record {
        few = omega (arith, long, lt);
        within = rw next (list_all-append (is_known (with_name names n)) first (n ∷ []) ∙ and_from (list_all (is_known (with_name names n)) first) (list_all (is_known (with_name names n)) (n ∷ [])) old new);
        places = rw next (sym (map-append (place_of (with_name names n)) first (n ∷ []) ∙ (λ i. places i ++ place_of-with_name names n i ∷ [])));
      }

-- the names with one more of another table among them
pub with_all-next : (old own names : List Name) (place : ℕ) → names ≡ with_all old (take place own) → place < length own → with_name names (name_at own place) ≡ with_all old (take (suc place) own)
unfolding with_all
with_all-next old own names place are lt =
    ap (λ l. with_name l (name_at own place)) are ∙ sym (ap (with_all old) (take-next own place lt) ∙ with_all-append old (take place own) (name_at own place ∷ []))

-- names that don't fit
pub too-many-long : (room : ℕ) (names : List Name) (name : Name) → is_one_too_many room names name ≡ true → room < length (with_name names name)
too-many-long room names name h = by (is_known names name) h
  where
    by : (b : Bool) → (not b && nat_le room (length names)) ≡ true → room < length (if b then names else names ++ name ∷ [])
    by true e = absurd (true≢false (sym e))
    by false e = let long = length-append names (name ∷ []) in grind (arith, nat_tests)

-- the more names of another table, the longer
take-take : (own : List Name) (few many : ℕ) → few ≤ many → take few (take many own) ≡ take few own
take-take own zero many h = refl
take-take [] (suc few) zero h = refl
take-take [] (suc few) (suc many) h = refl
take-take (x ∷ xs) (suc few) zero h = absurd (omega arith)
take-take (x ∷ xs) (suc few) (suc many) h = ap (λ l. x ∷ l) (take-take xs few many (omega (arith, h)))

pub with_all-grows : (old own : List Name) (few many : ℕ) → few ≤ many → length (with_all old (take few own)) ≤ length (with_all old (take many own))
with_all-grows old own few many h =
    let parts : take many own ≡ take few own ++ drop few (take many own) = sym (take-append-drop few (take many own)) ∙ ap (λ l. l ++ drop few (take many own)) (take-take own few many h) in
    let added = with_all-added (with_all old (take few own)) (drop few (take many own)) in
    let whole = ap (with_all old) parts ∙ with_all-append old (take few own) (drop few (take many own)) ∙ added.1 in
    omega (arith, ap length whole, length-append (with_all old (take few own)) added.0)

-- one more name was taken in
pub one-taken : (old own names new : List Name) (numbers more : List ℕ) (place : ℕ) → Leads own numbers names → length numbers ≡ place → names ≡ with_all old (take place own) → place < length own
    → new ≡ with_name names (name_at own place) → more ≡ numbers ++ place_of names (name_at own place) ∷ [] → Leads own more new × (length more ≡ place + 1) × (new ≡ with_all old (take (place + 1) own))
one-taken old own names new numbers more place leads long are lt named numbered =
    let next : place + 1 ≡ suc place = omega arith in
    let grown : Leads own (numbers ++ place_of names (name_at own place) ∷ []) (with_name names (name_at own place)) = rw long at (leads-more own numbers names leads (omega (arith, long, lt))) in (
      rw (named, numbered) grown,
      omega (arith, long, ap length numbered, length-append numbers (place_of names (name_at own place) ∷ [])),
      rw next (named ∙ with_all-next old own names place are lt),
    )

-- if a name doesn't fit, all of them don't
pub too-many-later : (room : ℕ) (old own names : List Name) (place count : ℕ) → names ≡ with_all old (take place own) → place < count → place < length own
    → is_one_too_many room names (name_at own place) ≡ true → room < length (with_all old (take count own))
too-many-later room old own names place count are lt within h =
    let long = too-many-long room names (name_at own place) h in
    let next = ap length (with_all-next old own names place are within) in
    let grows = with_all-grows old own (suc place) count (omega (arith, lt)) in
    omega (arith, long, next, grows)

pub left-weaker : {A B C : Type 0} → (A → B) → A ⊎ C → B ⊎ C
left-weaker f (inl a) = inl (f a)
left-weaker f (inr c) = inr c

pub length-first : (own : List Name) (count : ℕ) → count ≤ length own → length (take count own) ≡ count
length-first own zero few = refl
length-first [] (suc count) few = absurd (omega arith)
length-first (x ∷ own) (suc count) few = let rest = length-first own count (omega (arith, few)) in omega (arith, rest)

-- what a renumbering of this many names makes of events
pub moved-by-numbers : (own : List Name) (by numbers : List ℕ) (names : List Name) (count : ℕ) (events : List Event) → numbers ≡ by → length by ≡ count → Leads own by names → KeysBelow count events
    → map (event_with numbers) events ≡ all_moved (take count own) names events
moved-by-numbers own by numbers names count events are long leads below =
    rw (are, ← long) (all-renumbered-moved own by names leads events (rw (← long) at below))

-- the numbers that names lead to are those of keys of the table
numbers-below : (few names : List Name) → Within few names → All (λ key. key < length names) (map (place_of names) few)
numbers-below [] names within = All-nil (λ key. key < length names)
numbers-below (x ∷ xs) names within =
    let parts = and_parts (is_known names x) (list_all (is_known names) xs) within in
    All-cons (λ key. key < length names) (place_of names x) (map (place_of names) xs) (place-known [] names refl x parts.0) (numbers-below xs names parts.1)

pub leads-below : (own : List Name) (numbers : List ℕ) (names : List Name) → Leads own numbers names → All (λ key. key < length names) numbers
leads-below own numbers names leads = rw leads.places (numbers-below (take (length numbers) own) names leads.within)

pub renumberings-stay : RenumberingsStay
renumberings-stay own names more numbers leads = record {
  few = leads.few;
  within = within-longer (take (length numbers) own) names more leads.within;
  places = leads.places ∙ sym (places-longer (take (length numbers) own) names more leads.within);
}
