-- The facts at a chain's places are those of the chain.
use Rattle.std.proofs.Common.{◌≡◌, ℕ, ◌+◌, ◌-◌, ◌*◌, ◌/◌, ◌%◌, ◌<◌, ◌≤◌, length, get_or, refl, ap, sym, ◌∙◌, subst, inl, inr, arith, Bool, true, false, ◌&&◌, Option, Some, None, if◌then◌else◌}
use Rattle.std.specs.Prelude.{Contains, IfSome, slice_get}
use Rattle.std.proofs.lemmas.Bool.{cases_lt, cases_Bool, lt-ltb, le-ltb, and_parts}
use Rattle.std.proofs.lemmas.List.Elements.{All-contains}
use Rattle.std.proofs.lemmas.Option.{slice_get-get_or, same_Some, none-some}
use Rattle.ld_trace.specs.declared.event.Irq.TheVariants.{Hard, Soft}
use Rattle.ld_trace.specs.declared.event.Mode.{Mode}
use Rattle.ld_trace.specs.Modes.{is_read, may_wait}
use Rattle.ld_task.specs.declared.frame.Flags.{Flags}
use Rattle.ld_task.specs.declared.frame.Frame.{Frame}
use Rattle.ld_task.specs.declared.lock.Lock.{Lock}
use Rattle.ld_task.specs.declared.mark.Mark.{Mark}
use Rattle.ld_task.specs.declared.mark.Mark.TheVariants.{Used, UsedIn, Enabled}
use Rattle.ld_task.specs.Chains.{ChainParts, ChainKeysBelow}
use Rattle.ld_task.specs.Kinds.{kind_between}
use Rattle.ld_task.specs.Flags.{is_enabled, is_in}
use Rattle.ld_task.specs.Marks.{same_form, marks_taken, marks_opened}
use Rattle.ld_facts.specs.Facts.{ChainHas}
use Rattle.ld_facts.specs.FactBits.{FactBelow}
use Rattle.ld_facts.specs.ChainFacts.{GivenBy, StandsBy, StandsIn, chain_fact, fact_by, fact_slots, held_by, mark_by_opening, mark_by_taking, mark_if, mark_of_held, slot_held}
use Rattle.ld_facts.specs.Laws.{ChainsGiveWhatTheyHave, LaterSlotsAreOfNewerLocks, SlotsHaveWhatIsGiven}
use Rattle.ld_facts.specs.declared.fact.Fact.{Fact}
use Rattle.ld_facts.specs.declared.fact.Fact.TheVariants.{Dependency, Marked}

-- ---- marks
pub mark_if-some : (gives : Mark → Bool) (key : ℕ) (mark : Mark) (x : Fact) → mark_if gives key mark ≡ Some x → (gives mark ≡ true) × (Marked key mark ≡ x)
mark_if-some gives key mark x e =
    elim (cases_Bool (gives mark)) [
      | inl t ↦ (t, same_Some (Marked key mark) x (rw t at e))
      | inr f ↦ absurd (none-some x (rw f at e))
    ]

mark_if-gives : (gives : Mark → Bool) (key : ℕ) (mark : Mark) → gives mark ≡ true → mark_if gives key mark ≡ Some (Marked key mark)
mark_if-gives gives key mark t = rw t refl

same_form-same : (a b : Bool) → same_form a b ≡ true → a ≡ b
same_form-same true true h = refl
same_form-same true false h = sym h
same_form-same false true h = h
same_form-same false false h = refl

abbrev taking_place : Mark → ℕ
taking_place Used = 0
taking_place (UsedIn Hard read) = 1
taking_place (Enabled Hard read) = 2
taking_place (UsedIn Soft read) = 3
taking_place (Enabled Soft read) = 4

taking_place-lt : (m : Mark) → taking_place m < 5
taking_place-lt Used = omega arith
taking_place-lt (UsedIn Hard read) = omega arith
taking_place-lt (UsedIn Soft read) = omega arith
taking_place-lt (Enabled Hard read) = omega arith
taking_place-lt (Enabled Soft read) = omega arith

mark_by_taking-place : (mode : Mode) (frame : Frame) (flags : Flags) (m : Mark) → marks_taken mode frame flags m ≡ true →
    mark_by_taking (is_read mode) (taking_place m) ≡ m
mark_by_taking-place mode frame flags Used h = refl
mark_by_taking-place mode frame flags (UsedIn Hard read) h = ap (UsedIn Hard) (sym (same_form-same read (is_read mode) (and_parts (may_wait mode && is_in Hard frame) (same_form read (is_read mode)) h).1))
mark_by_taking-place mode frame flags (UsedIn Soft read) h = ap (UsedIn Soft) (sym (same_form-same read (is_read mode) (and_parts (may_wait mode && is_in Soft frame) (same_form read (is_read mode)) h).1))
mark_by_taking-place mode frame flags (Enabled Hard read) h = ap (Enabled Hard) (sym (same_form-same read (is_read mode) (and_parts (is_enabled Hard flags) (same_form read (is_read mode)) h).1))
mark_by_taking-place mode frame flags (Enabled Soft read) h = ap (Enabled Soft) (sym (same_form-same read (is_read mode) (and_parts (is_enabled Soft flags) (same_form read (is_read mode)) h).1))

abbrev opening_place : Mark → ℕ
opening_place Used = 0
opening_place (UsedIn irq read) = 0
opening_place (Enabled Hard read) = 0
opening_place (Enabled Soft read) = 1

opening_place-lt : (m : Mark) → opening_place m < 2
opening_place-lt Used = omega arith
opening_place-lt (UsedIn irq read) = omega arith
opening_place-lt (Enabled Hard read) = omega arith
opening_place-lt (Enabled Soft read) = omega arith

mark_by_opening-place : (mode : Mode) (flags : Flags) (m : Mark) → marks_opened mode flags m ≡ true →
    mark_by_opening (is_read mode) (opening_place m) ≡ m
mark_by_opening-place mode flags Used h = absurd (let f : false ≡ true = h in cc)
mark_by_opening-place mode flags (UsedIn irq read) h = absurd (let f : false ≡ true = h in cc)
mark_by_opening-place mode flags (Enabled Hard read) h = ap (Enabled Hard) (sym (same_form-same read (is_read mode) (and_parts (is_enabled Hard flags) (same_form read (is_read mode)) h).1))
mark_by_opening-place mode flags (Enabled Soft read) h = ap (Enabled Soft) (sym (same_form-same read (is_read mode) (and_parts (is_enabled Soft flags) (same_form read (is_read mode)) h).1))

-- what is there only if a test passes
some-if : (test : Bool) (y x : Fact) → (if test then Some y else None) ≡ Some x → (test ≡ true) × (y ≡ x)
some-if true y x e = (refl, same_Some y x e)
some-if false y x e = absurd (none-some x e)

-- ---- what is at a place is given by the lock of that place
fact_by-taking : (c : ChainParts) (new : Lock) (frame : Frame) (n : ℕ) (x : Fact) → c.new_lock ≡ Some (new, frame) → fact_by (Some (new, frame)) c n ≡ Some x →
    GivenBy c x (held_by (Some (new, frame)) c n)
fact_by-taking c new frame n x is e =
    elim (cases_lt n (length c.held_locks)) [
      | inl l ↦
          let old : Lock = get_or c.held_locks n new in
          let d : Fact = Dependency old.key new.key (kind_between old.mode new.mode) in
          let at : fact_by (Some (new, frame)) c n ≡ (if may_wait new.mode then Some d else None) =
          rw (lt-ltb n (length c.held_locks) l, slice_get-get_or c.held_locks n new l) refl in
          let got = some-if (may_wait new.mode) d x (sym at ∙ e) in
          let place : held_by (Some (new, frame)) c n ≡ Some n = rw (lt-ltb n (length c.held_locks) l) refl in
          let has : Contains c.held_locks old = (n, l, Rattle.std.proofs.lemmas.List.get_or_default c.held_locks n old new l) in
          let given : GivenBy c d (Some n) = (
            record { old = old; new = new; frame = frame; is_held = has; is_new = is; waits = got.0; from_is = refl; to_is = refl; how = refl },
            slice_get-get_or c.held_locks n new l,
          ) in
          subst (GivenBy c x) (sym place) (subst (λ y. GivenBy c y (Some n)) got.1 given)
      | inr g ↦
          let m : Mark = mark_by_taking (is_read new.mode) (n - length c.held_locks) in
          let at : fact_by (Some (new, frame)) c n ≡ mark_if (marks_taken new.mode frame c.flags) new.key m = rw (le-ltb n (length c.held_locks) g) refl in
          let got = mark_if-some (marks_taken new.mode frame c.flags) new.key m x (sym at ∙ e) in
          let place : held_by (Some (new, frame)) c n ≡ None = rw (le-ltb n (length c.held_locks) g) refl in
          let given : GivenBy c (Marked new.key m) None = record { new = new; frame = frame; is_new = is; key_is = refl; gives = got.0 } in
          subst (GivenBy c x) (sym place) (subst (λ y. GivenBy c y None) got.1 given)
    ]

fact_by-opening : (c : ChainParts) (n : ℕ) (x : Fact) → c.new_lock ≡ None → fact_by None c n ≡ Some x → GivenBy c x (Some (n / 2))
fact_by-opening c n x is e =
    pick (slice_get c.held_locks (n / 2)) refl e
  where
    pick : (o : Option Lock) → slice_get c.held_locks (n / 2) ≡ o → mark_of_held o c.flags (n % 2) ≡ Some x → GivenBy c x (Some (n / 2))
    pick None at h = absurd (none-some x h)
    pick (Some old) at h =
        let m : Mark = mark_by_opening (is_read old.mode) (n % 2) in
        let got = mark_if-some (marks_opened old.mode c.flags) old.key m x h in
        let l : n / 2 < length c.held_locks = Rattle.std.proofs.lemmas.Option.slice_get_within c.held_locks (n / 2) old at in
        let has : Contains c.held_locks old = (n / 2, l, Rattle.std.proofs.lemmas.Option.get_or_from_slice_get c.held_locks (n / 2) old old at) in
        let given : GivenBy c (Marked old.key m) (Some (n / 2)) =
        (record { old = old; is_opening = is; is_held = has; key_is = refl; gives = got.0 }, at) in
        subst (λ y. GivenBy c y (Some (n / 2))) got.1 given

chain_fact-given : (c : ChainParts) (n : ℕ) (x : Fact) → chain_fact c n ≡ Some x → GivenBy c x (slot_held c n)
chain_fact-given c n x e = pick c.new_lock refl e
  where
    pick : (o : Option (Lock × Frame)) → c.new_lock ≡ o → fact_by o c n ≡ Some x → GivenBy c x (held_by c.new_lock c n)
    pick None is h = subst (λ o. GivenBy c x (held_by o c n)) (sym is) (fact_by-opening c n x is h)
    pick (Some new) is h = subst (λ o. GivenBy c x (held_by o c n)) (sym is) (fact_by-taking c new.0 new.1 n x is h)

-- what is given is the chain's
GivenBy-has : (c : ChainParts) (x : Fact) (held : Option ℕ) → GivenBy c x held → ChainHas c x
GivenBy-has c (Dependency from to kind) (Some k) g = g.0
GivenBy-has c (Dependency from to kind) None g = absurd g
GivenBy-has c (Marked key mark) (Some k) g = inr g.0
GivenBy-has c (Marked key mark) None g = inl g

pub chain_fact-sound : (c : ChainParts) (n : ℕ) (x : Fact) → chain_fact c n ≡ Some x → ChainHas c x
chain_fact-sound c n x e = GivenBy-has c x (slot_held c n) (chain_fact-given c n x e)

-- ---- each fact is at a place of the lock that gives it
GivenBy-stands : (c : ChainParts) (x : Fact) (held : Option ℕ) → GivenBy c x held → StandsBy c x held
GivenBy-stands c (Dependency from to kind) (Some k) (h, at) =
    let l : k < length c.held_locks = Rattle.std.proofs.lemmas.Option.slice_get_within c.held_locks k h.old at in
    let slots : fact_slots c ≡ length c.held_locks + 5 = rw h.is_new refl in
    let here : chain_fact c k ≡ Some (Dependency h.old.key h.new.key (kind_between h.old.mode h.new.mode)) =
    rw (h.is_new, lt-ltb k (length c.held_locks) l, at, h.waits) refl in
    (k, omega arith, here ∙ rw (h.from_is, h.to_is, h.how) refl, rw (h.is_new, lt-ltb k (length c.held_locks) l) refl)
GivenBy-stands c (Dependency from to kind) None h = absurd h
GivenBy-stands c (Marked key mark) None h =
    let n : ℕ = length c.held_locks + taking_place mark in
    let slots : fact_slots c ≡ length c.held_locks + 5 = rw h.is_new refl in
    let after : n - length c.held_locks ≡ taking_place mark = omega arith in
    let m : mark_by_taking (is_read h.new.mode) (n - length c.held_locks) ≡ mark =
    ap (mark_by_taking (is_read h.new.mode)) after ∙ mark_by_taking-place h.new.mode h.frame c.flags mark h.gives in
    let here : chain_fact c n ≡ mark_if (marks_taken h.new.mode h.frame c.flags) h.new.key (mark_by_taking (is_read h.new.mode) (n - length c.held_locks)) =
    rw (h.is_new, le-ltb n (length c.held_locks) (omega arith)) refl in (
      n,
      omega (arith, taking_place-lt mark),
      here ∙ ap (mark_if (marks_taken h.new.mode h.frame c.flags) h.new.key) m ∙
          mark_if-gives (marks_taken h.new.mode h.frame c.flags) h.new.key mark h.gives ∙ ap (λ k. Some (Marked k mark)) (sym h.key_is),
      rw (h.is_new, le-ltb n (length c.held_locks) (omega arith)) refl,
    )
GivenBy-stands c (Marked key mark) (Some k) (h, at) =
    let l : k < length c.held_locks = Rattle.std.proofs.lemmas.Option.slice_get_within c.held_locks k h.old at in
    let n : ℕ = k * 2 + opening_place mark in
    let lt : opening_place mark < 2 = opening_place-lt mark in
    let slots : fact_slots c ≡ length c.held_locks * 2 = rw h.is_opening refl in
    let half : n / 2 ≡ k = omega arith in
    let odd : n % 2 ≡ opening_place mark = omega arith in
    let here : chain_fact c n ≡ mark_if (marks_opened h.old.mode c.flags) h.old.key (mark_by_opening (is_read h.old.mode) (opening_place mark)) =
    rw (h.is_opening, half, odd, at) refl in (
      n,
      omega arith,
      here ∙ ap (mark_if (marks_opened h.old.mode c.flags) h.old.key) (mark_by_opening-place h.old.mode c.flags mark h.gives) ∙
          mark_if-gives (marks_opened h.old.mode c.flags) h.old.key mark h.gives ∙ ap (λ k. Some (Marked k mark)) (sym h.key_is),
      rw h.is_opening (ap Some half),
    )

-- what the chain has is given by one of its locks
given-place : (c : ChainParts) (old : Lock) → Contains c.held_locks old → (k : ℕ) × (slice_get c.held_locks k ≡ Some old)
given-place c old (k, l, at) = (k, slice_get-get_or c.held_locks k old l ∙ ap Some at)

ChainHas-given : (c : ChainParts) (x : Fact) → ChainHas c x → (held : Option ℕ) × GivenBy c x held
ChainHas-given c (Dependency from to kind) h = let p = given-place c h.old h.is_held in (Some p.0, (h, p.1))
ChainHas-given c (Marked key mark) (inl h) = (None, h)
ChainHas-given c (Marked key mark) (inr h) = let p = given-place c h.old h.is_held in (Some p.0, (h, p.1))

pub chain_fact-complete : (c : ChainParts) (x : Fact) → ChainHas c x → StandsIn c x (fact_slots c)
chain_fact-complete c x h =
    let (held, given) = ChainHas-given c x h in
    let (n, within, at, by) = GivenBy-stands c x held given in
    (n, within, at)

pub chains_give_what_they_have : ChainsGiveWhatTheyHave
chains_give_what_they_have c x = (ChainHas-given c x, (λ (held, given). GivenBy-has c x held given))

pub slots_have_what_is_given : SlotsHaveWhatIsGiven
slots_have_what_is_given c x held = (
  (λ given. GivenBy-stands c x held given),
  (λ (n, within, at, by). subst (GivenBy c x) by (chain_fact-given c n x at)),
)

-- later slots are of newer locks
newer_by : (o : Option (Lock × Frame)) (c : ChainParts) (m n : ℕ) → m ≤ n → IfSome (held_by o c n) (λ k. IfSome (held_by o c m) (λ i. i ≤ k))
newer_by None c m n l = omega arith
newer_by (Some new) c m n l = elim (cases_lt n (length c.held_locks)) [
  | inl below ↦ rw (lt-ltb n (length c.held_locks) below, lt-ltb m (length c.held_locks) (omega (arith, l, below))) l
  | inr past ↦ rw (le-ltb n (length c.held_locks) past) tt
]

pub later_slots_are_of_newer_locks : LaterSlotsAreOfNewerLocks
later_slots_are_of_newer_locks c m n l = newer_by c.new_lock c m n l

-- ---- a chain's facts name only the chain's keys
pub FactBelow-chain : (keys : ℕ) (c : ChainParts) (x : Fact) → ChainKeysBelow keys c → ChainHas c x → FactBelow keys x
FactBelow-chain keys c (Dependency from to kind) below h = (
  subst (λ k. k < keys) (sym h.from_is) (All-contains (λ lock. lock.key < keys) c.held_locks h.old below.held_below h.is_held),
  subst (λ k. k < keys) (sym h.to_is) (new_key h.new h.frame h.is_new),
)
  where
    new_key : (new : Lock) (frame : Frame) → c.new_lock ≡ Some (new, frame) → new.key < keys
    new_key new frame is = subst (λ o. IfSome o (λ t. t.0.key < keys)) is below.new_below
FactBelow-chain keys c (Marked key mark) below (inl h) =
    subst (λ k. k < keys) (sym h.key_is) (subst (λ o. IfSome o (λ t. t.0.key < keys)) h.is_new below.new_below)
FactBelow-chain keys c (Marked key mark) below (inr h) =
    subst (λ k. k < keys) (sym h.key_is) (All-contains (λ lock. lock.key < keys) c.held_locks h.old below.held_below h.is_held)
