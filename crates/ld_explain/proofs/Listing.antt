-- Where a dependency that is asked about first occurs in each trace that has it.
use Rattle.ld_explain.proofs.Names.{[], ◌&&◌, ◌++◌, ◌+◌, ◌<◌, ◌∙◌, ◌∷◌, ◌≡◌, ◌≤◌, All, All-nil, All-push, Adds, AreThose, Arrow, Bool, Dependency, Event, Fact, FactParts, Gives, HasFact, HasOrigin, Holds, IfSome, IsFirst, IsKnown, IsNone, IsOriginOf, List, None, Occurs, Option, Order, Origin, OriginParts, RenamedFactsAreTheImage, Some, Verdict, View, and_parts, ap, append-nil, arith, cases_Bool, eqb, fact_number, inl, inr, is_some, length, lookup, ltb, ltb-true, map, map-append, none-some, option_and_then, refl, same_Some, slice_get, slice_index_or, subst, suc, sym, true, true≢false, zero, ℕ}
use Rattle.std.proofs.lemmas.Bool.{lt-ltb}
use Rattle.ld_explain.specs.Findings.{Are}
use Rattle.ld_explain.specs.Found.{numbers_below}
use Rattle.ld_explain.specs.Inside.Listing.{AddsEnd, AsksAll, AsksMore, AsksVerdict}
use Rattle.ld_explain.specs.Laws.Found.{numbers_below-more, numbers_below-zero}
use Rattle.ld_explain.specs.Whereabouts.{AreFirstInEach, AreListed, AreOriginsOfEach, HoldsAtEnd, IsEnd, IsFirstIn, IsIn, kept_at_end, nested_orders, orders_of, origin_in, place_in, places_below, places_in}
use Rattle.ld_explain.specs.declared.ends.End.{End}
use Rattle.ld_explain.proofs.FindingLemmas.{AreThose-append}
use Rattle.ld_explain.proofs.Keys.{never_past}
use Rattle.ld_explain.proofs.Traces.{occurring_has, tells}
use Rattle.ld_explain.proofs.VerdictLemmas.{Are-length}

-- one number more of those below a number
module _ (P : ℕ → Type 0) (n : ℕ) (those : List ℕ) (so_far : AreThose P (numbers_below n) those) where
  pub those-on : P n → AreThose P (numbers_below (n + 1)) (those ++ n ∷ [])
  those-on p = subst (λ ns. AreThose P ns (those ++ n ∷ [])) (sym (numbers_below-more n))
      (AreThose-append P (numbers_below n) (n ∷ []) those (n ∷ []) so_far (inl (p, ([], refl, refl))))

  pub those-off : ¬ P n → AreThose P (numbers_below (n + 1)) those
  those-off isnt = subst (λ ns. AreThose P ns those) (sym (numbers_below-more n))
      (subst (AreThose P (numbers_below n ++ n ∷ [])) (append-nil those)
      (AreThose-append P (numbers_below n) (n ∷ []) those [] so_far (inr (isnt, refl))))

pub those-none : (P : ℕ → Type 0) → AreThose P (numbers_below 0) []
those-none P = subst (λ ns. AreThose P ns []) (sym numbers_below-zero) refl

-- ---- at the end of traces
-- what is held at the end of the first n traces
abbrev pub AreEndsBelow : List (List Event) → ℕ → List End → Type 0
AreEndsBelow traces n ends = AreThose (HoldsAtEnd traces) (numbers_below n) (map (λ (e : End). e.trace) ends) × All (IsEnd traces) ends

pub ends-none : (traces : List (List Event)) → AreEndsBelow traces 0 []
ends-none traces = (those-none (HoldsAtEnd traces), All-nil _)

-- a trace more
pub ends-more : (traces : List (List Event)) (n : ℕ) (t : List Event) → slice_get traces n ≡ Some t → (old new : List End) (kept : List ℕ) →
    AddsEnd old new n kept → kept ≡ kept_at_end t → AreEndsBelow traces n old → AreEndsBelow traces (n + 1) new
ends-more traces n t here old new kept (inl (none, same)) is (those, ends) = subst (AreEndsBelow traces (n + 1)) (sym same) (
  those-off (HoldsAtEnd traces) n _ those (λ (s, at, some). some (ap kept_at_end (same_Some s t (sym at ∙ here)) ∙ sym is ∙ none)),
  ends,
)
ends-more traces n t here old new kept (inr (some, (e, at, held, grew))) is (those, ends) = subst (AreEndsBelow traces (n + 1)) (sym grew) (
  subst (AreThose (HoldsAtEnd traces) (numbers_below (n + 1))) (sym (map-append (λ (e : End). e.trace) old (e ∷ []) ∙ ap (λ k. map (λ (e : End). e.trace) old ++ k ∷ []) at))
      (those-on (HoldsAtEnd traces) n _ those (t, here, λ none. some (is ∙ none))),
  All-push (IsEnd traces) old e ends (t, ap (slice_get traces) at ∙ here, held ∙ is),
)

-- ---- origins of a dependency
-- what stands at the same place
pub Are-at : {X Y : Type 0} (R : X → Y → Type 0) (xs : List X) (ys : List Y) → Are R xs ys → (n : ℕ) (x : X) → slice_get xs n ≡ Some x →
    (y : Y) × (slice_get ys n ≡ Some y) × R x y
unfolding Are
Are-at R [] ys none n x at = absurd (none-some x at)
Are-at R (z ∷ xs) ys (y, rest, is, are, e) zero x at = (y, ap (λ l. slice_get l 0) e, subst (λ w. R w y) (same_Some z x at) is)
Are-at R (z ∷ xs) ys (y, rest, is, are, e) (suc n) x at =
    let r = Are-at R xs rest are n x at in (r.0, ap (λ l. slice_get l (suc n)) e ∙ r.1, r.2)

-- ---- the origin of a dependency among those that are kept
module _ (parts : OriginParts) (d : Arrow) where
  abbrev fact : Fact
  fact = Dependency d.start d.end d.kind

  abbrev found : Option Origin
  found = lookup (λ n. eqb (fact_number parts.keys fact) n) parts.entries

  abbrev is_below : Bool
  is_below = ltb d.start parts.keys && ltb d.end parts.keys

  found-has : d.start < parts.keys → d.end < parts.keys → (o : Option Origin) → found ≡ o → IfSome o (HasOrigin parts fact)
  found-has start end None is = tt
  found-has start end (Some o) is = ((start, end), is)

  pub origin_in-some : IfSome (origin_in parts d) (HasOrigin parts fact)
  origin_in-some = elim (cases_Bool is_below) [
    | inl below ↦
        let both = and_parts (ltb d.start parts.keys) (ltb d.end parts.keys) below in
        rw below (found-has (ltb-true d.start parts.keys both.0) (ltb-true d.end parts.keys both.1) found refl)
    | inr not ↦ rw not tt
  ]

  pub origin_in-none : IsNone (origin_in parts d) → ¬ IsKnown parts fact
  origin_in-none none (o, ((start, end), is)) =
      let one : ltb d.start parts.keys ≡ true = lt-ltb d.start parts.keys start in
      let other : ltb d.end parts.keys ≡ true = lt-ltb d.end parts.keys end in
      let at : origin_in parts d ≡ Some o = rw (one, other) is in
      absurd (true≢false (sym (ap is_some at) ∙ none))

-- ---- in each trace
module _ (image : RenamedFactsAreTheImage) (view : View) (asked : FactParts) (each : List OriginParts) (are : AreOriginsOfEach view asked each) (d : Arrow) where
  abbrev x : Fact
  x = Dependency d.start d.end d.kind

  abbrev alone : List Event → View
  alone t = record { traces = t ∷ []; rename = view.rename }

  -- the same place in the trace of another number
  abbrev moved : (trace : ℕ) → Origin → Origin
  moved trace o = record { trace = trace; place = o.place; held = o.held }

  module _ (n : ℕ) (t : List Event) (here : slice_get view.traces n ≡ Some t) where
    down : (o : Origin) → Occurs view x o → o.trace ≡ n → Occurs (alone t) x (moved 0 o)
    down o occurs at =
        let same : occurs.t ≡ t = same_Some occurs.t t (sym occurs.is_trace ∙ ap (slice_get view.traces) at ∙ here) in
        record { t = t; is_trace = refl; fact = occurs.fact; gives = subst (λ s. Gives s occurs.fact o.place o.held) same occurs.gives; named = occurs.named }

    only : (k : ℕ) (s : List Event) → slice_get (t ∷ []) k ≡ Some s → (t ≡ s) × (k ≡ 0)
    only zero s at = (same_Some t s at, refl)
    only (suc k) s at = absurd (none-some s at)

    up : (o : Origin) → Occurs (alone t) x o → Occurs view x (moved n o)
    up o occurs =
        let same = (only o.trace occurs.t occurs.is_trace).0 in
        record { t = t; is_trace = here; fact = occurs.fact; gives = subst (λ s. Gives s occurs.fact o.place o.held) (sym same) occurs.gives; named = occurs.named }

    first_in : (o : Origin) → IsFirst (alone t) x o → IsFirstIn view x (moved n o)
    first_in o first = record {
      here = up o first.here;
      first = λ other occurs same. elim (first.first (moved 0 other) (down other occurs same)) [
        | inl earlier ↦ absurd (omega (arith, earlier))
        | inr later ↦ inr (sym same, later.1)
      ];
    }

    -- a trace more
    abbrev AreSoFar : ℕ → List Origin → Type 0
    AreSoFar k places = AreThose (IsIn view x) (numbers_below k) (map (λ (o : Origin). o.trace) places) × All (IsFirstIn view x) places

    one-more : (o : Option Origin) → IsOriginOf (alone t) x o → (places : List Origin) → AreSoFar n places → AreSoFar (n + 1) (places ++ place_in n o)
    one-more None (none, first) places (those, firsts) =
        let nowhere : ¬ IsIn view x n = λ (o, occurs, at). none.0 refl ((image view.rename (t ∷ []) x).1 (occurring_has (alone t) x (moved 0 o) (down o occurs at))) in
        subst (AreSoFar (n + 1)) (sym (append-nil places)) (those-off (IsIn view x) n _ those nowhere, firsts)
    one-more (Some o) (none, first) places (those, firsts) =
        let one = first_in o first in (
          subst (AreThose (IsIn view x) (numbers_below (n + 1))) (sym (map-append (λ (o : Origin). o.trace) places (moved n o ∷ [])))
              (those-on (IsIn view x) n _ those (moved n o, one.here, refl)),
          All-push (IsFirstIn view x) places (moved n o) firsts one,
        )

  module _ (is_asked : HasFact asked x) where
    abbrev Are-below : ℕ → Type 0
    Are-below k = AreThose (IsIn view x) (numbers_below k) (map (λ (o : Origin). o.trace) (places_below each k d)) × All (IsFirstIn view x) (places_below each k d)

    below : (k : ℕ) → k ≤ length view.traces → Are-below k
    below zero l = (those-none (IsIn view x), All-nil _)
    below (suc k) l = by (slice_get view.traces k) refl (below k (omega (arith, l)))
      where
        by : (o : Option (List Event)) → slice_get view.traces k ≡ o → Are-below k → Are-below (suc k)
        by None at so_far = absurd (never_past view.traces k (omega (arith, l)) at)
        by (Some t) at so_far =
            let (parts, is, origins) = Are-at _ view.traces each are k t at in
            let origin : IsOriginOf (alone t) x (origin_in parts d) = tells image (alone t) asked parts origins x is_asked (origin_in parts d) (origin_in-some parts d) (origin_in-none parts d) in
            let next : k + 1 ≡ suc k = omega arith in
            let same : option_and_then (λ p. origin_in p d) (slice_get each k) ≡ origin_in parts d = ap (option_and_then (λ p. origin_in p d)) is in
            subst (λ n. AreThose (IsIn view x) (numbers_below n) (map (λ (o : Origin). o.trace) (places_below each (suc k) d)) × All (IsFirstIn view x) (places_below each (suc k) d)) next
            (subst (λ o. AreThose (IsIn view x) (numbers_below (k + 1)) (map (λ (o : Origin). o.trace) (places_below each k d ++ place_in k o)) × All (IsFirstIn view x) (places_below each k d ++ place_in k o)) (sym same)
            (one-more k t at (origin_in parts d) origin (places_below each k d) so_far))

    pub first-in-each : AreFirstInEach view x (places_in each d)
    first-in-each =
        let long : length view.traces ≡ length each = Are-length _ view.traces each are in
        let all = below (length each) (omega (arith, long)) in
        record { traces_are = subst (λ n. AreThose (IsIn view x) (numbers_below n) (map (λ (o : Origin). o.trace) (places_in each d))) (sym long) all.0; first = all.1 }

-- ---- a trace more of the places
pub places-more : (each : List OriginParts) (n : ℕ) (d : Arrow) (parts : OriginParts) → slice_get each n ≡ Some parts →
    places_below each (n + 1) d ≡ places_below each n d ++ place_in n (origin_in parts d)
places-more each n d parts is =
    let next : n + 1 ≡ suc n = omega arith in
    subst (λ k. places_below each k d ≡ places_below each n d ++ place_in n (origin_in parts d)) (sym next)
    (ap (λ o. places_below each n d ++ place_in n (option_and_then (λ p. origin_in p d) o)) is)

-- ---- what is asked about
abbrev fact_of : Order → Fact
fact_of o = Dependency o.dependency.start o.dependency.end o.dependency.kind

module _ (old new : FactParts) (keeps : Holds (HasFact new) (HasFact old)) where
  pub AsksAll-keeps : (orders : List Order) → AsksAll old orders → AsksAll new orders
  AsksAll-keeps orders asks k d within = keeps (fact_of (slice_index_or orders k d)) (asks k d within)

  pub AsksVerdict-keeps : (verdicts : List Verdict) → All (AsksVerdict old) verdicts → All (AsksVerdict new) verdicts
  AsksVerdict-keeps verdicts asks k d within =
      let v = slice_index_or verdicts k d in
      let both = asks k d within in (AsksAll-keeps (orders_of v.finding) both.0, AsksAll-keeps (nested_orders v.between) both.1)

pub asks-none : (asked : FactParts) → AsksMore asked asked []
asks-none asked = record { keys = refl; keeps = λ x has. has; asks = All-nil _ }

-- a member more
pub asks-more : (old mid new : FactParts) (orders : List Order) (o : Order) (x : Fact) → x ≡ fact_of o →
    AsksMore old mid orders → new.keys ≡ mid.keys → Adds (HasFact mid) (HasFact new) (λ y. y ≡ x) → AsksMore old new (orders ++ o ∷ [])
asks-more old mid new orders o x is more keys adds = record {
  keys = keys ∙ more.keys;
  keeps = λ y has. (adds y).1 (inl (more.keeps y has));
  asks = All-push (λ (p : Order). HasFact new (fact_of p)) orders o (AsksAll-keeps mid new (λ y has. (adds y).1 (inl has)) orders more.asks) ((adds (fact_of o)).1 (inr (sym is)));
}

-- ---- all members of verdicts
pub each-listed : RenamedFactsAreTheImage → (view : View) (asked : FactParts) (each : List OriginParts) → AreOriginsOfEach view asked each →
    (f : Verdict → List Order) (verdicts : List Verdict) → All (λ v. AsksAll asked (f v)) verdicts → All (λ v. AreListed view each (f v)) verdicts
each-listed image view asked each are f verdicts asks k v within i o inside =
    first-in-each image view asked each are (slice_index_or (f (slice_index_or verdicts k v)) i o).dependency (asks k v within i o inside)
