-- Facts by other names, and without those of several locks.
use Rattle.ld_explain.proofs.Names.{[], ◌++◌, ◌+◌, ◌<◌, ◌∙◌, ◌∷◌, ◌≡◌, ◌≤◌, All, AreSame, AreSureNumbers, Bool, Bor, Contains, Contains-get_or, Dependency, Err, Event, Fact, FactBelow, FactParts, HasFact, IfOk, IfSome, Image, ImageBelow, IsErrAnd, IsFalse, IsNone, IsSomeAnd, IsSure, IsTrue, List, Marked, Name, None, Ok, Option, RenamedFactsAreTheImage, Result, Some, TracesHave, TracesHaveBy, ap, arith, cases_lt, fact_by, false, get_or_append_left, get_or_push, if◌then◌else◌, inl, inr, is_rest, is_some, length, length-append, name_at, no_key, option_map, refl, slice_index, subst, sym, true, true≢false, ℕ}

-- ---- numbers of single locks
-- one key more
pub AreSureNumbers-next : (names : List Name) (count number : ℕ) (numbers : List ℕ) → AreSureNumbers names count numbers →
    number ≡ (if is_rest (name_at names count).0 then no_key else count) → AreSureNumbers names (count + 1) (numbers ++ number ∷ [])
AreSureNumbers-next names count number numbers before is = record {
  len = omega (arith, length-append numbers (number ∷ []), before.len);
  each = λ key within. elim (cases_lt key count) [
    | inl less ↦ get_or_append_left numbers (number ∷ []) 0 key (let l = before.len in omega arith) ∙ before.each key less
    | inr more ↦
        let last : key ≡ count = omega (arith, within, more) in
        subst (λ k. slice_index (numbers ++ number ∷ []) k ≡ (if is_rest (name_at names k).0 then no_key else k)) (sym last)
        (get_or_push numbers number 0 count before.len ∙ is)
  ];
}

-- ---- facts with other keys
-- a fact whose keys are below a bound is, by others, below theirs
others-below : (keys : ℕ) (others : List ℕ) (bound : ℕ) → bound ≡ length others → All (λ key. key < keys) others → (y : Fact) →
    FactBelow bound y → FactBelow keys (fact_by (slice_index others) y)
others-below keys others bound is below (Dependency from to kind) (low, high) =
    (below from 0 (omega (arith, is, low)), below to 0 (omega (arith, is, high)))
others-below keys others bound is below (Marked key mark) low = below key 0 (omega (arith, is, low))

-- facts with other keys, of which each key has one below the bound, are all there
pub image-below : (keys : ℕ) (others : List ℕ) (facts : FactParts) → facts.keys ≡ length others → All (λ key. key < keys) others →
    (Others : Fact → Type 0) → AreSame Others (ImageBelow keys (slice_index others) (HasFact facts)) →
    AreSame Others (Image (slice_index others) (HasFact facts))
image-below keys others facts all below Others same x = (
  (λ h. ((same x).0 h).1),
  (λ (y, has, is). (same x).1 (subst (FactBelow keys) is (others-below keys others facts.keys all below y has.0), (y, has, is))),
)

-- the facts of traces under a renaming, from facts that say the same
pub facts-by : RenamedFactsAreTheImage → (traces : List (List Event)) (facts : FactParts) (rename : ℕ → ℕ) → AreSame (HasFact facts) (TracesHave traces) →
    (Others : Fact → Type 0) → AreSame Others (Image rename (HasFact facts)) → AreSame Others (TracesHaveBy rename traces)
facts-by law traces facts rename of_traces Others same x = (
  (λ h. let (y, has, is) = (same x).0 h in (law rename traces x).1 (y, (of_traces y).0 has, is)),
  (λ h. let (y, has, is) = (law rename traces x).0 h in (same x).1 (y, (of_traces y).1 has, is)),
)

-- ---- facts of single locks
module _ (names : List Name) (others : List ℕ) (bound : ℕ) (few : bound ≤ no_key) (numbers : AreSureNumbers names bound others) where
  -- a key with a number below the bound is that of a single lock, and has its own
  one-lock : (key : ℕ) → key < bound → slice_index others key < bound → IsFalse (is_rest (name_at names key).0) × (slice_index others key ≡ key)
  one-lock key within below = cases (is_rest (name_at names key).0) (numbers.each key within)
    where
      cases : (several : Bool) → slice_index others key ≡ (if several then no_key else key) → IsFalse several × (slice_index others key ≡ key)
      cases true is = absurd (omega (arith, few, below, is))
      cases false is = (refl, is)

  -- a single lock has its own
  own : (key : ℕ) → key < bound → IsFalse (is_rest (name_at names key).0) → slice_index others key ≡ key
  own key within one = cases (is_rest (name_at names key).0) one (numbers.each key within)
    where
      cases : (several : Bool) → IsFalse several → slice_index others key ≡ (if several then no_key else key) → slice_index others key ≡ key
      cases true one is = absurd (true≢false one)
      cases false one is = is

  sure-by : (x y : Fact) → FactBelow bound y → FactBelow bound x → fact_by (slice_index others) y ≡ x → (y ≡ x) × IsSure names x
  sure-by x (Dependency from to kind) (low, high) below is =
      let at : FactBelow bound (Dependency (slice_index others from) (slice_index others to) kind) = subst (FactBelow bound) (sym is) below in
      let (one, own_from) = one-lock from low at.0 in
      let (two, own_to) = one-lock to high at.1 in
      let same : Dependency from to kind ≡ x = ap (λ k. Dependency k to kind) (sym own_from) ∙ ap (λ k. Dependency (slice_index others from) k kind) (sym own_to) ∙ is in
      (same, subst (IsSure names) same (one, two))
  sure-by x (Marked key mark) low below is =
      let at : FactBelow bound (Marked (slice_index others key) mark) = subst (FactBelow bound) (sym is) below in
      let (one, own_key) = one-lock key low at in
      let same : Marked key mark ≡ x = ap (λ k. Marked k mark) (sym own_key) ∙ is in
      (same, subst (IsSure names) same one)

  by-sure : (x : Fact) → FactBelow bound x → IsSure names x → fact_by (slice_index others) x ≡ x
  by-sure (Dependency from to kind) (low, high) (one, two) =
      ap (λ k. Dependency k (slice_index others to) kind) (own from low one) ∙ ap (λ k. Dependency from k kind) (own to high two)
  by-sure (Marked key mark) low one = ap (λ k. Marked k mark) (own key low one)

-- without the facts of which a key stands for several locks
pub image-sure : (names : List Name) (others : List ℕ) (facts : FactParts) → facts.keys ≤ no_key → AreSureNumbers names facts.keys others →
    (Sure : Fact → Type 0) → AreSame Sure (ImageBelow facts.keys (slice_index others) (HasFact facts)) → AreSame Sure (λ x. HasFact facts x × IsSure names x)
image-sure names others facts few numbers Sure same x = (
  (λ h.
      let (below, (y, has, is)) = (same x).0 h in
      let (own_fact, sure) = sure-by names others facts.keys few numbers x y has.0 below is in
      (subst (HasFact facts) own_fact has, sure)),
  (λ (has, sure). (same x).1 (has.0, (x, has, by-sure names others facts.keys few numbers x has.0 sure))),
)

-- where each key has its own number no fact is left out
all-sure : (names : List Name) (others : List ℕ) (bound : ℕ) → AreSureNumbers names bound others → ¬ Contains others no_key →
    (x : Fact) → FactBelow bound x → IsSure names x
all-sure names others bound numbers none x below = is-sure x below
  where
    one-lock : (key : ℕ) → key < bound → IsFalse (is_rest (name_at names key).0)
    one-lock key within = cases (is_rest (name_at names key).0) (numbers.each key within)
      where
        cases : (several : Bool) → slice_index others key ≡ (if several then no_key else key) → IsFalse several
        cases true is = absurd (none (subst (Contains others) is (Contains-get_or others key 0 (omega (arith, within, numbers.len)))))
        cases false is = refl

    is-sure : (y : Fact) → FactBelow bound y → IsSure names y
    is-sure (Dependency from to kind) (low, high) = (one-lock from low, one-lock to high)
    is-sure (Marked key mark) low = one-lock key low

-- so all facts of such traces are sure
pub sure-of_all : (traces : List (List Event)) (names : List Name) (others : List ℕ) (facts : FactParts) → AreSureNumbers names facts.keys others → ¬ Contains others no_key →
    AreSame (HasFact facts) (TracesHave traces) → (Every : Fact → Type 0) → AreSame Every (TracesHave traces) → AreSame Every (λ x. TracesHave traces x × IsSure names x)
sure-of_all traces names others facts numbers none of_traces Every same x = (
  (λ h. let has = (same x).0 h in (has, all-sure names others facts.keys numbers none x ((of_traces x).1 has).0)),
  (λ (has, sure). (same x).1 has),
)

-- what follows for the one that is there
pub IfSome-weaker : {X : Type 0} (found : Option X) (P Q : X → Type 0) → ((x : X) → P x → Q x) → IfSome found P → IfSome found Q
IfSome-weaker None P Q weaker is = tt
IfSome-weaker (Some x) P Q weaker is = weaker x is

-- what holds of the one that is chosen
pub chosen : (b : Bool) (one other : Option FactParts) (P : FactParts → Type 0) → IfSome one P → (b ≡ false → IfSome other P) → IfSome (if b then one else other) P
chosen true one other P is otherwise = is
chosen false one other P is otherwise = otherwise refl

-- one that isn't there, of which the other one is or has a reason not to be
pub not-chosen : (b : Bool) (one other : Option FactParts) {Why : Type 0} → (IsNone one → b ≡ true → Why) → (IsNone other → Why) → IsNone (if b then one else other) → Why
not-chosen true one other why otherwise none = why none refl
not-chosen false one other why otherwise none = otherwise none

-- the same of traces that have these facts
pub sure-of_traces : (traces : List (List Event)) (names : List Name) (facts : FactParts) → AreSame (HasFact facts) (TracesHave traces) →
    (Sure : Fact → Type 0) → AreSame Sure (λ x. HasFact facts x × IsSure names x) → AreSame Sure (λ x. TracesHave traces x × IsSure names x)
sure-of_traces traces names facts of_traces Sure same x = (
  (λ h. let (has, sure) = (same x).0 h in ((of_traces x).0 has, sure)),
  (λ (has, sure). (same x).1 ((of_traces x).1 has, sure)),
)

-- ---- levels
-- what is settled is what was tried, where it is
pub open-facts : {E : Type 0} (settled : Option FactParts) (tried : Result FactParts E) (P : FactParts → Type 0) →
    IfSome settled (λ facts. tried ≡ Ok facts) → IfOk tried P → IfSome settled P
open-facts None tried P is ok = tt
open-facts {E} (Some facts) tried P is ok = subst (λ (t : Result FactParts E). IfOk t P) is ok

-- a fault that was passed on is the one that came
pub err-passed : {T E : Type 0} (passed : Result T E) (came is : E) → IsErrAnd passed (λ fault. fault ≡ came) → passed ≡ Err is → came ≡ is
err-passed (Ok x) came is and so = absurd and
err-passed (Err fault) came is and so = cc

-- what a borrowed level has is what it was settled to have
pub borrowed-has : (settled : Option (Bor FactParts)) (own : Option FactParts) (P : Fact → Type 0) → option_map (λ facts. facts.now) settled ≡ own →
    IfSome own (λ facts. AreSame (HasFact facts) P) → (x : Fact) → IsSomeAnd settled (λ facts. HasFact facts.now x) → P x
borrowed-has None own P is same x has = absurd has
borrowed-has (Some facts) own P is same x has =
    let of_facts : IfSome (Some facts.now) (λ f. AreSame (HasFact f) P) = subst (λ o. IfSome o (λ f. AreSame (HasFact f) P)) (sym is) same in
    (of_facts x).0 has

-- a level that is settled has all that its facts have, and one that isn't has none of its own
pub borrowed-all : (settled : Option (Bor FactParts)) (own : Option FactParts) (P : Fact → Type 0) → option_map (λ facts. facts.now) settled ≡ own →
    IfSome own (λ facts. AreSame (HasFact facts) P) → IsTrue (is_some settled) → (x : Fact) → P x → IsSomeAnd settled (λ facts. HasFact facts.now x)
borrowed-all None own P is same is_settled x p = absurd (true≢false (sym is_settled))
borrowed-all (Some facts) own P is same is_settled x p =
    let of_facts : IfSome (Some facts.now) (λ f. AreSame (HasFact f) P) = subst (λ o. IfSome o (λ f. AreSame (HasFact f) P)) (sym is) same in
    (of_facts x).1 p

pub borrowed-none : (settled : Option (Bor FactParts)) (own : Option FactParts) → option_map (λ facts. facts.now) settled ≡ own →
    IsFalse (is_some settled) → IsNone own
borrowed-none None own is unsettled = subst IsNone is refl
borrowed-none (Some facts) own is unsettled = absurd (true≢false unsettled)
