-- How walks and links are chosen, and what is asked about for them.
use Rattle.ld_explain.proofs.Names.{[], ◌++◌, ◌<◌, ◌↔◌, ◌∙◌, ◌∷◌, ◌≡◌, ◌⊎◌, Adds, AddsChoice, AddsEach, AddsFor, All, All-contains, All-contains_itself, All-nil, All-push, All-weaker, Any-push, AreAsked, AreReported, Arrow, ByBoth, ByLink, ByWalk, Choice, Choices, ChoosesCircle, ChoosesCircles, Contains, Contains-append_left, Contains-push, Contains-push_cases, DependenciesOf, Dependency, Enabled, Fact, FactParts, HasFact, HasMembers, Holds, Irq, IsAmong, IsChoiceFrom, IsCircleChoice, IsDoubleChoice, IsInversionChoice, IsLink, IsMark, IsMember, IsPart, IsShortestFrom, IsShortestInversion, Link, List, Marked, StrongWalk-members, UsedIn, ap, append-nil, append_assoc, arith, arrow, inl, inr, is_r-kind_of_letters, is_s-kind_of_letters, length, link_by, refl, subst, sym, ℕ}
use Rattle.ld_explain.specs.Findings.{Are}

-- ---- adding
pub Adds-then : (A B C P Q R : Fact → Type 0) → ((x : Fact) → (P x ⊎ Q x) ↔ R x) → Adds A B P → Adds B C Q → Adds A C R
Adds-then A B C P Q R both first more x = (
  λ h. elim ((more x).0 h) [
    | inl mid ↦ elim ((first x).0 mid) [ inl was ↦ inl was | inr is ↦ inr ((both x).0 (inl is)) ]
    | inr is ↦ inr ((both x).0 (inr is))
  ],
  λ h. elim h [
    | inl was ↦ (more x).1 (inl ((first x).1 (inl was)))
    | inr is ↦ elim ((both x).1 is) [ inl one ↦ (more x).1 (inl ((first x).1 (inr one))) | inr other ↦ (more x).1 (inr other) ]
  ],
)

-- the arrow of a dependency
abbrev arrow_from : Fact → Arrow → Arrow
arrow_from (Dependency from to kind) d = arrow from to kind
arrow_from (Marked key mark) d = d

-- one member more
member-push : (walk : List Arrow) (d : Arrow) (x : Fact) → (IsMember walk x ⊎ (x ≡ Dependency d.start d.end d.kind)) ↔ IsMember (walk ++ d ∷ []) x
member-push walk d (Dependency from to kind) = (
  λ h. elim h [
    | inl was ↦ Contains-append_left walk (d ∷ []) (arrow from to kind) was
    | inr same ↦ let e : d ≡ arrow from to kind = sym (ap (λ y. arrow_from y d) same) in
        subst (Contains (walk ++ d ∷ [])) e (Contains-push walk d)
  ],
  λ h. elim (Contains-push_cases walk d (arrow from to kind) h) [
    | inl was ↦ inl was
    | inr e ↦ inr (ap (λ y. Dependency y.start y.end y.kind) (sym e))
  ],
)
member-push walk d (Marked key mark) = (
  λ h. elim h [ inl was ↦ was | inr same ↦ absurd (cc) ],
  λ h. inl h,
)

pub members-more : (A B C : Fact → Type 0) (walk : List Arrow) (d : Arrow) → Adds A B (IsMember walk) → Adds B C (λ x. x ≡ Dependency d.start d.end d.kind) →
    Adds A C (IsMember (walk ++ d ∷ []))
members-more A B C walk d = Adds-then A B C (IsMember walk) (λ x. x ≡ Dependency d.start d.end d.kind) (IsMember (walk ++ d ∷ [])) (member-push walk d)

-- where the dependencies of a walk are facts, its members are
pub members-are : (Has : Fact → Type 0) (walk : List Arrow) → All (DependenciesOf Has) walk → Holds Has (IsMember walk)
members-are Has walk are (Dependency from to kind) member = All-contains (DependenciesOf Has) walk (arrow from to kind) are member
members-are Has walk are (Marked key mark) none = absurd none

pub members-all : (Has : Fact → Type 0) (walk : List Arrow) → Holds Has (IsMember walk) → All (DependenciesOf Has) walk
members-all Has walk are = All-weaker (Contains walk) (DependenciesOf Has) (λ d member. are (Dependency d.start d.end d.kind) member) walk (All-contains_itself walk)

-- ---- what the facts of a choice are
-- a shortest walk from a dependency
module _ (Has : Fact → Type 0) (d : Arrow) (walk : List Arrow) (shortest : IsShortestFrom Has d walk) where
  pub shortest-some : 0 < length walk
  shortest-some = subst (λ w. 0 < length w) (sym shortest.walk_is) (let l : 0 < length (d ∷ shortest.rest) = omega arith in l)

  pub shortest-are : Holds Has (IsMember walk)
  shortest-are = subst (λ w. Holds Has (IsMember w)) (sym shortest.walk_is)
      (members-are Has (d ∷ shortest.rest) (StrongWalk-members (DependenciesOf Has) d shortest.rest shortest.closed.0))

-- the walk of an inversion
pub inversion-are : (Has : Fact → Type 0) (irq : Irq) (a b : ℕ) (l : Arrow) (walk : List Arrow) → IsShortestInversion Has irq a b l walk → Holds Has (IsMember walk)
inversion-are Has irq a b l walk shortest = subst (λ w. Holds Has (IsMember w)) (sym shortest.walk_is)
    (members-are Has (shortest.first ∷ shortest.rest) (StrongWalk-members (DependenciesOf Has) shortest.first shortest.rest shortest.closed.0.0))

-- a link
pub link-are : (Has : Fact → Type 0) (l : Link) → IsLink Has l.irq (link_by l.b l.a l.enabled_read l.used_read) → Holds Has (IsMark l)
link-are Has l is x (inl used) = subst Has (sym (used ∙ ap (λ r. Marked l.a (UsedIn l.irq r)) (sym (is_r-kind_of_letters l.enabled_read l.used_read)))) is.1
link-are Has l is x (inr enabled) = subst Has (sym (enabled ∙ ap (λ s. Marked l.b (Enabled l.irq s)) (sym (is_s-kind_of_letters l.enabled_read l.used_read)))) is.0

-- ---- lists side by side
module _ {X Y : Type 0} (R : X → Y → Type 0) where
  pub Are-one : (x : X) (y : Y) → R x y → Are R (x ∷ []) (y ∷ [])
  unfolding Are
  Are-one x y is = (y, [], is, refl, refl)

  pub Are-append : (xs more : List X) (ys others : List Y) → Are R xs ys → Are R more others → Are R (xs ++ more) (ys ++ others)
  unfolding Are
  Are-append [] more ys others none then = subst (λ t. Are R more (t ++ others)) (sym none) then
  Are-append (x ∷ xs) more ys others (y, rest, is, are, at) then =
      (y, rest ++ others, is, Are-append xs more rest others are then, ap (λ t. t ++ others) at)

  pub Are-more : (xs : List X) (ys : List Y) (x : X) (y : Y) → Are R xs ys → R x y → Are R (xs ++ x ∷ []) (ys ++ y ∷ [])
  Are-more xs ys x y are is = Are-append xs (x ∷ []) ys (y ∷ []) are (Are-one x y is)

-- ---- one choice more
module _ (facts : FactParts) (old new : Choices) (choice : Choice) (adds : AddsChoice old new choice) where
  keeps : (c : Choice) → IsAmong old.asked c → IsAmong new.asked c
  keeps c (has, some) = (λ x h. (adds.asks x).1 (inl (has x h)), some)

  pub asked-more : IsAmong facts choice → AreAsked facts old → AreAsked facts new
  asked-more (are, some) asked = record {
    keys = adds.keys ∙ asked.keys;
    are = λ x h. elim ((adds.asks x).0 h) [ inl was ↦ asked.are x was | inr is ↦ are x is ];
    each = subst (All (IsAmong new.asked)) (sym adds.list) (All-push (IsAmong new.asked) old.list.items choice
        (All-weaker (IsAmong old.asked) (IsAmong new.asked) keeps old.list.items asked.each) (λ x h. (adds.asks x).1 (inr h), some));
  }

-- each of some has a choice
module _ {X : Type 0} (facts : FactParts) (R : X → Choice → Type 0) (are : (x : X) (c : Choice) → R x c → IsAmong facts c) where
  pub each-none : (choices : Choices) → AreAsked facts choices → AddsEach facts R [] choices choices
  unfolding Are
  each-none choices asked = record { added = []; are = refl; list = sym (append-nil choices.list.items); asked = asked }

  pub each-more : (xs : List X) (x : X) (old mid new : Choices) → AddsEach facts R xs old mid → AddsFor R x mid new → AddsEach facts R (xs ++ x ∷ []) old new
  each-more xs x old mid new so_far (choice, is, adds) = record {
    added = so_far.added ++ choice ∷ [];
    are = Are-more R xs so_far.added x choice so_far.are is;
    list = adds.list ∙ ap (λ t. t ++ choice ∷ []) so_far.list ∙ append_assoc old.list.items so_far.added (choice ∷ []);
    asked = asked-more facts mid new choice adds (are x choice is) so_far.asked;
  }

-- ---- circles
AreReported-append : (Has : Fact → Type 0) (before : List (List Arrow)) (xs ys : List Arrow) (a b : List (List Arrow)) →
    AreReported Has before xs a → AreReported Has (before ++ a) ys b → AreReported Has before (xs ++ ys) (a ++ b)
AreReported-append Has before [] ys a b none h =
    subst (λ t. AreReported Has before ys (t ++ b)) (sym none) (subst (λ t. AreReported Has t ys b) (ap (λ t. before ++ t) none ∙ append-nil before) h)
AreReported-append Has before (d ∷ xs) ys a b (inl (left, (circle, rest, shortest, is, reported))) h = inl (
  left,
  (
    circle,
    rest ++ b,
    shortest,
    ap (λ t. t ++ b) is,
    AreReported-append Has (before ++ circle ∷ []) xs ys rest b reported
        (subst (λ t. AreReported Has t ys b) (ap (λ t. before ++ t) is ∙ sym (append_assoc before (circle ∷ []) rest)) h),
  ),
)
AreReported-append Has before (d ∷ xs) ys a b (inr (was, reported)) h = inr (was, AreReported-append Has before xs ys a b reported h)

-- nothing was chosen yet
pub circles-none : (facts : FactParts) (choices : Choices) → choices.asked.keys ≡ facts.keys → ((x : Fact) → ¬ HasFact choices.asked x) →
    choices.list.items ≡ [] → ChoosesCircles facts [] choices
unfolding Are
circles-none facts choices keys nothing empty = record {
  circles = [];
  reported = refl;
  are = empty;
  members = λ d. (λ h. absurd (nothing (Dependency d.start d.end d.kind) h), λ (k, y, l, e, h). absurd (omega (arith, l)));
  asked = record {
    keys = keys;
    are = λ x h. absurd (nothing x h);
    each = subst (All (IsAmong choices.asked)) (sym empty) (All-nil (IsAmong choices.asked));
  };
}

-- a choice for a circle has its members
circle-among : (Has : Fact → Type 0) (circle : List Arrow) (choice : Choice) → IsCircleChoice circle choice → Holds Has (IsMember circle) → Holds Has (IsPart choice) × HasMembers choice
circle-among Has circle (ByWalk walk) (is, some) are =
    (subst (λ w. Holds Has (IsMember w)) (sym is) are, subst (λ w. 0 < length w) (sym is) some)
circle-among Has circle (ByLink l) none are = absurd none
circle-among Has circle (ByBoth walk l) none are = absurd none

circle-members : (circle : List Arrow) (choice : Choice) → IsCircleChoice circle choice → (d : Arrow) → IsPart choice (Dependency d.start d.end d.kind) ↔ Contains circle d
circle-members circle (ByWalk walk) (is, some) d = (subst (λ w. Contains w d) is, subst (λ w. Contains w d) (sym is))
circle-members circle (ByLink l) none d = absurd none
circle-members circle (ByBoth walk l) none d = absurd none

module _ (facts : FactParts) (ds : List Arrow) (d : Arrow) (old new : Choices) (so_far : ChoosesCircles facts ds old) where
  -- the dependency is a member of a circle that was chosen
  circles-pass : DependenciesOf (HasFact old.asked) d → ChoosesCircles facts (ds ++ d ∷ []) old
  circles-pass was = record {
    circles = so_far.circles;
    reported = subst (λ cs. AreReported (HasFact facts) [] (ds ++ d ∷ []) cs) (append-nil so_far.circles)
        (AreReported-append (HasFact facts) [] ds (d ∷ []) so_far.circles [] so_far.reported (inr ((so_far.members d).0 was, refl)));
    are = so_far.are;
    members = so_far.members;
    asked = so_far.asked;
  }

  -- it isn't
  circles-choose : (circle : List Arrow) (choice : Choice) → ¬ DependenciesOf (HasFact old.asked) d → IsShortestFrom (HasFact facts) d circle →
      IsCircleChoice circle choice → AddsChoice old new choice → ChoosesCircles facts (ds ++ d ∷ []) new
  circles-choose circle choice not shortest is adds = record {
    circles = so_far.circles ++ circle ∷ [];
    reported = AreReported-append (HasFact facts) [] ds (d ∷ []) so_far.circles (circle ∷ []) so_far.reported
        (inl ((λ any. not ((so_far.members d).1 any)), (circle, [], shortest, refl, refl)));
    are = subst (Are IsCircleChoice (so_far.circles ++ circle ∷ [])) (sym adds.list) (Are-more IsCircleChoice so_far.circles old.list.items circle choice so_far.are is);
    members = λ e. (
      (λ h. (Any-push (λ c. Contains c e) so_far.circles circle).1 (elim ((adds.asks (Dependency e.start e.end e.kind)).0 h) [
        | inl was ↦ inl ((so_far.members e).0 was)
        | inr part ↦ inr ((circle-members circle choice is e).0 part)
      ])),
      (λ any. (adds.asks (Dependency e.start e.end e.kind)).1 (elim ((Any-push (λ c. Contains c e) so_far.circles circle).0 any) [
        | inl was ↦ inl ((so_far.members e).1 was)
        | inr has ↦ inr ((circle-members circle choice is e).1 has)
      ])),
    );
    asked = asked-more facts old new choice adds (circle-among (HasFact facts) circle choice is (shortest-are (HasFact facts) d circle shortest)) so_far.asked;
  }

  pub circles-more : ChoosesCircle facts d old new → ChoosesCircles facts (ds ++ d ∷ []) new
  circles-more (inl (was, same)) = subst (ChoosesCircles facts (ds ++ d ∷ [])) (sym same) (circles-pass was)
  circles-more (inr (not, (choice, (circle, shortest, is), adds))) = circles-choose circle choice not shortest is adds

-- the same of a shortest one
pub from-among : (Has : Fact → Type 0) (d : Arrow) (choice : Choice) → IsChoiceFrom Has d choice → Holds Has (IsPart choice) × HasMembers choice
from-among Has d choice (circle, shortest, is) = circle-among Has circle choice is (shortest-are Has d circle shortest)

-- ---- doubles and inversions
pub double-among : (Has : Fact → Type 0) (x : Irq × ℕ) (choice : Choice) → IsDoubleChoice Has x choice → Holds Has (IsPart choice) × HasMembers choice
double-among Has x (ByLink l) (is, by) = (link-are Has l by.0, tt)
double-among Has x (ByWalk walk) none = absurd none
double-among Has x (ByBoth walk l) none = absurd none

pub inversion-among : (Has : Fact → Type 0) (x : Irq × (ℕ × ℕ)) (choice : Choice) → IsInversionChoice Has x choice → Holds Has (IsPart choice) × HasMembers choice
inversion-among Has x (ByBoth walk l) (is, by) = (
  λ y part. elim part [
    | inl member ↦ inversion-are Has l.irq l.a l.b (link_by l.b l.a l.enabled_read l.used_read) walk.items by y member
    | inr mark ↦ link-are Has l by.closed.1 y mark
  ],
  tt,
)
inversion-among Has x (ByWalk walk) none = absurd none
inversion-among Has x (ByLink l) none = absurd none
