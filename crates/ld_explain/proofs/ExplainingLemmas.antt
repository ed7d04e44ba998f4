-- Findings of what was chosen.
use Rattle.ld_explain.proofs.Names.{[], ◌++◌, ◌<◌, ◌∙◌, ◌∷◌, ◌≡◌, ◌≤◌, All, All-contains, All-nil, All-push, AreChoices, AreFindings, AreFound, AreGates, AreOrders, AreThose, Arrow, ByBoth, ByLink, ByWalk, Choice, Choices, Circle, Contains, Contains-head, Contains-later, Contains-push_cases, Double, Enabled, Explains, Fact, FactParts, Finding, FoundParts, GateNote, GuardsTwo, HasFact, Inversion, Irq, IsAloneIn, IsCircle, IsCircleChoice, IsDoubleChoice, IsFirst, IsGate, IsInversionChoice, IsShortestInversion, IsTheDouble, IsTheInversion, List, Order, UsedIn, View, ap, append-nil, arith, inl, inr, is_r-kind_of_letters, is_s-kind_of_letters, length, link_by, map, map-append, refl, slice_index_or, subst, suc, sym, zero, ℕ}
use Rattle.ld_explain.specs.Findings.{Are}
use Rattle.ld_facts.specs.declared.fact.Fact.TheVariants as fact
use Rattle.ld_explain.proofs.FindingLemmas.{AreThose-append, AreThose-nothing}

-- ---- origins
module _ (view : View) where
  pub orders-more : (walk : List Arrow) (d : Arrow) (old new : List Order) (o : Order) → AreOrders view walk old → o.dependency ≡ d →
      IsFirst view (fact.Dependency d.start d.end d.kind) o.origin → new ≡ old ++ o ∷ [] → AreOrders view (walk ++ d ∷ []) new
  orders-more walk d old new o were same first is = subst (AreOrders view (walk ++ d ∷ [])) (sym is) record {
    members = map-append (λ x. x.dependency) old (o ∷ []) ∙ ap (λ t. t ++ o.dependency ∷ []) were.members ∙ ap (λ x. walk ++ x ∷ []) same;
    first = All-push (λ x. IsFirst view (fact.Dependency x.dependency.start x.dependency.end x.dependency.kind) x.origin) old o were.first
        (subst (λ x. IsFirst view (fact.Dependency x.start x.end x.kind) o.origin) (sym same) first);
  }

-- ---- gates
AreThose-unique : {X : Type 0} (P : X → Type 0) (xs a b : List X) → AreThose P xs a → AreThose P xs b → a ≡ b
AreThose-unique P [] a b one other = one ∙ sym other
AreThose-unique P (x ∷ xs) a b (inl (p, (rest, is, more))) (inl (q, (others, at, all))) =
    is ∙ ap (λ t. x ∷ t) (AreThose-unique P xs rest others more all) ∙ sym at
AreThose-unique P (x ∷ xs) a b (inl (p, _)) (inr (not, _)) = absurd (not p)
AreThose-unique P (x ∷ xs) a b (inr (not, _)) (inl (p, _)) = absurd (not p)
AreThose-unique P (x ∷ xs) a b (inr (not, more)) (inr (isnt, all)) = AreThose-unique P xs a b more all

-- where it holds of none, none are those
AreThose-none : {X : Type 0} (P : X → Type 0) (xs those : List X) → ((x : X) → Contains xs x → ¬ P x) → AreThose P xs those → those ≡ []
AreThose-none P [] those never none = none
AreThose-none P (x ∷ xs) those never (inl (p, _)) = absurd (never x (Contains-head x xs) p)
AreThose-none P (x ∷ xs) those never (inr (not, more)) = AreThose-none P xs those (λ y has. never y (Contains-later x xs y has)) more

module _ (view : View) (walk : List Arrow) where
  -- no key is a gate
  pub gates-nowhere : All (λ d. (gate : ℕ) → ¬ IsGate view d gate) walk → (keys : List ℕ) → AreGates view keys walk []
  gates-nowhere never keys = record { keys_are = AreThose-nothing (GuardsTwo view walk) no_two keys; guarded = All-nil _ }
    where
      no_two : (key : ℕ) → ¬ GuardsTwo view walk key
      no_two key (guarded, are, two) =
          let nothing : guarded ≡ [] = AreThose-none (λ d. IsGate view d key) walk guarded
          (λ d has. All-contains (λ x. (gate : ℕ) → ¬ IsGate view x gate) walk d never has key) are in
          absurd (omega (arith, two, ap length nothing))

  module _ (keys : List ℕ) (key : ℕ) (guarded : List Arrow) (are : AreThose (λ d. IsGate view d key) walk guarded) (gates : List GateNote) (were : AreGates view keys walk gates) where
    -- one key more, which is a gate of too few members
    pub gates-pass : length guarded < 2 → AreGates view (keys ++ key ∷ []) walk gates
    gates-pass few = record {
      keys_are = subst (AreThose (GuardsTwo view walk) (keys ++ key ∷ [])) (append-nil (map (λ g. g.key) gates))
          (AreThose-append (GuardsTwo view walk) keys (key ∷ []) (map (λ g. g.key) gates) [] were.keys_are (inr (no_two, refl)));
      guarded = were.guarded;
    }
      where
        no_two : ¬ GuardsTwo view walk key
        no_two (others, those, two) = absurd (omega (arith, few, two, ap length (AreThose-unique (λ d. IsGate view d key) walk guarded others are those)))

    -- which is one of enough
    pub gates-more : 2 ≤ length guarded → (note : GateNote) (new : List GateNote) → note.key ≡ key → note.guarded.items ≡ guarded → new ≡ gates ++ note ∷ [] →
        AreGates view (keys ++ key ∷ []) walk new
    gates-more enough note new key_is guarded_is is = subst (AreGates view (keys ++ key ∷ []) walk) (sym is) record {
      keys_are = subst (AreThose (GuardsTwo view walk) (keys ++ key ∷ [])) (sym (map-append (λ g. g.key) gates (note ∷ []) ∙ ap (λ k. map (λ g. g.key) gates ++ k ∷ []) key_is))
          (AreThose-append (GuardsTwo view walk) keys (key ∷ []) (map (λ g. g.key) gates) (key ∷ []) were.keys_are (inl ((guarded, are, enough), ([], refl, refl))));
      guarded = All-push (λ g. AreThose (λ d. IsGate view d g.key) walk g.guarded.items) gates note were.guarded
          (subst (λ k. AreThose (λ d. IsGate view d k) walk note.guarded.items) (sym key_is) (subst (AreThose (λ d. IsGate view d key) walk) (sym guarded_is) are));
    }

-- ---- one trace alone
module _ (view : View) (trace : ℕ) where
  pub alone-more : (walk : List Arrow) (d : Arrow) → IsAloneIn view walk trace → IsAloneIn view (d ∷ []) trace → IsAloneIn view (walk ++ d ∷ []) trace
  alone-more walk d before one e has = elim (Contains-push_cases walk d e has) [
    | inl was ↦ before e was
    | inr same ↦ one e (0, let l : 0 < length (d ∷ []) = omega arith in l, same)
  ]

  pub alone-member : (walk : List Arrow) (d : Arrow) → Contains walk d → IsAloneIn view walk trace → IsAloneIn view (d ∷ []) trace
  alone-member walk d member alone e (k, l, at) = alone e (subst (Contains walk) (only k l at) member)
    where
      only : (k : ℕ) → k < length (d ∷ []) → slice_index_or (d ∷ []) k e ≡ e → d ≡ e
      only zero l at = at
      only (suc k) l at = absurd (omega (arith, l))

-- ---- lists side by side
pub Are-split : {X Y : Type 0} (R : X → Y → Type 0) (xs more : List X) (ys : List Y) → Are R (xs ++ more) ys →
    (a : List Y) × (b : List Y) × Are R xs a × Are R more b × (ys ≡ a ++ b)
unfolding Are
Are-split R [] more ys are = ([], ys, refl, are, refl)
Are-split R (x ∷ xs) more ys (y, rest, is, are, at) =
    let (a, b, one, other, both) = Are-split R xs more rest are in (y ∷ a, b, (y, a, is, one, refl), other, at ∙ ap (λ t. y ∷ t) both)

pub Are-then : {X Y Z : Type 0} (R : X → Y → Type 0) (S : Y → Z → Type 0) (T : X → Z → Type 0) → ((x : X) (y : Y) (z : Z) → R x y → S y z → T x z) →
    (xs : List X) (ys : List Y) (zs : List Z) → Are R xs ys → Are S ys zs → Are T xs zs
unfolding Are
Are-then R S T both [] ys zs none then = subst (λ t. Are S t zs) none then
Are-then R S T both (x ∷ xs) ys zs (y, rest, r, are, is) then =
    let (z, more, s, others, at) = subst (λ t. Are S t zs) is then in (z, more, both x y z r s, Are-then R S T both xs rest more are others, at)

-- ---- the findings of choices
module _ (Has : Fact → Type 0) (view : View) (keys : List ℕ) where
  pub circle-is : (walk : List Arrow) (choice : Choice) (finding : Finding) → IsCircleChoice walk choice → Explains view keys choice finding → IsCircle view keys walk finding
  circle-is walk (ByWalk w) finding (is, some) explains = subst (λ x. IsCircle view keys x finding) is explains
  circle-is walk (ByLink l) finding none explains = absurd none
  circle-is walk (ByBoth w l) finding none explains = absurd none

  pub double-is : (x : Irq × ℕ) (choice : Choice) (finding : Finding) → IsDoubleChoice Has x choice → Explains view keys choice finding → IsTheDouble Has view x finding
  double-is x (ByLink l) (Double irq key used enabled) (is, by) (irq_is, key_is, first, also) =
      subst (λ i. IsTheDouble Has view x (Double i key used enabled)) (sym irq_is) (subst (λ k. IsTheDouble Has view x (Double l.irq k used enabled)) (sym key_is) (
        is,
        (
          link_by l.b l.a l.enabled_read l.used_read,
          by,
          subst (λ r. IsFirst view (fact.Marked l.a (UsedIn l.irq r)) used) (sym (is_r-kind_of_letters l.enabled_read l.used_read)) first,
          subst (λ s. IsFirst view (fact.Marked l.a (Enabled l.irq s)) enabled) (sym (is_s-kind_of_letters l.enabled_read l.used_read))
              (subst (λ k. IsFirst view (fact.Marked k (Enabled l.irq l.enabled_read)) enabled) by.1 also),
        ),
      ))
  double-is x (ByLink l) (Circle orders gates only) by none = absurd none
  double-is x (ByLink l) (Inversion irq a b orders used enabled gates) by none = absurd none
  double-is x (ByWalk w) finding none explains = absurd none
  double-is x (ByBoth w l) finding none explains = absurd none

  pub inversion-is : (x : Irq × (ℕ × ℕ)) (choice : Choice) (finding : Finding) → IsInversionChoice Has x choice → Explains view keys choice finding → IsTheInversion Has view keys x finding
  inversion-is x (ByBoth w l) (Inversion irq a b orders used enabled gates) (is, by) (irq_is, a_is, b_is, are, first, also, gates_are) =
      subst (λ i. IsTheInversion Has view keys x (Inversion i a b orders used enabled gates)) (sym irq_is)
      (subst (λ k. IsTheInversion Has view keys x (Inversion l.irq k b orders used enabled gates)) (sym a_is)
      (subst (λ k. IsTheInversion Has view keys x (Inversion l.irq l.a k orders used enabled gates)) (sym b_is) (
        is,
        (
          link_by l.b l.a l.enabled_read l.used_read,
          subst (IsShortestInversion Has l.irq l.a l.b (link_by l.b l.a l.enabled_read l.used_read)) (sym are.members) by,
          subst (λ walk. AreOrders view walk orders.items) (sym are.members) are,
          subst (λ r. IsFirst view (fact.Marked l.a (UsedIn l.irq r)) used) (sym (is_r-kind_of_letters l.enabled_read l.used_read)) first,
          subst (λ s. IsFirst view (fact.Marked l.b (Enabled l.irq s)) enabled) (sym (is_s-kind_of_letters l.enabled_read l.used_read)) also,
          subst (λ walk. AreGates view keys walk gates.items) (sym are.members) gates_are,
        ),
      )))
  inversion-is x (ByBoth w l) (Circle orders gates only) by none = absurd none
  inversion-is x (ByBoth w l) (Double irq key used enabled) by none = absurd none
  inversion-is x (ByWalk w) finding none explains = absurd none
  inversion-is x (ByLink l) finding none explains = absurd none

-- what was chosen for all that was found, explained
pub findings-are : (facts : FactParts) (view : View) (keys : List ℕ) (found : FoundParts) (choices : Choices) (findings : List Finding) →
    AreFound (HasFact facts) keys found → AreChoices facts found choices → Are (Explains view keys) choices.list.items findings →
    AreFindings (HasFact facts) view keys findings
findings-are facts view keys found choices findings found_are are explained =
    let Has = HasFact facts in
    let R = Explains view keys in
    let (circles, others, first, more, is) = Are-split R are.circles (are.doubles ++ are.inversions) findings (subst (λ cs. Are R cs findings) are.list explained) in
    let (doubles, inversions, second, third, rest) = Are-split R are.doubles are.inversions others more in
    record {
      found = found;
      found_are = found_are;
      walks = are.walks;
      walks_are = are.walks_are;
      circles = circles;
      doubles = doubles;
      inversions = inversions;
      circles_are = Are-then IsCircleChoice R (IsCircle view keys) (circle-is Has view keys) are.walks are.circles circles are.circles_are first;
      doubles_are = Are-then (IsDoubleChoice Has) R (IsTheDouble Has view) (double-is Has view keys) found.doubles are.doubles doubles are.doubles_are second;
      inversions_are = Are-then (IsInversionChoice Has) R (IsTheInversion Has view keys) (inversion-is Has view keys) found.inversions are.inversions inversions are.inversions_are third;
      are = is ∙ ap (λ t. circles ++ t) rest;
    }
