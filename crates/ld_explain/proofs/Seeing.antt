-- What makes a finding at a level, and what is chosen for it.
use Rattle.ld_explain.proofs.Names.{[], ◌++◌, ◌↔◌, ◌∙◌, ◌∷◌, ◌≡◌, ◌≤◌, AddsSeen, All, All-nil, All-push, All-weaker, Asker, Bor, Case, Choice, Circle, Dependency, Double, Fact, FactBelow, FactParts, Finding, HasBetween, HasFact, HasMembers, Holds, IfSome, Inversion, IsCaseAt, IsChoiceFor, IsDouble, IsDoubleChoice, IsInversion, IsInversionChoice, IsNestedChoice, IsPart, IsPlan, IsSeenAmong, IsSeenAs, IsSeenAt, IsSomeAnd, Levels, List, Makes, Marked, None, Option, Own, Plan, Seen, SeenHas, Some, arith, inl, inr, level_by, level_of, levels_of, slice_index, subst, sym, true, ℕ}
use Rattle.ld_explain.specs.Findings.{Are}
use Rattle.ld_explain.specs.declared.questions.Seen.TheVariants as seen
use Rattle.ld_explain.proofs.ChoosingLemmas.{Are-more, double-among, from-among, inversion-among}
use Rattle.ld_explain.specs.declared.asker.Case.TheVariants as case

-- what makes a finding at a level is seen there
pub case-seen : (asker : Asker) (finding : Finding) (c : Case) → IsCaseAt asker finding c →
    IsSeenAt asker.keys.now (HasFact asker.locks.now) (slice_index asker.type_of.now) (level_of asker) finding
case-seen asker (Circle orders gates only) (case.Circle e) (has, on, member) = (e, has, on, member)
case-seen asker (Double irq key used enabled) (case.Double state k) (same, there, (is, type)) = (k, there, is, type)
case-seen asker (Inversion irq a b orders used enabled gates) (case.Inversion state locks) (same, there, also, (is, type, other)) =
    (locks.0, locks.1, there, also, is, type, other)
case-seen asker (Circle orders gates only) (case.Double state k) none = absurd none
case-seen asker (Circle orders gates only) (case.Inversion state locks) none = absurd none
case-seen asker (Double irq key used enabled) (case.Circle e) none = absurd none
case-seen asker (Double irq key used enabled) (case.Inversion state locks) none = absurd none
case-seen asker (Inversion irq a b orders used enabled gates) (case.Circle e) none = absurd none
case-seen asker (Inversion irq a b orders used enabled gates) (case.Double state k) none = absurd none

-- between single locks it makes one in the facts, and what is chosen for that is chosen for the finding
module _ (facts : Bor FactParts) (types keys : Bor (List ℕ)) where
  abbrev here : Asker
  here = record { locks = facts; settled = facts; naming = Own; type_of = types; keys = keys }

  pub case-makes : (finding : Finding) (c : Case) → IsCaseAt here finding c → Makes (HasFact facts.now) c
  case-makes (Circle orders gates only) (case.Circle e) (has, on, member) = on
  case-makes (Double irq key used enabled) (case.Double state k) (same, there, (is, type)) = subst (λ i. IsDouble (HasFact facts.now) i k) (sym same) is
  case-makes (Inversion irq a b orders used enabled gates) (case.Inversion state locks) (same, there, also, (is, type, other)) =
      subst (λ i. IsInversion (HasFact facts.now) i locks.0 locks.1) (sym same) is
  case-makes (Circle orders gates only) (case.Double state k) none = absurd none
  case-makes (Circle orders gates only) (case.Inversion state locks) none = absurd none
  case-makes (Double irq key used enabled) (case.Circle e) none = absurd none
  case-makes (Double irq key used enabled) (case.Inversion state locks) none = absurd none
  case-makes (Inversion irq a b orders used enabled gates) (case.Circle e) none = absurd none
  case-makes (Inversion irq a b orders used enabled gates) (case.Double state k) none = absurd none

  pub case-nested : (finding : Finding) (c : Case) (choice : Choice) → IsCaseAt here finding c → IsChoiceFor (HasFact facts.now) c choice →
      IsNestedChoice (HasFact facts.now) keys.now (slice_index types.now) finding choice
  case-nested (Circle orders gates only) (case.Circle e) choice (has, on, member) for = (e, member, for)
  case-nested (Double irq key used enabled) (case.Double state k) choice (same, there, (is, type)) for =
      (k, there, type, subst (λ i. IsDoubleChoice (HasFact facts.now) (i, k) choice) same for)
  case-nested (Inversion irq a b orders used enabled gates) (case.Inversion state locks) choice (same, there, also, (is, type, other)) for =
      (locks.0, locks.1, there, also, type, other, subst (λ i. IsInversionChoice (HasFact facts.now) (i, locks) choice) same for)
  case-nested (Circle orders gates only) (case.Double state k) choice none for = absurd none
  case-nested (Circle orders gates only) (case.Inversion state locks) choice none for = absurd none
  case-nested (Double irq key used enabled) (case.Circle e) choice none for = absurd none
  case-nested (Double irq key used enabled) (case.Inversion state locks) choice none for = absurd none
  case-nested (Inversion irq a b orders used enabled gates) (case.Circle e) choice none for = absurd none
  case-nested (Inversion irq a b orders used enabled gates) (case.Double state k) choice none for = absurd none

-- a level that is settled has its facts
pub seen-by : (keys : List ℕ) (type name : ℕ → ℕ) (finding : Finding) (locks level : Option (Bor FactParts)) (l s : Bor FactParts) →
    locks ≡ Some l → level ≡ Some s →
    IsSeenAt keys (level_by locks (λ k. k)).Has type (level_by level name) finding
    ↔ IsSeenAt keys (HasFact l.now) type (record { is_settled = true; Has = HasFact s.now; name = name }) finding
seen-by keys type name finding locks level l s l_is s_is =
    subst (λ o. IsSeenAt keys (level_by o (λ k. k)).Has type (level_by level name) finding
    ↔ IsSeenAt keys (HasFact l.now) type (record { is_settled = true; Has = HasFact s.now; name = name }) finding) (sym l_is)
    (subst (λ o. IsSeenAt keys (HasFact l.now) type (level_by o name) finding
    ↔ IsSeenAt keys (HasFact l.now) type (record { is_settled = true; Has = HasFact s.now; name = name }) finding) (sym s_is) ((λ h. h), (λ h. h)))

pub nested-by : (keys : List ℕ) (type : ℕ → ℕ) (finding : Finding) (choice : Choice) (level : Option (Bor FactParts)) (s : Bor FactParts) → level ≡ Some s →
    IsNestedChoice (HasFact s.now) keys type finding choice → IsNestedChoice (level_by level (λ k. k)).Has keys type finding choice
nested-by keys type finding choice level s is h = subst (λ o. IsNestedChoice (level_by o (λ k. k)).Has keys type finding choice) (sym is) h

-- ---- what is asked about
nested-are : (Has : Fact → Type 0) (keys : List ℕ) (type : ℕ → ℕ) (finding : Finding) (choice : Choice) → IsNestedChoice Has keys type finding choice →
    Holds Has (IsPart choice) × HasMembers choice
nested-are Has keys type (Circle orders gates only) choice (e, member, from) = from-among Has e choice from
nested-are Has keys type (Double irq key used enabled) choice (k, there, is, for) = double-among Has (irq, k) choice for
nested-are Has keys type (Inversion irq a b orders used enabled gates) choice (k, l, there, also, is, other, for) =
    inversion-among Has (irq, (k, l)) choice for

module _ (levels : Levels) (keys : List ℕ) (finding : Finding) where
  pub seen-are : (s : Seen) → IsSeenAs (levels_of levels) keys finding s → Holds (HasBetween levels) (SeenHas s)
  seen-are (seen.Locks choice) nested x part = inl ((nested-are (levels_of levels).sure.Has keys (levels_of levels).type finding choice nested).0 x part)
  seen-are (seen.Perhaps choice) (unseen, nested) x part =
      inr ((nested-are (levels_of levels).locks.Has keys (levels_of levels).type finding choice nested).0 x part)
  seen-are seen.Unknown is x none = absurd none
  seen-are seen.Classes is x none = absurd none
  seen-are seen.Types is x none = absurd none

  itself : (s : Seen) (old new : Plan) → IsSeenAs (levels_of levels) keys finding s → AddsSeen old new s → IsSeenAmong new.asked s
  itself (seen.Locks choice) old new nested adds =
      ((λ x h. (adds.asks x).1 (inr h)), (nested-are (levels_of levels).sure.Has keys (levels_of levels).type finding choice nested).1)
  itself (seen.Perhaps choice) old new (unseen, nested) adds =
      ((λ x h. (adds.asks x).1 (inr h)), (nested-are (levels_of levels).locks.Has keys (levels_of levels).type finding choice nested).1)
  itself seen.Unknown old new is adds = tt
  itself seen.Classes old new is adds = tt
  itself seen.Types old new is adds = tt

keeps : (old new : FactParts) → Holds (HasFact new) (HasFact old) → (s : Seen) → IsSeenAmong old s → IsSeenAmong new s
keeps old new more (seen.Locks choice) (are, some) = ((λ x h. more x (are x h)), some)
keeps old new more (seen.Perhaps choice) (are, some) = ((λ x h. more x (are x h)), some)
keeps old new more seen.Unknown is = tt
keeps old new more seen.Classes is = tt
keeps old new more seen.Types is = tt

module _ (levels : Levels) (below : ℕ) (keys : List ℕ) where
  pub plan-none : (plan : Plan) → plan.asked.keys ≡ below → ((x : Fact) → ¬ HasFact plan.asked x) → plan.list.items ≡ [] → IsPlan levels below keys [] plan
  unfolding Are
  plan-none plan keys_are nothing empty = record {
    keys_are = keys_are;
    has = λ x h. absurd (nothing x h);
    seen = empty;
    each = subst (All (IsSeenAmong plan.asked)) (sym empty) (All-nil (IsSeenAmong plan.asked));
  }

  pub plan-more : (findings : List Finding) (finding : Finding) (s : Seen) (old new : Plan) → IsPlan levels below keys findings old →
      IsSeenAs (levels_of levels) keys finding s → AddsSeen old new s → IsPlan levels below keys (findings ++ finding ∷ []) new
  plan-more findings finding s old new was is adds = record {
    keys_are = adds.keys ∙ was.keys_are;
    has = λ x h. elim ((adds.asks x).0 h) [ inl there ↦ was.has x there | inr part ↦ seen-are levels keys finding s is x part ];
    seen = subst (Are (IsSeenAs (levels_of levels) keys) (findings ++ finding ∷ [])) (sym adds.list)
        (Are-more (IsSeenAs (levels_of levels) keys) findings old.list.items finding s was.seen is);
    each = subst (All (IsSeenAmong new.asked)) (sym adds.list) (All-push (IsSeenAmong new.asked) old.list.items s
        (All-weaker (IsSeenAmong old.asked) (IsSeenAmong new.asked) (keeps old.asked new.asked (λ x h. (adds.asks x).1 (inl h))) old.list.items was.each)
        (itself levels keys finding s old new is adds));
  }

-- ---- keys
below-more : (m n : ℕ) → m ≤ n → (x : Fact) → FactBelow m x → FactBelow n x
below-more m n l (Dependency from to kind) (a, b) = (omega (arith, a, l), omega (arith, b, l))
below-more m n l (Marked key mark) a = omega (arith, a, l)

level-below : (level : Option (Bor FactParts)) (m n : ℕ) → IfSome level (λ s. s.now.keys ≤ m) → m ≤ n → (x : Fact) →
    IsSomeAnd level (λ s. HasFact s.now x) → FactBelow n x
level-below None m n few l x none = absurd none
level-below (Some s) m n few l x has = below-more s.now.keys n (omega (arith, few, l)) x has.0

pub between-below : (levels : Levels) (a b n : ℕ) → IfSome levels.sure (λ s. s.now.keys ≤ a) → IfSome levels.locks (λ s. s.now.keys ≤ b) → a ≤ n → b ≤ n →
    Holds (FactBelow n) (HasBetween levels)
between-below levels a b n of_sure of_locks la lb x (inl sure) = level-below levels.sure a n of_sure la x sure
between-below levels a b n of_sure of_locks la lb x (inr locks) = level-below levels.locks b n of_locks lb x locks
