-- Verdicts of what was seen and is explained.
use Rattle.ld_explain.proofs.Names.{[], ◌∷◌, ◌≡◌, All, All-cons, All-nil, AllLevels, AreFindings, AreVerdicts, Between, Choice, Circle, Double, Err, Explains, ExplainsSeen, Fact, Finding, IfOk, Inversion, IsBetween, IsNestedChoice, IsNestedIn, IsPlan, IsSeenAs, Levels, List, Ok, Plan, Result, SaysSeen, Seen, Verdict, View, ap, arith, length, levels_of, map, subst, sym, ℕ}
use Rattle.ld_explain.specs.Findings.{Are}
use Rattle.ld_explain.specs.declared.questions.Seen.TheVariants as seen
use Rattle.ld_explain.proofs.ExplainingLemmas.{Are-then, circle-is, double-is, inversion-is}

nested-is : (Has : Fact → Type 0) (view : View) (keys : List ℕ) (type : ℕ → ℕ) (finding : Finding) (choice : Choice) (nested : Finding) →
    IsNestedChoice Has keys type finding choice → Explains view keys choice nested → IsNestedIn Has view keys type finding nested
nested-is Has view keys type (Circle orders gates only) choice nested (e, member, (circle, shortest, is)) explains =
    (e, member, circle, shortest, circle-is Has view keys circle choice nested is explains)
nested-is Has view keys type (Double irq key used enabled) choice nested (k, there, is, for) explains =
    (k, there, is, double-is Has view keys (irq, k) choice nested for explains)
nested-is Has view keys type (Inversion irq a b orders used enabled gates) choice nested (k, l, there, also, is, other, for) explains =
    (k, l, there, also, is, other, inversion-is Has view keys (irq, (k, l)) choice nested for explains)

module _ (levels : AllLevels) (view : View) (keys : List ℕ) where
  between-is : (finding : Finding) (s : Seen) (b : Between) → IsSeenAs levels keys finding s → ExplainsSeen view keys s b → IsBetween levels view keys finding b
  between-is finding (seen.Locks choice) b nested (n, is, explains) =
      subst (IsBetween levels view keys finding) (sym is) (nested-is levels.sure.Has view keys levels.type finding choice n nested explains)
  between-is finding (seen.Perhaps choice) b (unseen, nested) (n, is, explains) =
      subst (IsBetween levels view keys finding) (sym is) (unseen, nested-is levels.locks.Has view keys levels.type finding choice n nested explains)
  between-is finding seen.Unknown b so is = subst (IsBetween levels view keys finding) (sym is) so
  between-is finding seen.Classes b so is = subst (IsBetween levels view keys finding) (sym is) so
  between-is finding seen.Types b so is = subst (IsBetween levels view keys finding) (sym is) so

pub Are-length : {X Y : Type 0} (R : X → Y → Type 0) (xs : List X) (ys : List Y) → Are R xs ys → length xs ≡ length ys
unfolding Are
Are-length R [] ys none = sym (ap length none)
Are-length R (x ∷ xs) ys (y, rest, is, are, at) = omega (arith, Are-length R xs rest are, ap length at)

-- what two clauses say of a result
pub IfOk-both : {X E : Type 0} (r : Result X E) (P Q R : X → Type 0) → ((x : X) → P x → Q x → R x) → IfOk r P → IfOk r Q → IfOk r R
IfOk-both (Ok x) P Q R both p q = both x p q
IfOk-both (Err e) P Q R both p q = tt

-- what each thing of a list says of its own
own : {X Y : Type 0} (T : X → Y → Type 0) (f : Y → X) (ys : List Y) → Are T (map f ys) ys → All (λ y. T (f y) y) ys
unfolding Are
own T f [] none = All-nil (λ y. T (f y) y)
own {X} {Y} T f (y ∷ ys) (first, rest, is, are, at) =
    let same : first ≡ y = cc in
    let others : rest ≡ ys = cc in
    All-cons (λ z. T (f z) z) y ys (subst (T (f y)) same is) (own T f ys (subst (Are T (map f ys)) others are))

module _ (Types : Fact → Type 0) (types : View) (type_keys : List ℕ) (levels : Levels) (view : View) (keys : List ℕ) where
  pub verdicts-none : AreFindings Types types type_keys [] → AreVerdicts Types types type_keys (levels_of levels) view keys []
  verdicts-none are = record { findings = are; between = All-nil (λ v. IsBetween (levels_of levels) view keys v.finding v.between) }

  pub verdicts-are : (findings : List Finding) (below : ℕ) (plan : Plan) (verdicts : List Verdict) → AreFindings Types types type_keys findings →
      IsPlan levels below keys findings plan → map (λ (v : Verdict). v.finding) verdicts ≡ findings → Are (SaysSeen view keys) plan.list.items verdicts →
      AreVerdicts Types types type_keys (levels_of levels) view keys verdicts
  verdicts-are findings below plan verdicts are planned found said = record {
    findings = subst (AreFindings Types types type_keys) (sym found) are;
    between = own (λ finding (v : Verdict). IsBetween (levels_of levels) view keys finding v.between) (λ (v : Verdict). v.finding) verdicts
        (subst (λ fs. Are (λ finding (v : Verdict). IsBetween (levels_of levels) view keys finding v.between) fs verdicts) (sym found)
        (Are-then (IsSeenAs (levels_of levels) keys) (SaysSeen view keys) (λ finding (v : Verdict). IsBetween (levels_of levels) view keys finding v.between)
        (λ finding s (v : Verdict). between-is (levels_of levels) view keys finding s v.between) findings plan.list.items verdicts planned.seen said));
  }
