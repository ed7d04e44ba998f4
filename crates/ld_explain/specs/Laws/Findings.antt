-- The findings of equal facts.
use Rattle.std.specs.Prelude.{[], ◌++◌, ◌∷◌, List, ℕ}
use Rattle.ld_explain.specs.Names.{AreSame, Arrow, Fact, Irq, IsDoubleBy-same, IsShortestFrom-same, IsShortestInversion-same, inl, inr}
use Rattle.ld_explain.specs.Origins.{View}
use Rattle.ld_explain.specs.Findings.{Are, AreFindings, AreReported, IsTheDouble, IsTheInversion, members_of}
use Rattle.ld_explain.specs.Laws.Found.{AreFound-same}
use Rattle.ld_explain.specs.declared.finding.Finding.{Finding}
use Rattle.ld_explain.specs.declared.finding.Finding.TheVariants.{Circle, Double, Inversion}

Are-same : {X Y : Type 0} (R S : X → Y → Type 0) → ((x : X) (y : Y) → R x y → S x y) → (xs : List X) (ys : List Y) → Are R xs ys → Are S xs ys
unfolding Are
Are-same R S same [] ys none = none
Are-same R S same (x ∷ xs) ys (y, rest, is, are, at) = (y, rest, same x y is, Are-same R S same xs rest are, at)

module _ (P Q : Fact → Type 0) (same : AreSame P Q) where
  -- the circles that are reported
  reported-same : (before : List (List Arrow)) (ds : List Arrow) (circles : List (List Arrow)) → AreReported P before ds circles → AreReported Q before ds circles
  reported-same before [] circles none = none
  reported-same before (d ∷ ds) circles (inl (left, (circle, rest, shortest, is, more))) = inl (
    left,
    (circle, rest, IsShortestFrom-same P Q same d circle shortest, is, reported-same (before ++ circle ∷ []) ds rest more),
  )
  reported-same before (d ∷ ds) circles (inr (was, more)) = inr (was, reported-same before ds circles more)

  module _ (view : View) (keys : List ℕ) where
    double-same : (x : Irq × ℕ) (finding : Finding) → IsTheDouble P view x finding → IsTheDouble Q view x finding
    double-same x (Double irq key used enabled) (is, (l, by, first, also)) =
        (is, (l, (IsDoubleBy-same P Q same irq key l).0 by, first, also))
    double-same x (Circle orders gates only) none = none
    double-same x (Inversion irq a b orders used enabled gates) none = none

    inversion-same : (x : Irq × (ℕ × ℕ)) (finding : Finding) → IsTheInversion P view keys x finding → IsTheInversion Q view keys x finding
    inversion-same x (Inversion irq a b orders used enabled gates) (is, (l, by, are, first, also, gates_are)) =
        (is, (l, IsShortestInversion-same P Q same irq a b l (members_of orders.items) by, are, first, also, gates_are))
    inversion-same x (Circle orders gates only) none = none
    inversion-same x (Double irq key used enabled) none = none

    pub AreFindings-same : (findings : List Finding) → AreFindings P view keys findings → AreFindings Q view keys findings
    AreFindings-same findings are = record {
      found = are.found;
      found_are = AreFound-same P Q same keys are.found are.found_are;
      walks = are.walks;
      walks_are = reported-same [] are.found.circles are.walks are.walks_are;
      circles = are.circles;
      doubles = are.doubles;
      inversions = are.inversions;
      circles_are = are.circles_are;
      doubles_are = Are-same (IsTheDouble P view) (IsTheDouble Q view) double-same are.found.doubles are.doubles are.doubles_are;
      inversions_are = Are-same (IsTheInversion P view keys) (IsTheInversion Q view keys) inversion-same are.found.inversions are.inversions are.inversions_are;
      are = are.are;
    }
