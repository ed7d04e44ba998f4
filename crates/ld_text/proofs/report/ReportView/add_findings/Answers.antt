use Rattle.ld_text.proofs.GroupLemmas.{GrowsBy-is, GrowsBy-none, GrowsBy-then}
use Rattle.ld_text.proofs.report.ReportView.add_findings.Goals as goal

pub returns : goal.returns
returns c =
    GrowsBy-then _ _ _ _ _ (GrowsBy-is _ _ _ (rw c.circles.ensures at c.in_ok-add_circles.ensures))
    (GrowsBy-then _ _ _ _ _ c.in_ok-add_because.ensures
    (GrowsBy-then _ _ _ _ _ (GrowsBy-is _ _ _ (rw c.doubles.ensures at c.in_ok-add_doubles.ensures))
    (GrowsBy-then _ _ _ _ _ (GrowsBy-is _ _ _ (rw c.inversions.ensures at c.in_ok-add_inversions.ensures)) (GrowsBy-none _))))
