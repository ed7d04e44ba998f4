use Rattle.ld_explain.proofs.Names.{[], HasFact, IfOk-weaker, refl, view_of}
use Rattle.ld_explain.specs.Findings.{Are}
use Rattle.ld_explain.proofs.ExplainingLemmas.{findings-are}
use Rattle.ld_explain.proofs.FindingLemmas.{AreFound-nothing}
use Rattle.ld_explain.proofs.findings.findings_of.Goals as goal

pub returns-then-is_clean : goal.returns-then-is_clean
unfolding Are
returns-then-is_clean c = record {
  found = record { circles = []; doubles = []; inversions = [] };
  found_are = AreFound-nothing (HasFact c.args.settled.now) (c.is_clean.ensures.0 c.if-is_clean.true) c.args.keys.now;
  walks = [];
  walks_are = refl;
  circles = [];
  doubles = [];
  inversions = [];
  circles_are = refl;
  doubles_are = refl;
  inversions_are = refl;
  are = c.new.ensures.items;
}

pub returns : goal.returns
returns c = IfOk-weaker c.findings.result _ _ (λ findings explained.
    findings-are c.args.settled.now (view_of c.args.naming c.args.traces.now) c.args.keys.now c.in_ok-found.found c.in_ok-choices.choices findings.items c.in_ok-found.ensures
    c.in_ok-choices.ensures (rw c.as_slice.ensures.value at explained)) c.findings.ensures
