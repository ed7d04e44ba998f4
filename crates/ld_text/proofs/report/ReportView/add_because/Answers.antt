use Rattle.ld_text.proofs.Names.{[], HasFact, IsShortestCircle, append-nil, because_line, inl, inr, on_ok_weaker, refl, subst, sym}
use Rattle.ld_text.proofs.report.ReportView.add_because.Goals as goal

pub returns-in-Some : goal.returns-in-Some
returns-in-Some c = on_ok_weaker c.add_line.result (λ tells. record {
  part = because_line c.args.self.names.now.names tells.first tells.rest;
  shows = inl record {
    first = tells.first;
    rest = tells.rest;
    shortest = subst (IsShortestCircle (HasFact c.args.self.settled.now)) tells.turned
        (c.shortest_circles_turn.ensures c.args.self.settled.now tells.front tells.back (subst (IsShortestCircle (HasFact c.args.self.settled.now)) tells.was c.in-Some.ensures.some));
    least = tells.least;
    line_is = refl;
  };
  grew = tells.grew;
}) c.add_line.ensures

pub returns-in-None : goal.returns-in-None
returns-in-None c = record { part = []; shows = inr (c.in-None.ensures.none.0 refl, refl); grew = sym (append-nil _) }
