use Rattle.lockdep.proofs.Names.{◌≡◌, Line, asked_by, asked_of, subst, sym}
use Rattle.lockdep.proofs.request.request_of.Goals as goal

pub returns-in-Check : goal.returns-in-Check
returns-in-Check c = subst (λ (line : Line). asked_of c.output_request.result ≡ asked_by line)
    (sym c.in-Check.is) (rw c.as_slice.ensures.value at c.output_request.ensures)

pub returns-in-Graph : goal.returns-in-Graph
returns-in-Graph c = subst (λ (line : Line). asked_of c.output_request-in-Graph.result ≡ asked_by line)
    (sym c.in-Graph.is) (rw c.as_slice-in-Graph.ensures.value at c.output_request-in-Graph.ensures)

pub returns-in-Condense : goal.returns-in-Condense
returns-in-Condense c = subst (λ (line : Line). asked_of c.output_request-in-Condense.result ≡ asked_by line)
    (sym c.in-Condense.is) (rw c.as_slice-in-Condense.ensures.value at c.output_request-in-Condense.ensures)

pub returns-in-Schedule : goal.returns-in-Schedule
returns-in-Schedule c = subst (λ (line : Line). asked_of c.schedule_request.result ≡ asked_by line)
    (sym c.in-Schedule.is) (rw c.as_slice-in-Schedule.ensures.value at c.schedule_request.ensures)
