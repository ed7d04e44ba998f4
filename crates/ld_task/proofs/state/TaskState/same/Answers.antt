use Rattle.ld_task.proofs.StateEquality.{same_by}
use Rattle.ld_task.proofs.state.TaskState.same.Goals as goal

pub returns : goal.returns
returns c =
    rw (← c.self.view_is, ← c.other.view_is)
    (same_by _ _ c.ne.result c.ne-else-ne.result c.eq.result c.ne.ensures c.if-ne.false
    (rw (c.as_slice.ensures.value, c.as_slice-else-ne.ensures.value) at c.ne-else-ne.ensures) c.if-ne-2.false
    (rw (c.as_slice-2.ensures.value, c.as_slice-3.ensures.value) at c.eq.ensures))
