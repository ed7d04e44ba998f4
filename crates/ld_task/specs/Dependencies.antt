-- The dependencies of a trace ["Multi-lock dependency rules"; the four kinds: "Dependency types and strong dependency paths"].
use Rattle.std.specs.Prelude.{ℕ, List, ◌≡◌, IsTrue}
use Rattle.ld_task.specs.Events.{event, is_acquire, mode_taken}
use Rattle.ld_task.specs.Held.{key_at, is_held}
use Rattle.ld_task.specs.declared.kind.Kind.{Kind}
use Rattle.ld_task.specs.Kinds.{kind_between}
use Rattle.ld_trace.specs.Modes.{may_wait}
use Rattle.ld_trace.specs.declared.event.Event.{Event}

-- the trace has a dependency of this kind between these keys: one is held when the other is taken by an acquisition
-- that may wait
pub record IsDependency (t : List Event) (from to : ℕ) (dependency : Kind) : Type 0 where
  pub i : ℕ
  pub j : ℕ
  pub is_taken : IsTrue (is_acquire (event t j))
  pub is_held : IsTrue (is_held t i j)
  pub waits : IsTrue (may_wait (mode_taken (event t j)))
  pub from_is : from ≡ key_at t i
  pub to_is : to ≡ key_at t j
  pub how : dependency ≡ kind_between (mode_taken (event t i)) (mode_taken (event t j))
