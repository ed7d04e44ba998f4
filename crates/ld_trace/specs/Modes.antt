-- What the modes mean, in which a lock is taken ["Recursive read locks"; tries are this project's own].
use Rattle.std.specs.Prelude.{Bool, true, false}
use Rattle.ld_trace.specs.declared.event.Mode.{Mode}
use Rattle.ld_trace.specs.declared.event.Mode.TheVariants.{Write, Read, RecRead, TryWrite, TryRead, TryRecRead}

-- a lock in this mode is taken by a reader of either kind
abbrev pub is_read : Mode → Bool
is_read Write = false
is_read Read = true
is_read RecRead = true
is_read TryWrite = false
is_read TryRead = true
is_read TryRecRead = true

-- a lock in this mode is taken by a recursive reader
abbrev pub is_recursive : Mode → Bool
is_recursive Write = false
is_recursive Read = false
is_recursive RecRead = true
is_recursive TryWrite = false
is_recursive TryRead = false
is_recursive TryRecRead = true

-- whoever takes a lock in this mode may wait for it: a try never waits
abbrev pub may_wait : Mode → Bool
may_wait Write = true
may_wait Read = true
may_wait RecRead = true
may_wait TryWrite = false
may_wait TryRead = false
may_wait TryRecRead = false
