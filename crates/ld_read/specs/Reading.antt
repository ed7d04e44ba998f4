-- Traces that are read in turn over one table [this project's own].
use Rattle.std.specs.Prelude.{◌≡◌, ℕ, suc, ◌+◌, List, [], ◌∷◌, ◌++◌, length, Option, IfSome}
use Rattle.ld_trace.specs.declared.event.Event.{Event}
use Rattle.ld_trace.specs.Events.{KeysBelow}
use Rattle.ld_trace.specs.Names.{Name}
use Rattle.ld_trace.specs.Reading.{ReadsTo, StopsAt}
use Rattle.ld_read.specs.declared.unread.ReadFault.{ReadFault}
use Rattle.ld_read.specs.declared.unread.ReadFault.TheVariants.{CannotOpen, Trace}
use Rattle.ld_read.specs.declared.unread.Unread.{Unread}

-- a trace was read over a table with this room, from these bytes if they are known: it took the names from old to new
pub record IsRead (room : ℕ) (bytes : Option (List ℕ)) (old new : List Name) (trace : List Event) : Type 0 where
  pub kept : (added : List Name) × (new ≡ old ++ added)
  pub below : KeysBelow (length new) trace
  pub reads : IfSome bytes (λ known. ReadsTo room old known new trace)

-- these traces were read in turn, each over the names that those before it left; the first is the one at this place
unfoldable pub AreRead : (room : ℕ) (holds : ℕ → Option (List ℕ)) (place : ℕ) (old new : List Name) → List (List Event) → Type 0
AreRead room holds place old new [] = new ≡ old
AreRead room holds place old new (trace ∷ traces) =
    (next : List Name) × IsRead room (holds place) old next trace × AreRead room holds (suc place) next new traces

-- why a trace wasn't read: its source can't be opened, or it was refused in reading
abbrev pub IsReason : (room : ℕ) (bytes : Option (List ℕ)) (old new : List Name) → ReadFault → Type 0
IsReason room bytes old new CannotOpen = new ≡ old
IsReason room bytes old new (Trace fault) = IfSome bytes (λ known. StopsAt room old known new fault)

-- a trace wasn't read over a table with this room
pub record IsNotRead (room : ℕ) (bytes : Option (List ℕ)) (old new : List Name) (fault : ReadFault) : Type 0 where
  pub kept : (added : List Name) × (new ≡ old ++ added)
  pub why : IsReason room bytes old new fault

-- these traces were read in turn, and the one after them, at the place that is returned, was not
pub record StopsAfter (room : ℕ) (holds : ℕ → Option (List ℕ)) (place : ℕ) (old new : List Name) (traces : List (List Event)) (unread : Unread) : Type 0 where
  pub between : List Name
  pub are_read : AreRead room holds place old between traces
  pub at : unread.place ≡ place + length traces
  pub is_not : IsNotRead room (holds unread.place) between new unread.fault
