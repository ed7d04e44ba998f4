-- A journal that keeps each distinct chain once. No public clause speaks of these.
use Rattle.std.specs.Prelude.{◌≡◌, ℕ, ◌<◌, ◌⊎◌, ◌++◌, false, None, List, [], length, map, All, Any, slice_index_or}
use Rattle.std.specs.List.{IsDistinct}
use Rattle.ld_task.specs.Chains.{ChainParts}
use Rattle.ld_task.specs.ChainEquality.{chain_eq}

-- what is seen of numbered chains: all of them, in order, and for how many more there is room
pub record ChainsParts : Type 0 where
  pub all : List ChainParts
  pub room : ℕ

-- none is equal to another
abbrev pub AreChains : List ChainParts → Type 0
AreChains all = IsDistinct chain_eq all

-- a chain that says nothing, for a number that none has
abbrev pub no_chain : ChainParts
no_chain = record { held_locks = []; new_lock = None; flags = record { hard_on = false; soft_on = false } }

-- an entry: the trace that a chain comes from, and the chain's number among the distinct ones
pub record EntryParts : Type 0 where
  pub trace : ℕ
  pub number : ℕ

-- the entry that is meant: its trace, and the chain of its number
abbrev pub entry_of : List ChainParts → EntryParts → ℕ × ChainParts
entry_of chains e = (e.trace, slice_index_or chains e.number no_chain)

-- the journal that is meant
abbrev pub journal_of : List ChainParts → List EntryParts → List (ℕ × ChainParts)
journal_of chains entries = map (entry_of chains) entries

-- each entry has the number of a chain, and each chain has an entry
pub record IsJournal (chains : List ChainParts) (entries : List EntryParts) : Type 0 where
  pub numbers : All (λ (e : EntryParts). e.number < length chains) entries
  pub entered : (n : ℕ) → n < length chains → Any (λ (e : EntryParts). e.number ≡ n) entries

-- the later chains are the earlier ones, with this one at that place: there already, or after them
pub record PutsChain (old new : List ChainParts) (number : ℕ) (chain : ChainParts) : Type 0 where
  pub more : List ChainParts
  pub extends : new ≡ old ++ more
  pub within : number < length new
  pub is : slice_index_or new number no_chain ≡ chain
  pub only : (n : ℕ) → n < length new → (n < length old) ⊎ (n ≡ number)

-- what is seen of a journal: its entries, and for how many more entries and chains there is room
pub record JournalParts : Type 0 where
  pub written : List (ℕ × ChainParts)
  pub entry_room : ℕ
  pub chain_room : ℕ

-- there is room for an entry, and for one with a chain that is new
abbrev pub HasRoom : JournalParts → Type 0
HasRoom j = 0 < j.entry_room

abbrev pub HasRoomForNew : JournalParts → Type 0
HasRoomForNew j = (0 < j.entry_room) × (0 < j.chain_room)
