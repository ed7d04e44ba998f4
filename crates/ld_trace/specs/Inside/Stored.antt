-- The names as a table stores them. No public clause speaks of these.
use Rattle.std.specs.Prelude.{List, map}
use Rattle.indexmap.specs.IndexSet.{IndexSet}
use Rattle.ld_trace.specs.declared.stored_name.StoredName.{StoredName}
use Rattle.ld_trace.specs.Names.{Name}

-- the name that a stored one is
abbrev pub name_of : StoredName → Name
name_of stored = (stored.text.bytes, stored.sub)

-- the names of a set, in its order
abbrev pub names_of : {S : Type 0} → IndexSet StoredName S → List Name
names_of set = map name_of set.keys
