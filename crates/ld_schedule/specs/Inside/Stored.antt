-- Names as a table stores them. No public clause speaks of these.
use Rattle.std.specs.Prelude.{List, map}
use Rattle.indexmap.specs.IndexSet.{IndexSet}
use Rattle.ld_schedule.specs.declared.name_table.StoredName.{StoredName}
use Rattle.ld_schedule.specs.Names.{Text}

-- the names of a set, in its order
abbrev pub names_of : {S : Type 0} → IndexSet StoredName S → List Text
names_of set = map (λ stored. stored.text.bytes) set.keys
