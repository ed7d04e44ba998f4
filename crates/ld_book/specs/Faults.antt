-- The codes of what a book refuses.
use Rattle.std.specs.Prelude.{ℕ, List, codes}
use Rattle.ld_book.specs.declared.fault.BookFault.{BookFault}
use Rattle.ld_book.specs.declared.fault.BookFault.TheVariants.{Full, Memory, BadKey}

-- the fault's number and name [this project's own]
abbrev pub code_of : BookFault → List ℕ
code_of Full = codes "B1 Full"
code_of Memory = codes "B2 Memory"
code_of BadKey = codes "B3 BadKey"
