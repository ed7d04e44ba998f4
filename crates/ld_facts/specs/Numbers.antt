-- The public numbering of facts as bits [this project's own].
use Rattle.std.specs.Prelude.{ℕ, ◌+◌, ◌*◌, Bool, if◌then◌else◌}
use Rattle.ld_trace.specs.declared.event.Irq.{Irq}
use Rattle.ld_trace.specs.declared.event.Irq.TheVariants.{Hard, Soft}
use Rattle.ld_task.specs.declared.kind.Kind.{Kind}
use Rattle.ld_task.specs.declared.kind.Kind.TheVariants.{Er, En, Sr, Sn}
use Rattle.ld_task.specs.declared.mark.Mark.{Mark}
use Rattle.ld_task.specs.declared.mark.Mark.TheVariants.{Used, UsedIn, Enabled}
use Rattle.ld_facts.specs.declared.fact.Fact.{Fact}
use Rattle.ld_facts.specs.declared.fact.Fact.TheVariants.{Dependency, Marked}

abbrev pub kind_number : Kind → ℕ
kind_number Er = 0
kind_number En = 1
kind_number Sr = 2
kind_number Sn = 3

abbrev pub irq_number : Irq → ℕ
irq_number Hard = 0
irq_number Soft = 1

-- 1 for the read form
abbrev pub form_number : Bool → ℕ
form_number read = if read then 1 else 0

-- the place of a mark among the nine of its key
abbrev pub mark_index : Mark → ℕ
mark_index Used = 0
mark_index (UsedIn irq read) = 1 + irq_number irq * 4 + form_number read
mark_index (Enabled irq read) = 3 + irq_number irq * 4 + form_number read

-- how many dependencies and how many marks there can be
abbrev pub dependency_total : ℕ → ℕ
dependency_total keys = keys * keys * 4

abbrev pub mark_total : ℕ → ℕ
mark_total keys = keys * 9

-- how many bits there are
abbrev pub bit_total : ℕ → ℕ
bit_total keys = dependency_total keys + mark_total keys

-- the bit of a fact about keys below `keys`: the marks come after the dependencies
abbrev pub fact_number : ℕ → Fact → ℕ
fact_number keys (Dependency from to kind) = (from * keys + to) * 4 + kind_number kind
fact_number keys (Marked key mark) = dependency_total keys + (key * 9 + mark_index mark)
