-- Runs whose types can't be settled.
use Rattle.lockdep.proofs.Names.{◌<◌, ◌≡◌, ◌≤◌, All, Event, GRAPH_KEYS, IsCrew, IsWellFormed, List, MAX_TRACES, Name, PartingFault, StopsLevels, Types, fault_of_parting, length, names_at, refl, ℕ}
use Rattle.ld_parts.specs.declared.parting_fault.PartingFault.TheVariants as parting

-- more than 256 types lead to one another only if there are more, and otherwise memory was refused
pub stops-parting : (traces : List (List Event)) (names : List Name) (workers : ℕ) (fault : PartingFault) → IsCrew workers → length traces ≤ MAX_TRACES →
    All IsWellFormed traces → (fault ≡ parting.TooTangled → GRAPH_KEYS < length (names_at Types names)) →
    StopsLevels traces names workers (fault_of_parting fault)
stops-parting traces names workers parting.TooTangled crew few well tangled = (crew, few, well, tangled refl)
stops-parting traces names workers parting.Memory crew few well tangled = (crew, few)
