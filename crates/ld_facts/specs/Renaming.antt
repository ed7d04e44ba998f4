-- Facts under a renaming of keys: those of a trace's chains with other keys in them [this project's own].
use Rattle.std.specs.Prelude.{◌≡◌, ℕ, List, Any, map, option_map}
use Rattle.ld_trace.specs.declared.event.Event.{Event}
use Rattle.ld_task.specs.Chains.{ChainParts}
use Rattle.ld_task.specs.TraceChains.{chains}
use Rattle.ld_task.specs.declared.lock.Lock.{Lock}
use Rattle.ld_facts.specs.FactBits.{FactBelow}
use Rattle.ld_facts.specs.Facts.{AreSame, ChainHas}
use Rattle.ld_facts.specs.Renumbered.{fact_by}
use Rattle.ld_facts.specs.TraceFacts.{TracesHave}
use Rattle.ld_facts.specs.declared.fact.Fact.{Fact}

-- the lock, and the chain, with other keys
abbrev pub lock_by : (ℕ → ℕ) → Lock → Lock
lock_by rename lock = record { key = rename lock.key; mode = lock.mode }

abbrev pub chain_by : (ℕ → ℕ) → ChainParts → ChainParts
chain_by rename c = record {
  held_locks = map (lock_by rename) c.held_locks;
  new_lock = option_map (λ new. (lock_by rename new.0, new.1)) c.new_lock;
  flags = c.flags;
}

-- the trace has the fact under the renaming: one of its chains has it, with the other keys
abbrev pub TraceHasBy : (ℕ → ℕ) → List Event → Fact → Type 0
TraceHasBy rename t x = Any (λ c. ChainHas (chain_by rename c) x) (chains t)

-- some trace of the list has it
abbrev pub TracesHaveBy : (ℕ → ℕ) → List (List Event) → Fact → Type 0
TracesHaveBy rename traces x = Any (λ t. TraceHasBy rename t x) traces

-- a fact of the set says this with other keys
abbrev pub Image : (ℕ → ℕ) → (Fact → Type 0) → Fact → Type 0
Image rename Has x = (y : Fact) × Has y × (fact_by rename y ≡ x)

-- the same of the keys below a bound: a key that has another name from the bound on is left out
abbrev pub ImageBelow : (keys : ℕ) → (ℕ → ℕ) → (Fact → Type 0) → Fact → Type 0
ImageBelow keys rename Has x = FactBelow keys x × Image rename Has x

-- the facts under a renaming are what the facts say with other keys
abbrev pub RenamedFactsAreTheImage : Type 0
RenamedFactsAreTheImage = (rename : ℕ → ℕ) (traces : List (List Event)) →
    AreSame (TracesHaveBy rename traces) (Image rename (TracesHave traces))
