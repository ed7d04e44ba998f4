-- The parts of a parted graph: the keys of each rank, with a graph of the facts among them.
use Rattle.std.specs.Prelude.{◌≡◌, ℕ, ◌<◌, ◌≤◌, List, length, map, get_or, All, Contains, EachIndex, slice_index}
use Rattle.ld_trace.specs.declared.key_id.TheConstants.{GRAPH_KEYS, MAX_KEYS}
use Rattle.ld_facts.specs.Arrows.{Arrow}
use Rattle.ld_facts.specs.FactBits.{FactParts, HasFact}
use Rattle.ld_facts.specs.Facts.{AreSame}
use Rattle.ld_parts.specs.Ranks.{NoneGoesDown}
use Rattle.ld_facts.specs.Renumbered.{HasEachOnce, Renumbered, arrow_at}
use Rattle.ld_graph.specs.Walks.{IsCircle, IsShortestCircle}
use Rattle.ld_parts.specs.declared.home.Home.{Home}
use Rattle.ld_parts.specs.declared.part.Part.{Part}

-- ---- parts
-- the list has the keys below the bound that have this rank, each once
pub record AreKeysOf (bound : ℕ) (rank : ℕ → ℕ) (r : ℕ) (keys : List ℕ) : Type 0 where
  pub once : HasEachOnce keys
  pub of : All (λ key. (key < bound) × (rank key ≡ r)) keys
  pub all : (key : ℕ) → key < bound → rank key ≡ r → Contains keys key
  pub few : length keys ≤ bound

-- each is the number of a key that there can be
abbrev pub AreKeyNumbers : List ℕ → Type 0
AreKeyNumbers keys = EachIndex keys (λ i. slice_index keys i < MAX_KEYS)

-- the part has the keys of the rank, and its graph has the facts among them
pub record IsPart (facts : FactParts) (rank : ℕ → ℕ) (r : ℕ) (part : Part) : Type 0 where
  pub keys_are : AreKeysOf facts.keys rank r part.keys.items
  pub numbers : AreKeyNumbers part.keys.items
  pub room : length part.keys.items ≤ GRAPH_KEYS
  pub bound : part.graph.facts.keys ≡ length part.keys.items
  pub same : AreSame (HasFact part.graph.facts) (Renumbered (HasFact facts) part.keys.items)

-- one part for each rank of a key below the bound: the part r has the keys of rank r
pub record AreParts (facts : FactParts) (rank : ℕ → ℕ) (parts : List Part) : Type 0 where
  pub parts_are : (r : ℕ) (part : Part) → r < length parts → IsPart facts rank r (get_or parts r part)
  pub all : (key : ℕ) → key < facts.keys → rank key < length parts

-- ---- homes
-- the key is at the place n of the list
abbrev pub IsAtPlace : List ℕ → ℕ → ℕ → Type 0
IsAtPlace keys key n = (n < length keys) × (slice_index keys n ≡ key)

-- the key is at its home: in the part of its rank, at that place
pub record IsHome (rank : ℕ → ℕ) (parts : List Part) (key : ℕ) (home : Home) : Type 0 where
  pub of_rank : home.part ≡ rank key
  pub within : home.part < length parts
  pub place : (part : Part) → IsAtPlace (get_or parts home.part part).keys.items key home.place

-- each key below the bound is in the part of its rank
pub record AreHoused (bound : ℕ) (rank : ℕ → ℕ) (parts : List Part) : Type 0 where
  pub within : (key : ℕ) → key < bound → rank key < length parts
  pub listed : (key : ℕ) (part : Part) → key < bound → Contains (get_or parts (rank key) part).keys.items key
  pub few : (r : ℕ) (part : Part) → r < length parts → length (get_or parts r part).keys.items ≤ MAX_KEYS

-- a home for each key below the bound
pub record AreHomes (bound : ℕ) (rank : ℕ → ℕ) (parts : List Part) (homes : List Home) : Type 0 where
  pub homes_of : length homes ≡ bound
  pub homes_are : (key : ℕ) (home : Home) → key < length homes → IsHome rank parts key (get_or homes key home)

-- parts by some ranks by which no arrow goes down, and the homes there
pub record IsParted (facts : FactParts) (parts : List Part) (homes : List Home) : Type 0 where
  pub rank : ℕ → ℕ
  pub none : NoneGoesDown (HasFact facts) rank
  pub parts_are : AreParts facts rank parts
  pub homes_are : AreHomes facts.keys rank parts homes

-- ---- two keys
-- the part is one of those by some ranks by which no arrow goes down
abbrev pub IsPartOf : FactParts → Part → Type 0
IsPartOf facts part = (rank : ℕ → ℕ) × (r : ℕ) × NoneGoesDown (HasFact facts) rank × IsPart facts rank r part

-- two keys are at these places of one part
pub record AreTogether (facts : FactParts) (part : Part) (a b i j : ℕ) : Type 0 where
  pub of : IsPartOf facts part
  pub at_a : IsAtPlace part.keys.items a i
  pub at_b : IsAtPlace part.keys.items b j

-- the ranks of two keys below the bound differ, by some ranks by which no arrow goes down
abbrev pub AreApart : FactParts → (a b : ℕ) → Type 0
AreApart facts a b = a < facts.keys → b < facts.keys →
    (rank : ℕ → ℕ) × NoneGoesDown (HasFact facts) rank × ¬ (rank a ≡ rank b)

-- ---- circles
-- the circle is a shortest one of the part's graph, with the keys themselves
pub record IsShortestOfPart (part : Part) (circle : List Arrow) : Type 0 where
  pub own : List Arrow
  pub shortest : IsShortestCircle (HasFact part.graph.facts) own
  pub few : length own ≤ part.graph.facts.keys
  pub renumbered : circle ≡ map (arrow_at part.keys.items) own

-- it is one of the first n parts', and no circle of any of their graphs is shorter
pub record IsShortestOfFirst (parts : List Part) (n : ℕ) (circle : List Arrow) : Type 0 where
  pub r : ℕ
  pub before : r < n
  pub of : (part : Part) → IsShortestOfPart (get_or parts r part) circle
  pub least : (s : ℕ) (part : Part) (other : List Arrow) → s < n →
      IsCircle (HasFact (get_or parts s part).graph.facts) other → length circle ≤ length other
