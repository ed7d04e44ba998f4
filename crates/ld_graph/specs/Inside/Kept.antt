-- What a graph keeps besides its facts: a table of places, and the places where links end.
use Rattle.std.specs.Prelude.{◌≡◌, ℕ, ◌≤◌, ◌⊎◌, ◌↔◌, Bool, IsTrue, List}
use Rattle.ld_trace.specs.declared.event.Irq.{Irq}
use Rattle.ld_task.specs.declared.kind.Kind.{Kind}
use Rattle.ld_task.specs.declared.mark.Mark.{Mark}
use Rattle.ld_task.specs.declared.mark.Mark.TheVariants.{Used, UsedIn, Enabled}
use Rattle.ld_task.specs.Kinds.{is_r}
use Rattle.ld_trace.specs.declared.key_id.TheConstants.{GRAPH_KEYS}
use Rattle.ld_facts.specs.Arrows.{Arrow, MayFollow, arrow}
use Rattle.ld_facts.specs.Inside.Bits.{has_bit}
use Rattle.ld_facts.specs.Facts.{DependenciesOf}
use Rattle.ld_facts.specs.FactBits.{FactParts, HasFact, rows_allowed}
use Rattle.ld_graph.specs.Links.{IsLink, IsClean}
use Rattle.ld_facts.specs.Numbers.{irq_number}
use Rattle.ld_facts.specs.Inside.Places.{LeavesFrom, Leads, Way, LinkArrives, LinkLeaves}
use Rattle.ld_graph.specs.Inside.Tables.{reaches, IsSource, IsTarget}
use Rattle.ld_graph.specs.Walks.{StrongWalk, last}
use Rattle.ld_graph.specs.declared.ends.Ends.{Ends}
use Rattle.ld_facts.specs.declared.fact.Fact.{Fact}
use Rattle.ld_facts.specs.declared.fact.Fact.TheVariants.{Marked}

-- the place is one where links of the state arrive, or one that they leave
abbrev pub arrives_at : Ends → Irq → ℕ → Bool
arrives_at ends irq p = reaches ends.arrivals (irq_number irq) p

abbrev pub departs_from : Ends → Irq → ℕ → Bool
departs_from ends irq q = reaches ends.departures (irq_number irq) q

-- the ends are those of the links by the marks
pub record AreEnds (Has : Fact → Type 0) (ends : Ends) : Type 0 where
  pub arrives : (irq : Irq) (p : ℕ) → IsTrue (arrives_at ends irq p) ↔ LinkArrives Has irq p
  pub leaves : (irq : Irq) (q : ℕ) → IsTrue (departs_from ends irq q) ↔ LinkLeaves Has irq q

-- the ends of the links by this mark are added
pub record TakesMark (old new : Ends) (key : ℕ) (mark : Mark) : Type 0 where
  pub arrives : (irq : Irq) (p : ℕ) → IsTrue (arrives_at new irq p) ↔
      (IsTrue (arrives_at old irq p) ⊎ LinkArrives (λ x. x ≡ Marked key mark) irq p)
  pub leaves : (irq : Irq) (q : ℕ) → IsTrue (departs_from new irq q) ↔
      (IsTrue (departs_from old irq q) ⊎ LinkLeaves (λ x. x ≡ Marked key mark) irq q)

-- links of the state with this number arrive at one of the sources and leave one of the targets
abbrev pub Joined : List ℕ → List ℕ → Ends → ℕ → Type 0
Joined sources targets ends n =
    ((p : ℕ) × IsTrue (has_bit sources p) × IsTrue (reaches ends.arrivals n p)) ×
    ((q : ℕ) × IsTrue (has_bit targets q) × IsTrue (reaches ends.departures n q))

-- those of some state do
abbrev pub JoinsLinks : List ℕ → List ℕ → Ends → Type 0
JoinsLinks sources targets ends = (irq : Irq) × Joined sources targets ends (irq_number irq)

-- an arrow from the key leaves one of the targets
abbrev pub LeavesTarget : List ℕ → ℕ → Bool → Type 0
LeavesTarget targets key by_s = (q : ℕ) × LeavesFrom key by_s q × IsTrue (has_bit targets q)

-- a new dependency from the key makes no fault: it leaves none of its targets and joins no link to another
abbrev pub StaysClean : List ℕ → List ℕ → Ends → ℕ → Bool → Type 0
StaysClean sources targets ends key by_s = ¬ LeavesTarget targets key by_s ×
    ¬ JoinsLinks sources targets ends

-- a link by the mark, and what is reached, lead back to it
abbrev pub MarkTurnsBack : List (List ℕ) → Ends → ℕ → Mark → Type 0
MarkTurnsBack table ends key Used = ⊥
MarkTurnsBack table ends key (UsedIn irq read) =
    (q : ℕ) × IsTrue (departs_from ends irq q) × IsTarget table key read q
MarkTurnsBack table ends key (Enabled irq read) =
    (p : ℕ) × IsTrue (arrives_at ends irq p) × IsSource table key read p

-- a strong walk and the arrow l may follow each other
abbrev pub ClosesWith : (Arrow → Type 0) → Arrow → Type 0
ClosesWith In l = (d : Arrow) × (rest : List Arrow) ×
    StrongWalk In d rest × MayFollow (last d rest) l × MayFollow l d

-- an inversion by a link with this form of the used-in mark
abbrev pub IsInversionBy : (Fact → Type 0) → Irq → ℕ → ℕ → Bool → Type 0
IsInversionBy Has irq a b read = (kind : Kind) × (is_r kind ≡ read) ×
    IsLink Has irq (arrow b a kind) × ClosesWith (DependenciesOf Has) (arrow b a kind)

-- the table is that of the ways, the ends are those of the links, the flag says that the facts are clean, and no more
-- rows were counted than may be
pub record IsGraph (facts : FactParts) (table : List (List ℕ)) (ends : Ends) (clean : Bool) (searched : ℕ) : Type 0 where
  pub few : facts.keys ≤ GRAPH_KEYS
  pub ways : (p q : ℕ) → IsTrue (reaches table p q) ↔
      Way (Leads (DependenciesOf (HasFact facts))) p q
  pub ends_are : AreEnds (HasFact facts) ends
  pub flag : IsTrue clean ↔ IsClean (HasFact facts)
  pub bound : searched ≤ rows_allowed facts
