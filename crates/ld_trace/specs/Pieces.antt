-- A trace that is read in pieces, each cut after a newline [this project's own].
use Rattle.std.specs.Prelude.{◌≡◌, ◌≤◌, ◌+◌, ℕ, List, [], ◌∷◌, ◌++◌, codes, length}
use Rattle.ld_trace.specs.declared.event.Event.{Event}
use Rattle.ld_trace.specs.declared.raw_trace.TheConstants.{MAX_EVENTS}
use Rattle.ld_trace.specs.declared.version.Version.{Version}
use Rattle.ld_trace.specs.declared.version.Version.TheVariants.{One, Two}
use Rattle.ld_trace.specs.Names.{Name}
use Rattle.ld_trace.specs.Reading.{ReadsTo}

-- the line with the header of a version
abbrev pub header_line : Version → List ℕ
header_line One = codes "lockdep,1" ++ 10 ∷ []
header_line Two = codes "lockdep,2" ++ 10 ∷ []

-- these bytes are whole lines, and the first is the header of this version
pub record AreLines (version : Version) (bytes : List ℕ) : Type 0 where
  pub more : List ℕ
  pub begin : bytes ≡ header_line version ++ more
  pub most : List ℕ
  pub end : bytes ≡ most ++ 10 ∷ []

-- a trace of whole lines reads on as one of these: with the header before it, what follows is a trace of its own, which begins with
-- the names that the first one left. Together they are the trace of the first one's events and then the other's
abbrev pub PiecesJoin : Type 0
PiecesJoin = (any room : ℕ) (version : Version) (old names new : List Name) (done piece : List ℕ) (events more : List Event)
    → AreLines version done → ReadsTo room old done names events → ReadsTo any names (header_line version ++ piece) new more
    → length new ≤ room → length events + length more ≤ MAX_EVENTS → ReadsTo room old (done ++ piece) new (events ++ more)

-- the header's line is whole lines, and a trace without events
abbrev pub HeadersRead : Type 0
HeadersRead = (room : ℕ) (version : Version) (names : List Name) → AreLines version (header_line version) × ReadsTo room names (header_line version) names []
