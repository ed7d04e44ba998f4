-- The bytes of a block.
use Rattle.ld_trace.proofs.Names.{◌++◌, ◌+◌, ◌-◌, ◌∙◌, ◌≡◌, ◌≤◌, Event, List, Name, ap, arith, drop, length, length-append, length-drop, take, take-append-le, take-append_seam, take_all, ℕ}
use Rattle.ld_trace.specs.Inside.KnownLines.{ReadsOn}
use Rattle.ld_trace.specs.declared.version.Version.{Version}
use Rattle.ld_trace.proofs.Advancing.{on-more}
use Rattle.std.proofs.Common.{take-take}
use Rattle.std.proofs.Math.Seq.{drop-append_seam, take-add}

-- what is left of a longer block, into which bytes were read behind its own
pub read-behind : (own read rest more : List ℕ) (had count size : ℕ) → length own ≡ had → count ≤ length read → had + count ≤ size
    → take (had + count) (take size ((own ++ (read ++ rest)) ++ more)) ≡ own ++ take count read
read-behind own read rest more had count size own_is few within =
    let all = own ++ (read ++ rest) in
    let long : had + count ≤ length all = omega (arith, length-append own (read ++ rest), length-append read rest, few, own_is) in
    take-take (had + count) size (all ++ more) within
    ∙ take-append-le (had + count) all more long
    ∙ take-add had count all
    ∙ rw (← own_is) (ap (λ front. front ++ take count (drop (length own) all)) (take-append_seam own (read ++ rest)) ∙ ap (λ l. own ++ take count l) (drop-append_seam own (read ++ rest)) ∙ ap (λ l. own ++ l) (take-append-le count read rest few))

-- its own bytes are still at the front of a block that was filled up
pub first-own : (own fill : List ℕ) (had size : ℕ) → length own ≡ had → had ≤ size → take had (take size own ++ fill) ≡ own
first-own own fill had size own_is within =
    let all : take size own ≡ own = take_all size own (omega arith) in
    rw (all, ← own_is) (take-append_seam own fill)

-- lines that were taken after others, over a table that may have more names by now
pub round-on : (version : Version) (room : ℕ) (names before longer added : List Name) (seen after : ℕ) (e1 e2 e3 : List Event) (bytes : List ℕ) (at count : ℕ) → longer ≡ before ++ added → seen ≤ length before
    → ReadsOn version room names (take seen before) e1 e2 (take at bytes) → ReadsOn version room (take seen longer) (take after longer) e2 e3 (take count (drop at bytes))
    → ReadsOn version room names (take after longer) e1 e3 (take (at + count) bytes)
round-on version room names before longer added seen after e1 e2 e3 bytes at count is within first second =
    let same : take seen longer ≡ take seen before = ap (take seen) is ∙ take-append-le seen before added within in
    rw (take-add at count bytes) (on-more version room names (take seen before) (take after longer) e1 e2 e3 (take at bytes) (take count (drop at bytes)) first (rw same at second))

-- all bytes from a place on
pub all-from : (at : ℕ) (bytes : List ℕ) → take (length bytes - at) (drop at bytes) ≡ drop at bytes
all-from at bytes = take_all (length bytes - at) (drop at bytes) (omega (arith, length-drop at bytes))
