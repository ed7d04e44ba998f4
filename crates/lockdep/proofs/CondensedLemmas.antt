-- Condensed traces of equal facts, and that their texts read back.
use Rattle.lockdep.proofs.Names.{[], ◌≡◌, ◌≤◌, AreNumbered, AreSame, CondenseFault, Err, Event, Fact, IfOk, IsCondensed, IsCondensedText, IsOkAnd, KeysBelow, List, MAX_EVENTS, Name, NewTablesHaveRoom, Ok, ReadsBackAnew, Result, Table, TextsReadBack, arith, length, subst, trace_text, ℕ}

-- a trace that has the one has the other
pub IsCondensedText-same : (P Q : Fact → Type 0) → AreSame P Q → (names : List Name) (text : List ℕ) → IsCondensedText P names text → IsCondensedText Q names text
IsCondensedText-same P Q same names text c = record {
  trace = c.trace;
  condensed = record {
    well_formed = c.condensed.well_formed;
    no_try = c.condensed.no_try;
    below = c.condensed.below;
    same = λ x. (λ t. (same x).0 ((c.condensed.same x).0 t), λ q. (c.condensed.same x).1 ((same x).1 q));
  };
  text_is = c.text_is;
  reads_back = c.reads_back;
}

-- the text of a trace whose keys are those of a table reads back over a new table with room for as many names
pub reads_back_anew : TextsReadBack → NewTablesHaveRoom → (table : Table) → AreNumbered table → (trace : List Event) → length trace ≤ MAX_EVENTS → KeysBelow (length table.names) trace → ReadsBackAnew table.names trace
reads_back_anew back fits table numbered trace few below room within =
    let own : Table = record { room = length table.names; names = table.names } in
    let own_numbered : AreNumbered own = record {
      most = omega (arith, numbered.most, numbered.few);
      few = omega arith;
      named = numbered.named;
      once = numbered.once;
    } in
    let own_fits = fits own trace (record { numbered = own_numbered; below = below; few = few }) in
    back table trace (record { numbered = numbered; below = below; few = few }) room [] (omega (arith, own_fits, within))

-- the text of what condensing made is that of a condensed trace
pub IsCondensedText-made : (Has : Fact → Type 0) (names : List Name) (keys : ℕ) → keys ≡ length names → (made : Result (List Event) CondenseFault) → IfOk made (IsCondensed keys Has) → (text : List ℕ) → IsOkAnd made (λ trace. KeysBelow (length names) trace → (text ≡ trace_text names trace) × ReadsBackAnew names trace) → IsCondensedText Has names text
IsCondensedText-made Has names keys same (Ok trace) condensed text is =
    let c = subst (λ (k : ℕ). IsCondensed k Has trace) same condensed in
    let (text_is, back) = is c.below in
    record { trace = trace; condensed = c; text_is = text_is; reads_back = back }
IsCondensedText-made Has names keys same (Err fault) condensed text is = absurd is
