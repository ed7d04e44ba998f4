-- The records that a reader returned one after the other are the first records of its text.
use Rattle.ld_trace.proofs.Names.{[], ◌++◌, ◌+◌, ◌-◌, ◌<◌, ◌∙◌, ◌∷◌, ◌≡◌, ◌≤◌, ◌⊎◌, Bool, Gives, HasGiven, IfSome, List, None, Option, ReadRecord, Reader, ReadsPlain, Record, Some, State, ap, append-nil, append_assoc, arith, default_config, ends_at_end, false, field_after, fields_after, if◌then◌else◌, inl, inr, is_end, length, option_map, reader_state, records_of, refl, source_of, step, suc, sym, true, zero, ℕ}
use Rattle.csv.specs.Machine.{Read, next_record}
use Rattle.csv.specs.Reading.{Reached, records_from, strip_bom}
use Rattle.csv.specs.declared.parser.Config.{Config}
use Rattle.csv.specs.declared.parser.State.TheVariants as st
use Rattle.csv.proofs.ReadFacts.{rows-end, rows-more}

-- a record takes a byte, or it is the one that the end of the text ended
abbrev pub Shortens : List ℕ → Read → Type 0
Shortens xs p = (length p.2 < length xs) ⊎ ((p.1 ≡ st.StartRecord) × (p.2 ≡ []))

longer : (c : ℕ) (rest : List ℕ) (p : Read) → Shortens rest p → Shortens (c ∷ rest) p
longer c rest p (inl h) = inl (omega arith)
longer c rest p (inr h) = inr h

ended-at-end : (b : Bool) (fields : Record) (p : Read) → (if b then Some (fields, st.StartRecord, []) else None) ≡ Some p → Shortens [] p
ended-at-end true fields p e = let q : (fields, st.StartRecord, []) ≡ p = cc in inr (ap (λ (r : Read). r.1) (sym q), ap (λ (r : Read). r.2) (sym q))
ended-at-end false fields p e = cc

ended-by-byte : (b : Bool) (fields : Record) (s : State) (c : ℕ) (rest : List ℕ) (more : Option Read) (p : Read) → (more ≡ Some p → Shortens rest p)
    → (if b then Some (fields, s, rest) else more) ≡ Some p → Shortens (c ∷ rest) p
ended-by-byte true fields s c rest more p h e =
    let q : (fields, s, rest) ≡ p = cc in
    let r : p.2 ≡ rest = ap (λ (r : Read). r.2) (sym q) in
    inl (omega (arith, ap length r))
ended-by-byte false fields s c rest more p h e = longer c rest p (h e)

pub next-shortens : (cfg : Config) (s : State) (fields : Record) (field xs : List ℕ) (p : Read) → next_record cfg s fields field xs ≡ Some p → Shortens xs p
unfolding next_record
next-shortens cfg s fields field [] p e = ended-at-end (ends_at_end s) _ p e
next-shortens cfg s fields field (c ∷ rest) p e =
    ended-by-byte (is_end (step cfg s c).1) _ _ c rest _ p
    (next-shortens cfg (step cfg s c).0 (fields_after (step cfg s c).1 fields field) (field_after (step cfg s c).1 c field) rest p) e

-- after the end of a text there is no record
none-at-end : (cfg : Config) (s s2 : State) (xs ys : List ℕ) (rows : List Record) → s ≡ st.StartRecord → xs ≡ [] → Reached cfg s xs rows s2 ys → length rows ≡ 0
unfolding Reached next_record
none-at-end cfg s s2 xs ys [] a b h = refl
none-at-end cfg s s2 xs ys (r ∷ rs) a b h = let e : next_record cfg st.StartRecord [] [] [] ≡ Some h.0 = rw (a, b) at h.1 in cc e

-- there are no more records than bytes, and one
few-records : (cfg : Config) (s s2 : State) (xs ys : List ℕ) (rows : List Record) → Reached cfg s xs rows s2 ys → length rows ≤ length xs + 1
unfolding Reached
few-records cfg s s2 xs ys [] h = omega arith
few-records cfg s s2 xs ys (r ∷ rs) h = by (next-shortens cfg s [] [] xs h.0 h.1) (few-records cfg h.0.1 s2 h.0.2 ys rs h.3)
  where
    by : Shortens xs h.0 → length rs ≤ length h.0.2 + 1 → length (r ∷ rs) ≤ length xs + 1
    by (inl lt) le = omega arith
    by (inr e) le = omega (arith, none-at-end cfg h.0.1 s2 h.0.2 ys rs e.0 e.1 h.3)

-- the records of a text are those that were reached, and then those of the rest
records-reached : (cfg : Config) (n : ℕ) (s s2 : State) (xs ys : List ℕ) (rows : List Record) → Reached cfg s xs rows s2 ys
    → records_from cfg (length rows + n) s xs ≡ rows ++ records_from cfg n s2 ys
unfolding Reached records_from
records-reached cfg n s s2 xs ys [] h = let z : 0 + n ≡ n = omega arith in rw (z, h.0, h.1)
records-reached cfg n s s2 xs ys (r ∷ rs) h =
    let z : suc (length rs) + n ≡ suc (length rs + n) = omega arith in
    rw (z, h.1, h.2, records-reached cfg n h.0.1 s2 h.0.2 ys rs h.3)

-- if no record follows, there is none
pub records-none : (cfg : Config) (n : ℕ) (s : State) (ys : List ℕ) → next_record cfg s [] [] ys ≡ None → records_from cfg n s ys ≡ []
unfolding records_from
records-none cfg zero s ys e = refl
records-none cfg (suc n) s ys e = rw e refl

-- so the records that were reached begin the text's
records-split : (bytes : List ℕ) (s2 : State) (ys : List ℕ) (rows : List Record) (n : ℕ) → length (strip_bom bytes) + 1 ≡ length rows + n
    → Reached default_config st.StartRecord (strip_bom bytes) rows s2 ys → records_of bytes ≡ rows ++ records_from default_config n s2 ys
records-split bytes s2 ys rows n e h = rw e (records-reached default_config n st.StartRecord s2 (strip_bom bytes) ys rows h)

pub records-begin : (bytes : List ℕ) (s2 : State) (ys : List ℕ) (rows : List Record) → Reached default_config st.StartRecord (strip_bom bytes) rows s2 ys
    → (rest : List Record) × (records_of bytes ≡ rows ++ rest)
records-begin bytes s2 ys rows h =
    let few = few-records default_config st.StartRecord s2 (strip_bom bytes) ys rows h in
    (records_from default_config (length (strip_bom bytes) + 1 - length rows) s2 ys, records-split bytes s2 ys rows (length (strip_bom bytes) + 1 - length rows) (omega arith) h)

-- and if no record follows, they are all
pub records-all : (bytes : List ℕ) (s2 : State) (ys : List ℕ) (rows : List Record) → Reached default_config st.StartRecord (strip_bom bytes) rows s2 ys
    → next_record default_config s2 [] [] ys ≡ None → records_of bytes ≡ rows
records-all bytes s2 ys rows h e =
    let few = few-records default_config st.StartRecord s2 (strip_bom bytes) ys rows h in
    records-split bytes s2 ys rows (length (strip_bom bytes) + 1 - length rows) (omega arith) h
    ∙ rw (records-none default_config (length (strip_bom bytes) + 1 - length rows) s2 ys e, append-nil rows)

module _ {R : Type 0} (rem : R → Option (List ℕ)) where
  -- a reader that begins behind some records has returned those
  pub given-on : (bytes mine : List ℕ) (first : List Record) (a : Reader R) → records_of bytes ≡ first ++ records_of mine → source_of rem a ≡ Some (strip_bom mine)
      → reader_state a ≡ st.StartRecord → Gives rem bytes a first
  unfolding Reached
  given-on bytes mine first a e has s = record {
    first = first;
    later = [];
    mine = mine;
    left = strip_bom mine;
    rows_are = sym (append-nil first);
    records_are = e;
    source_has = has;
    reached = (sym s, refl);
  }

  -- a new reader has returned none yet
  pub given-none : (known : Option (List ℕ)) (a : Reader R) → source_of rem a ≡ option_map strip_bom known → reader_state a ≡ st.StartRecord → HasGiven rem known a []
  given-none None a e s = tt
  given-none (Some bytes) a e s = given-on bytes bytes [] a refl e s

  -- one more record was returned
  pub given-more : (known : Option (List ℕ)) (a b : Reader R) (rows : List Record) (r : Record) → ReadsPlain a → HasGiven rem known a rows → ReadRecord rem a b true r
      → HasGiven rem known b (rows ++ r ∷ [])
  given-more None a b rows r p h read = tt
  given-more (Some bytes) a b rows r p h read =
      let more = rows-more rem a b r default_config st.StartRecord (strip_bom h.mine) h.left h.later p.config h.source_has h.reached read in
      record {
        first = h.first;
        later = h.later ++ r ∷ [];
        mine = h.mine;
        left = more.0;
        rows_are = ap (λ l. l ++ r ∷ []) h.rows_are ∙ append_assoc h.first h.later (r ∷ []);
        records_are = h.records_are;
        source_has = more.1;
        reached = more.2;
      }

  -- the records that were returned begin those of the bytes
  pub given-begin : (known : Option (List ℕ)) (a : Reader R) (rows : List Record) → HasGiven rem known a rows
      → IfSome known (λ bytes. (rest : List Record) × (records_of bytes ≡ rows ++ rest))
  given-begin None a rows h = tt
  given-begin (Some bytes) a rows h =
      let begin = records-begin h.mine (reader_state a) h.left h.later h.reached in
      (begin.0, h.records_are ∙ ap (λ l. h.first ++ l) begin.1 ∙ sym (append_assoc h.first h.later begin.0) ∙ ap (λ l. l ++ begin.0) (sym h.rows_are))

  -- and at the end they are all
  pub given-all : (known : Option (List ℕ)) (a b : Reader R) (rows : List Record) (f : Record) → ReadsPlain a → HasGiven rem known a rows → ReadRecord rem a b false f
      → IfSome known (λ bytes. records_of bytes ≡ rows)
  given-all None a b rows f p h read = tt
  given-all (Some bytes) a b rows f p h read =
      h.records_are
      ∙ ap (λ l. h.first ++ l) (records-all h.mine (reader_state a) h.left h.later h.reached (rows-end rem a b f default_config h.left p.config h.source_has read))
      ∙ sym h.rows_are
