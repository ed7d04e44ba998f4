-- What is taken in, slot by slot, event by event and trace by trace.
use Rattle.ld_explain.proofs.Names.{[], ◌+◌, ◌<◌, ◌↔◌, ◌∙◌, ◌∷◌, ◌≡◌, ◌≤◌, Among, AreFirsts, AreGuards, AreGuardsOf, AreOriginsOf, AreTakenIn, Arrow, AsksOrder, ChainParts, Contains, Dependency, En, Event, Fact, FactParts, Gives, GuardParts, Guarded, GuardsAt, HasFact, IsAloneIn, IsDependency, IsGate, Kind, LaterSlotsAreOfNewerLocks, List, Mark, Marked, None, Occurs, Option, Origin, OriginParts, PutsGuard, PutsOrigin, RenamedFactsAreTheImage, SeenBefore, SeenFrom, SeenTo, SlotsHaveWhatIsGiven, Some, View, ap, arith, arrow, arrow_by, chain, fact_by, fact_slots, inl, inr, length, named_fact, refl, same_Some, slice_get, slice_get_within, slot_origin, subst, suc, sym, zero, ℕ}
use Rattle.ld_explain.proofs.Firsts.{AreFirsts-put, AreFirsts-same}
use Rattle.ld_explain.proofs.Guarding.{AreGuards-put, AreGuards-same}
use Rattle.ld_explain.proofs.Slots.{From-all, less, more, no_later, seen_none}
use Rattle.ld_explain.proofs.Traces.{occurs_somewhere, seen_end, seen_start}

-- a mark is no dependency
mark_is_no_dependency : (key : ℕ) (mark : Mark) (from to : ℕ) (kind : Kind) → ¬ (Marked key mark ≡ Dependency from to kind)
mark_is_no_dependency key mark from to kind e = subst Is e tt
  where
    Is : Fact → Type 0
    Is (Marked key mark) = Unit {0}
    Is (Dependency from to kind) = ⊥

abbrev arrow_of_fact : Fact → Arrow
arrow_of_fact (Dependency from to kind) = arrow from to kind
arrow_of_fact (Marked key mark) = arrow 0 0 En

-- the same occurrences of some facts
among-same : (In : Fact → Type 0) (P Q : Fact → Origin → Type 0) → ((x : Fact) (o : Origin) → P x o ↔ Q x o) →
    (x : Fact) (o : Origin) → Among In P x o ↔ Among In Q x o
among-same In P Q same x o = ((λ (a, p). (a, (same x o).0 p)), (λ (a, q). (a, (same x o).1 q)))

-- what holds of them as it was holds if the same was seen
module _ (view : View) (asked : FactParts) where
  pub along : (P Q : Fact → Origin → Type 0) → ((x : Fact) (o : Origin) → P x o ↔ Q x o) → (origins : OriginParts) (guards : GuardParts) →
      AreTakenIn view asked P origins guards → AreTakenIn view asked Q origins guards
  along P Q same origins guards are = record {
    firsts = AreFirsts-same (Among (HasFact asked) P) (Among (HasFact asked) Q) origins (among-same (HasFact asked) P Q same) are.firsts;
    guarded = AreGuards-same view (Among (AsksOrder asked) P) (Among (AsksOrder asked) Q) guards (among-same (AsksOrder asked) P Q same) are.guarded;
  }

  order_asked : (x : Fact) → AsksOrder asked x → HasFact asked x
  order_asked (Dependency from to kind) h = h
  order_asked (Marked key mark) h = absurd h

  -- ---- slot by slot
  module _ (t : List Event) (trace place : ℕ) (c : ChainParts) where
    abbrev From : ℕ → Fact → Origin → Type 0
    From n = SeenFrom view t trace place c n

    pub taken_last : (origins : OriginParts) (guards : GuardParts) → AreTakenIn view asked (SeenTo view trace place) origins guards →
        AreTakenIn view asked (From (fact_slots c)) origins guards
    taken_last = along (SeenTo view trace place) (From (fact_slots c))
        (λ x o. ((λ seen. inl seen), (λ h. elim h [ inl seen ↦ seen | inr (m, l, within, at, is) ↦ absurd (omega (arith, l, within)) ])))

    -- a slot with none of these facts gives no occurrence of them
    none_in : (In : Fact → Type 0) (n : ℕ) → ((x : Fact) → named_fact view.rename c n ≡ Some x → ¬ In x) → (x : Fact) (o : Origin) →
        Among In (From (n + 1)) x o ↔ Among In (From n) x o
    none_in In n none x o = (
      (λ (a, p). (a, more view t trace place c n x o p)),
      (λ (a, q). elim (less view t trace place c n x o q) [ inl p ↦ (a, p) | inr one ↦ absurd (none x one.0 a) ]),
    )

    pub taken_pass : (n : ℕ) → ((x : Fact) → named_fact view.rename c n ≡ Some x → ¬ HasFact asked x) → (origins : OriginParts) (guards : GuardParts) →
        AreTakenIn view asked (From (n + 1)) origins guards → AreTakenIn view asked (From n) origins guards
    taken_pass n unasked origins guards are = record {
      firsts = AreFirsts-same (Among (HasFact asked) (From (n + 1))) (Among (HasFact asked) (From n)) origins (none_in (HasFact asked) n unasked) are.firsts;
      guarded = AreGuards-same view (Among (AsksOrder asked) (From (n + 1))) (Among (AsksOrder asked) (From n)) guards
          (none_in (AsksOrder asked) n (λ x at h. unasked x at (order_asked x h))) are.guarded;
    }

    -- if no slot has one that is asked about, nothing more is seen of those
    pub taken_skip : ((n : ℕ) (x : Fact) → named_fact view.rename c n ≡ Some x → ¬ HasFact asked x) → (origins : OriginParts) (guards : GuardParts) →
        AreTakenIn view asked (SeenTo view trace place) origins guards → AreTakenIn view asked (From 0) origins guards
    taken_skip unasked origins guards are = down (fact_slots c) (taken_last origins guards are)
      where
        down : (n : ℕ) → AreTakenIn view asked (From n) origins guards → AreTakenIn view asked (From 0) origins guards
        down zero from = from
        down (suc n) from = down n (taken_pass n (unasked n) origins guards
            (subst (λ k. AreTakenIn view asked (From k) origins guards) (let e : suc n ≡ n + 1 = omega arith in e) from))

    -- a slot with a dependency
    pub guards_take : (n : ℕ) (fact : Fact) → n < fact_slots c → named_fact view.rename c n ≡ Some fact → AsksOrder asked fact → (old new : GuardParts) (gates : List ℕ) →
        PutsGuard old new fact trace gates → ((key : ℕ) → Contains gates key ↔ GuardsAt view key (slot_origin t trace place c n)) →
        AreGuards view (Among (AsksOrder asked) (From (n + 1))) old → AreGuards view (Among (AsksOrder asked) (From n)) new
    guards_take n fact within at is_asked old new gates puts guard are =
        AreGuards-put view (Among (AsksOrder asked) (From (n + 1))) (Among (AsksOrder asked) (From n)) old new fact (slot_origin t trace place c n) gates puts guard
        (λ x o (a, p). (a, more view t trace place c n x o p)) (is_asked, inr (n, omega arith, within, at, refl))
        (λ x o (a, q). elim (less view t trace place c n x o q) [ inl p ↦ inl (a, p) | inr one ↦ inr (same_Some x fact (sym one.0 ∙ at), one.1) ])
        are

    -- and one with a mark
    pub guards_mark : (n key : ℕ) (mark : Mark) → named_fact view.rename c n ≡ Some (Marked key mark) → (guards : GuardParts) →
        AreGuards view (Among (AsksOrder asked) (From (n + 1))) guards → AreGuards view (Among (AsksOrder asked) (From n)) guards
    guards_mark n key mark at guards = AreGuards-same view (Among (AsksOrder asked) (From (n + 1))) (Among (AsksOrder asked) (From n)) guards
        (none_in (AsksOrder asked) n (λ x is h. subst (AsksOrder asked) (same_Some x (Marked key mark) (sym is ∙ at)) h))

    -- the origin of a slot's fact
    pub firsts_take : LaterSlotsAreOfNewerLocks → (n : ℕ) (fact : Fact) → n < fact_slots c → named_fact view.rename c n ≡ Some fact → HasFact asked fact → (old new : OriginParts) →
        PutsOrigin old new fact (slot_origin t trace place c n) →
        AreFirsts (Among (HasFact asked) (From (n + 1))) old → AreFirsts (Among (HasFact asked) (From n)) new
    firsts_take newer n fact within at is_asked old new puts =
        AreFirsts-put (Among (HasFact asked) (From (n + 1))) (Among (HasFact asked) (From n)) old new fact (slot_origin t trace place c n) puts
        (λ x o (a, p). (a, more view t trace place c n x o p)) (is_asked, inr (n, omega arith, within, at, refl))
        (λ x o (a, q). elim (less view t trace place c n x o q) [ inl p ↦ inl (a, p) | inr one ↦ inr (same_Some x fact (sym one.0 ∙ at), one.1) ])
        (λ o (a, was). no_later view t trace place c newer n fact o was)

    pub taken_chain : slice_get view.traces trace ≡ Some t → chain t place ≡ Some c → SlotsHaveWhatIsGiven → (origins : OriginParts) (guards : GuardParts) →
        AreTakenIn view asked (From 0) origins guards → AreTakenIn view asked (SeenTo view trace (place + 1)) origins guards
    taken_chain here is exact = along (From 0) (SeenTo view trace (place + 1)) (From-all view t trace place c here is exact)

  -- ---- event by event, and trace by trace
  module _ (t : List Event) (trace : ℕ) (here : slice_get view.traces trace ≡ Some t) where
    pub taken_none : (place : ℕ) → chain t place ≡ None → (origins : OriginParts) (guards : GuardParts) →
        AreTakenIn view asked (SeenTo view trace place) origins guards → AreTakenIn view asked (SeenTo view trace (place + 1)) origins guards
    taken_none place none = along (SeenTo view trace place) (SeenTo view trace (place + 1)) (seen_none view t trace place here none)

    pub taken_end : (place : ℕ) → length t ≤ place → (origins : OriginParts) (guards : GuardParts) →
        AreTakenIn view asked (SeenTo view trace place) origins guards → AreTakenIn view asked (SeenBefore view (trace + 1)) origins guards
    taken_end place past = along (SeenTo view trace place) (SeenBefore view (trace + 1)) (seen_end view trace t place here past)

  pub taken_start : (trace : ℕ) (origins : OriginParts) (guards : GuardParts) →
      AreTakenIn view asked (SeenBefore view trace) origins guards → AreTakenIn view asked (SeenTo view trace zero) origins guards
  taken_start trace = along (SeenBefore view trace) (SeenTo view trace zero) (seen_start view trace)

  -- ---- after the last trace
  module _ (d : Arrow) where
    abbrev fact : Fact
    fact = Dependency d.start d.end d.kind

    -- an occurrence as a dependency of its trace, by its keys' own names
    record IsBy (o : Origin) : Type 0 where
      t : List Event
      is_trace : slice_get view.traces o.trace ≡ Some t
      e : Arrow
      named : arrow_by view.rename e ≡ d
      by : IsDependency t e.start e.end e.kind
      held_is : o.held ≡ Some by.i
      place_is : o.place ≡ by.j

    is_by : (o : Origin) → Occurs view fact o → IsBy o
    is_by o occurs = from occurs.fact occurs.named o.held refl occurs.gives
      where
        from : (y : Fact) → fact_by view.rename y ≡ fact → (held : Option ℕ) → o.held ≡ held → Gives occurs.t y o.place held → IsBy o
        from (Marked key mark) named held e gives = absurd (mark_is_no_dependency (view.rename key) mark d.start d.end d.kind named)
        from (Dependency a b k) named None e gives = absurd gives
        from (Dependency a b k) named (Some i) e (dependency, di, dj) = record {
          t = occurs.t;
          is_trace = occurs.is_trace;
          e = arrow a b k;
          named = ap arrow_of_fact named;
          by = dependency;
          held_is = e ∙ ap Some (sym di);
          place_is = sym dj;
        }

    abbrev origin_of : (trace : ℕ) (t : List Event) (e : Arrow) → IsDependency t e.start e.end e.kind → Origin
    origin_of trace t e o = record { trace = trace; place = o.j; held = Some o.i }

    occurs_by : (trace : ℕ) (t : List Event) → slice_get view.traces trace ≡ Some t → (e : Arrow) → arrow_by view.rename e ≡ d →
        (o : IsDependency t e.start e.end e.kind) → Occurs view fact (origin_of trace t e o)
    occurs_by trace t at e named o =
        record { t = t; is_trace = at; fact = Dependency e.start e.end e.kind; gives = (o, refl, refl); named = ap (λ (x : Arrow). Dependency x.start x.end x.kind) named }

    -- what guards all occurrences is a gate
    all_gate : (key : ℕ) → ((o : Origin) → Occurs view fact o → GuardsAt view key o) ↔ IsGate view d key
    all_gate key = (
      (λ all trace t at e named o.
          let g = all (origin_of trace t e o) (occurs_by trace t at e named o) in
          let same_t : g.t ≡ t = same_Some g.t t (sym g.is_trace ∙ at) in
          let same_i : g.i ≡ o.i = sym (same_Some o.i g.i g.held_is) in
          subst (λ i. Guarded view.rename t key i o.j) same_i (subst (λ s. Guarded view.rename s key g.i o.j) same_t g.guarded)),
      (λ gate o occurs.
          let b = is_by o occurs in
          record {
            t = b.t;
            i = b.by.i;
            is_trace = b.is_trace;
            held_is = b.held_is;
            guarded = subst (λ p. Guarded view.rename b.t key b.by.i p) (sym b.place_is) (gate o.trace b.t b.is_trace b.e b.named b.by);
          }),
    )

    -- and what has all occurrences has the dependency alone
    only_one : (e : Arrow) → Contains (d ∷ []) e → d ≡ e
    only_one e (zero, l, at) = at
    only_one e (suc k, l, at) = absurd (omega (arith, l))

    all_alone : (trace : ℕ) → ((o : Origin) → Occurs view fact o → o.trace ≡ trace) ↔ IsAloneIn view (d ∷ []) trace
    all_alone trace = (
      (λ all x has other t at e named o. all (origin_of other t e o) (occurs_by other t at e (named ∙ sym (only_one x has)) o)),
      (λ alone o occurs. let b = is_by o occurs in alone d (0, omega arith, refl) o.trace b.t b.is_trace b.e b.named b.by),
    )

  pub AreGuardsOf-end : RenamedFactsAreTheImage → (parts : GuardParts) (trace : ℕ) → length view.traces ≤ trace →
      AreGuards view (Among (AsksOrder asked) (SeenBefore view trace)) parts → AreGuardsOf view asked parts
  AreGuardsOf-end image parts trace past are = record {
    all = λ d is_asked has. let (o, occurs) = occurs_somewhere view (fact d) ((image view.rename view.traces (fact d)).0 has) in are.all (fact d) o (is_asked, (occurs, within (fact d) o occurs));
    gates = λ d is_asked g has key. let r = are.gates (fact d) g has key in (
      (λ c. (all_gate d key).0 (λ o occurs. r.0 c o (is_asked, (occurs, within (fact d) o occurs)))),
      (λ gate. r.1 (λ o (a, (occurs, l)). (all_gate d key).1 gate o occurs)),
    );
    only = λ d is_asked g has n. let r = are.only (fact d) g has n in (
      (λ e. (all_alone d n).0 (λ o occurs. r.0 e o (is_asked, (occurs, within (fact d) o occurs)))),
      (λ alone. r.1 (λ o (a, (occurs, l)). (all_alone d n).1 alone o occurs)),
    );
  }
    where
      within : (x : Fact) (o : Origin) → Occurs view x o → o.trace < trace
      within x o occurs = omega (arith, past, slice_get_within view.traces o.trace occurs.t occurs.is_trace)

  pub AreOriginsOf-end : RenamedFactsAreTheImage → (parts : OriginParts) (trace : ℕ) → length view.traces ≤ trace →
      AreFirsts (Among (HasFact asked) (SeenBefore view trace)) parts → AreOriginsOf view asked parts
  AreOriginsOf-end image parts trace past firsts = record {
    first = λ x o has. let (is_asked, (here, l)) = firsts.seen x o has in record {
      here = here;
      first = λ other occurs. firsts.first x o other has (is_asked, (occurs, within x other occurs));
    };
    all = λ x is_asked has. let (o, occurs) = occurs_somewhere view x ((image view.rename view.traces x).0 has) in firsts.all x o (is_asked, (occurs, within x o occurs));
  }
    where
      within : (x : Fact) (o : Origin) → Occurs view x o → o.trace < trace
      within x o occurs = omega (arith, past, slice_get_within view.traces o.trace occurs.t occurs.is_trace)
