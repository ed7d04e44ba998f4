-- What a graph keeps is right when it is new, and after a dependency or a mark was added.
use Rattle.ld_graph.proofs.Names.{◌↔◌, ◌∙◌, ◌≡◌, ◌≤◌, Adds, AreEnds, AreSpan, Arrow, Bool, Comes, DependenciesOf, Enabled, Ends, Fact, FactBelow, FactParts, GRAPH_KEYS, HasFact, Holds, Irq, IsClean, IsClean-fewer, IsGraph, JoinsLinks, Leads, Leaves, LeavesTarget, List, Mark, MarkTurnsBack, Marked, OnCircle, OnCircle-member, Path, StaysClean, TakesArrow, TakesMark, Used, UsedIn, Way, arith, arrival, arrives_at, departs_from, false, has_bit, inl, inr, is_s, reaches, refl, rows_allowed, subst, sym, true, ℕ}
use Rattle.ld_facts.specs.declared.fact.Fact.TheVariants.{Dependency}
use Rattle.ld_graph.proofs.Paths.{OnCircle-iff, Path-more}
use Rattle.ld_graph.proofs.Ways.{Comes-path, Path-append, Path-from_way, Way-through, ways_taken}
use Rattle.ld_graph.proofs.CleanPlaces.{CleanPlaces-from, IsClean-from_places, CleanPlaces-dependency, CleanPlaces-mark, ComesBack, Joins, TurnsBackBy, arrows_within, arrows_added, Leads-kept, LinkArrives-adds, LinkLeaves-adds, LinkArrives-kept, LinkLeaves-kept}

pub facts_within : (facts : FactParts) → facts.keys ≤ GRAPH_KEYS → Holds (FactBelow GRAPH_KEYS) (HasFact facts)
facts_within facts few (Dependency from to kind) h = let l = h.0 in (omega arith, omega arith)
facts_within facts few (Marked key mark) h = let l = h.0 in omega arith

off_on : {A : Type 0} (b : Bool) → b ≡ false → b ≡ true → A
off_on b off on = absurd (let e : false ≡ true = sym off ∙ on in cc)

-- ---- a new graph
pub IsGraph-new : (facts : FactParts) (table : List (List ℕ)) (ends : Ends) → facts.keys ≤ GRAPH_KEYS → ((x : Fact) → ¬ HasFact facts x) →
    ((p q : ℕ) → reaches table p q ≡ false) →
    ((irq : Irq) (p : ℕ) → arrives_at ends irq p ≡ false) → ((irq : Irq) (q : ℕ) → departs_from ends irq q ≡ false) →
    IsGraph facts table ends true 0
IsGraph-new facts table ends few free empty arrivals departures = record {
  few = few;
  ways = λ p q. (
    (λ h. off_on (reaches table p q) (empty p q) h),
    (λ (m, (d, has, leaves, arrives), path). absurd (free (Dependency d.start d.end d.kind) has)),
  );
  ends_are = record {
    arrives = λ irq p. ((λ h. off_on (arrives_at ends irq p) (arrivals irq p) h), (λ (a, r, used, at). absurd (free (Marked a (UsedIn irq r)) used)));
    leaves = λ irq q. ((λ h. off_on (departs_from ends irq q) (departures irq q) h), (λ (b, s, enabled, leaves). absurd (free (Marked b (Enabled irq s)) enabled)));
  };
  flag = (
    (λ h. record {
      circles = λ d on. free (Dependency d.start d.end d.kind) (OnCircle-member (HasFact facts) d on);
      doubles = λ irq a (l, by). free (Marked l.start (Enabled irq (is_s l.kind))) by.0.0;
      inversions = λ irq a b (d, rest, l, by). free (Marked l.start (Enabled irq (is_s l.kind))) by.1.0;
    }),
    (λ h. refl),
  );
  bound = omega arith;
}

-- ---- look-ups
pub OnCircle-by_table : (facts : FactParts) (table : List (List ℕ)) → facts.keys ≤ GRAPH_KEYS →
    ((p q : ℕ) → (reaches table p q ≡ true) ↔ Way (Leads (DependenciesOf (HasFact facts))) p q) → (d : Arrow) → DependenciesOf (HasFact facts) d →
    (targets : List ℕ) → ((q : ℕ) → (has_bit targets q ≡ true) ↔ Comes table (arrival d) q) →
    OnCircle (HasFact facts) d ↔ LeavesTarget targets d.start (is_s d.kind)
OnCircle-by_table facts table few ways d has targets are =
    let iff = OnCircle-iff (HasFact facts) (arrows_within (HasFact facts) (facts_within facts few)) d has in
    let comes = Comes-path (Leads (DependenciesOf (HasFact facts))) table ways (arrival d) in (
      (λ on. let (q, path, leaves) = iff.0 on in (q, leaves, (are q).1 ((comes q).1 path))),
      (λ (q, leaves, target). iff.1 (q, (comes q).0 ((are q).0 target), leaves)),
    )

-- links that a dependency joins, by the rows of its sources and targets
pub JoinsLinks-iff : (facts : FactParts) (table : List (List ℕ)) (ends : Ends) →
    ((p q : ℕ) → (reaches table p q ≡ true) ↔ Way (Leads (DependenciesOf (HasFact facts))) p q) → AreEnds (HasFact facts) ends →
    (d : Arrow) (sources targets : List ℕ) → AreSpan table d sources targets →
    JoinsLinks sources targets ends ↔ ((irq : Irq) × Joins (HasFact facts) d irq)
JoinsLinks-iff facts table ends ways ends_are d sources targets span = (
  (λ (irq, ((p, source, arrives), (q, target, leaves))).
      let (l, left, to) = (span.sources_are p).0 source in (
        irq,
        (
          (p, (l, left, (comes p l).0 to), (ends_are.arrives irq p).0 arrives),
          (q, (comes (arrival d) q).0 ((span.targets_are q).0 target), (ends_are.leaves irq q).0 leaves),
        ),
      )),
  (λ (irq, ((p, (l, left, to), arrives), (q, target, leaves))). (
    irq,
    (
      (p, (span.sources_are p).1 (l, left, (comes p l).1 to), (ends_are.arrives irq p).1 arrives),
      (q, (span.targets_are q).1 ((comes (arrival d) q).1 target), (ends_are.leaves irq q).1 leaves),
    ),
  )),
)
  where
    comes : (p q : ℕ) → Comes table p q ↔ Path (Leads (DependenciesOf (HasFact facts))) p q
    comes p q = Comes-path (Leads (DependenciesOf (HasFact facts))) table ways p q

-- ---- a dependency is added
ends_kept : (old new : FactParts) (d : Arrow) → Adds (HasFact old) (HasFact new) (λ x. x ≡ Dependency d.start d.end d.kind) →
    (ends : Ends) → AreEnds (HasFact old) ends → AreEnds (HasFact new) ends
ends_kept old new d adds ends are = record {
  arrives = λ irq p. let kept = LinkArrives-kept (HasFact old) (HasFact new) d adds irq p in
      ((λ h. kept.1 ((are.arrives irq p).0 h)), (λ h. (are.arrives irq p).1 (kept.0 h)));
  leaves = λ irq q. let kept = LinkLeaves-kept (HasFact old) (HasFact new) d adds irq q in
      ((λ h. kept.1 ((are.leaves irq q).0 h)), (λ h. (are.leaves irq q).1 (kept.0 h)));
}

-- one that opens no way: from each place that it leaves there is one to where it arrives
module _ (old new : FactParts) (d : Arrow) (keys : new.keys ≡ old.keys)
    (adds : Adds (HasFact old) (HasFact new) (λ x. x ≡ Dependency d.start d.end d.kind))
    (table : List (List ℕ)) (ends : Ends) (clean : Bool) (searched : ℕ) (was : IsGraph old table ends clean searched)
    (leads : (l : ℕ) → Leaves d l → reaches table l (arrival d) ≡ true) where
  abbrev Edge : ℕ → ℕ → Type 0
  Edge = Leads (DependenciesOf (HasFact old))

  led : (l : ℕ) → Leaves d l → Way Edge l (arrival d)
  led l leaves = (was.ways l (arrival d)).0 (leads l leaves)

  through : (p l q : ℕ) → Path Edge p l → Leaves d l → Path Edge (arrival d) q → Way Edge p q
  through p l q before leaves after =
      let (m, e, path) = led l leaves in Way-through Edge p l m q before e (Path-append Edge path after)

  takes_none : TakesArrow table table d
  takes_none p q = (
    (λ h. inl h),
    (λ h. elim h [
      | inl o ↦ o
      | inr ((l, leaves, before), after) ↦ (was.ways p q).1
          (through p l q ((Comes-path Edge table was.ways p l).0 before) leaves ((Comes-path Edge table was.ways (arrival d) q).0 after))
    ]),
  )

  comes_back_on : ComesBack (HasFact old) d → (x : Arrow) × OnCircle (HasFact old) x
  comes_back_on (q, leaves, path) =
      let (m, (x, has, left, at), rest) = led q leaves in (
        x,
        (OnCircle-iff (HasFact old) (arrows_within (HasFact old) (facts_within old was.few)) x has).1
            (q, subst (λ p. Path Edge p q) (sym at) (Path-append Edge rest path), left),
      )

  clean_still : IsClean (HasFact old) → IsClean (HasFact new)
  clean_still clean_old =
      let within = facts_within new (subst (λ k. k ≤ GRAPH_KEYS) (sym keys) was.few) in
      let places = CleanPlaces-from (HasFact old) (facts_within old was.few) clean_old in
      IsClean-from_places (HasFact new) within ((CleanPlaces-dependency (HasFact old) (HasFact new) d adds within places).1 (
        (λ back. let (x, on) = comes_back_on back in places.circles x on),
        λ irq ((p, (l, leaves, before), arrives), (q, after, out)).
            places.links irq (p, q, arrives, out, Path-from_way Edge p q (through p l q before leaves after)),
      ))

  pub IsGraph-led : (now : ℕ) → now ≤ rows_allowed new → IsGraph new table ends clean now
  IsGraph-led now bound = record {
    few = subst (λ k. k ≤ GRAPH_KEYS) (sym keys) was.few;
    ways = ways_taken (DependenciesOf (HasFact old)) (DependenciesOf (HasFact new)) d table table (arrows_added (HasFact old) (HasFact new) d adds) was.ways takes_none;
    ends_are = ends_kept old new d adds ends was.ends_are;
    flag = (
      (λ h. clean_still (was.flag.0 h)),
      (λ h. was.flag.1 (IsClean-fewer (HasFact old) (HasFact new) (λ x o. (adds x).1 (inl o)) h)),
    );
    bound = bound;
  }

-- any
module _ (old new : FactParts) (d : Arrow) (keys : new.keys ≡ old.keys)
    (adds : Adds (HasFact old) (HasFact new) (λ x. x ≡ Dependency d.start d.end d.kind))
    (table table' : List (List ℕ)) (takes : TakesArrow table table' d) (sources targets : List ℕ) (span : AreSpan table d sources targets)
    (ends : Ends) (clean : Bool) (searched : ℕ) (was : IsGraph old table ends clean searched) where
  few : new.keys ≤ GRAPH_KEYS
  few = subst (λ k. k ≤ GRAPH_KEYS) (sym keys) was.few

  comes : (p q : ℕ) → Comes table p q ↔ Path (Leads (DependenciesOf (HasFact old))) p q
  comes p q = Comes-path (Leads (DependenciesOf (HasFact old))) table was.ways p q

  turns : LeavesTarget targets d.start (is_s d.kind) ↔ ComesBack (HasFact old) d
  turns = (
    (λ (q, leaves, target). (q, leaves, (comes (arrival d) q).0 ((span.targets_are q).0 target))),
    (λ (q, leaves, target). (q, leaves, (span.targets_are q).1 ((comes (arrival d) q).1 target))),
  )

  joins : JoinsLinks sources targets ends ↔ ((irq : Irq) × Joins (HasFact old) d irq)
  joins = JoinsLinks-iff old table ends was.ways was.ends_are d sources targets span

  clean_new : IsClean (HasFact old) → IsClean (HasFact new) ↔ StaysClean sources targets ends d.start (is_s d.kind)
  clean_new clean_old =
      let within = facts_within new few in
      let iff = CleanPlaces-dependency (HasFact old) (HasFact new) d adds within (CleanPlaces-from (HasFact old) (facts_within old was.few) clean_old) in (
        (λ now. let (no_circle, no_link) = iff.0 (CleanPlaces-from (HasFact new) within now) in
            ((λ back. no_circle (turns.0 back)), (λ j. let (irq, by) = joins.0 j in no_link irq by))),
        (λ (no_turn, no_join). IsClean-from_places (HasFact new) within
            (iff.1 ((λ back. no_turn (turns.1 back)), λ irq j. no_join (joins.1 (irq, j))))),
      )

  pub IsGraph-dependency : (fine : Bool) (now : ℕ) →
      ((fine ≡ true) ↔ ((clean ≡ true) × StaysClean sources targets ends d.start (is_s d.kind))) →
      now ≤ rows_allowed new → IsGraph new table' ends fine now
  IsGraph-dependency fine now iff bound = record {
    few = few;
    ways = ways_taken (DependenciesOf (HasFact old)) (DependenciesOf (HasFact new)) d table table' (arrows_added (HasFact old) (HasFact new) d adds) was.ways takes;
    ends_are = ends_kept old new d adds ends was.ends_are;
    flag = (
      (λ h. let (on, stays) = iff.0 h in (clean_new (was.flag.0 on)).1 stays),
      (λ h. let before = IsClean-fewer (HasFact old) (HasFact new) (λ x o. (adds x).1 (inl o)) h in
          iff.1 (was.flag.1 before, (clean_new before).0 h)),
    );
    bound = bound;
  }

-- ---- a mark is added
Way-more : (E F : ℕ → ℕ → Type 0) → ((a b : ℕ) → E a b → F a b) → (p q : ℕ) → Way E p q → Way F p q
Way-more E F up p q (m, e, path) = (m, up p m e, Path-more E F up path)

module _ (old new : FactParts) (key : ℕ) (mark : Mark) (keys : new.keys ≡ old.keys)
    (adds : Adds (HasFact old) (HasFact new) (λ x. x ≡ Marked key mark)) (table : List (List ℕ))
    (ends ends' : Ends) (takes : TakesMark ends ends' key mark)
    (clean : Bool) (searched : ℕ) (was : IsGraph old table ends clean searched) where
  few_marked : new.keys ≤ GRAPH_KEYS
  few_marked = subst (λ k. k ≤ GRAPH_KEYS) (sym keys) was.few

  comes_marked : (p q : ℕ) → Comes table p q ↔ Path (Leads (DependenciesOf (HasFact old))) p q
  comes_marked p q = Comes-path (Leads (DependenciesOf (HasFact old))) table was.ways p q

  turns_marked : (m : Mark) → MarkTurnsBack table ends key m ↔ TurnsBackBy (HasFact old) (Marked key m)
  turns_marked Used = ((λ h. h), (λ h. h))
  turns_marked (UsedIn irq read) = (
    (λ (q, leaves, target). (q, (was.ends_are.leaves irq q).0 leaves, (comes_marked _ q).0 target)),
    (λ (q, leaves, target). (q, (was.ends_are.leaves irq q).1 leaves, (comes_marked _ q).1 target)),
  )
  turns_marked (Enabled irq read) = (
    (λ (p, arrives, (l, leaves, to)). (p, (was.ends_are.arrives irq p).0 arrives, (l, leaves, (comes_marked p l).0 to))),
    (λ (p, arrives, (l, leaves, to)). (p, (was.ends_are.arrives irq p).1 arrives, (l, leaves, (comes_marked p l).1 to))),
  )

  clean_marked : IsClean (HasFact old) → IsClean (HasFact new) ↔ (¬ MarkTurnsBack table ends key mark)
  clean_marked clean_old =
      let iff = CleanPlaces-mark (HasFact old) (HasFact new) key mark adds (CleanPlaces-from (HasFact old) (facts_within old was.few) clean_old) in (
        (λ now t. iff.0 (CleanPlaces-from (HasFact new) (facts_within new few_marked) now) ((turns_marked mark).0 t)),
        (λ no_turn. IsClean-from_places (HasFact new) (facts_within new few_marked) (iff.1 (λ t. no_turn ((turns_marked mark).1 t)))),
      )

  pub IsGraph-mark : (fine : Bool) (now : ℕ) → ((fine ≡ true) ↔ ((clean ≡ true) × ¬ MarkTurnsBack table ends key mark)) →
      now ≤ rows_allowed new → IsGraph new table ends' fine now
  IsGraph-mark fine now iff bound = record {
    few = few_marked;
    ways = λ p q. (
      (λ h. Way-more (Leads (DependenciesOf (HasFact old))) (Leads (DependenciesOf (HasFact new))) (λ a b. (Leads-kept (HasFact old) (HasFact new) key mark adds a b).1) p q ((was.ways p q).0 h)),
      (λ h. (was.ways p q).1 (Way-more (Leads (DependenciesOf (HasFact new))) (Leads (DependenciesOf (HasFact old))) (λ a b. (Leads-kept (HasFact old) (HasFact new) key mark adds a b).0) p q h)),
    );
    ends_are = record {
      arrives = λ irq p. let iff = LinkArrives-adds (HasFact old) (HasFact new) (λ x. x ≡ Marked key mark) adds irq p in (
        (λ h. iff.1 (elim ((takes.arrives irq p).0 h) [ inl o ↦ inl ((was.ends_are.arrives irq p).0 o) | inr n ↦ inr n ])),
        (λ h. (takes.arrives irq p).1 (elim (iff.0 h) [ inl o ↦ inl ((was.ends_are.arrives irq p).1 o) | inr n ↦ inr n ])),
      );
      leaves = λ irq q. let iff = LinkLeaves-adds (HasFact old) (HasFact new) (λ x. x ≡ Marked key mark) adds irq q in (
        (λ h. iff.1 (elim ((takes.leaves irq q).0 h) [ inl o ↦ inl ((was.ends_are.leaves irq q).0 o) | inr n ↦ inr n ])),
        (λ h. (takes.leaves irq q).1 (elim (iff.0 h) [ inl o ↦ inl ((was.ends_are.leaves irq q).1 o) | inr n ↦ inr n ])),
      );
    };
    flag = (
      (λ h. let (on, stays) = iff.0 h in (clean_marked (was.flag.0 on)).1 stays),
      (λ h. let before = IsClean-fewer (HasFact old) (HasFact new) (λ x o. (adds x).1 (inl o)) h in
          iff.1 (was.flag.1 before, (clean_marked before).0 h)),
    );
    bound = bound;
  }
