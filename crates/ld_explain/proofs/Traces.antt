-- First occurrences, trace by trace, and what is returned of them at the end.
use Rattle.ld_explain.proofs.Names.{◌+◌, ◌↔◌, ◌∙◌, ◌≡◌, ◌≤◌, AreOriginsOf, Dependency, Event, Fact, FactParts, Gives, HasFact, HasOrigin, IfSome, Image, IsKnown, IsNone, IsOriginOf, List, Marked, None, Occurs, Option, Origin, OriginParts, RenamedFactsAreTheImage, SeenBefore, SeenTo, Some, TraceHas, TracesHave, View, ap, arith, cases_eq, get_or_from_slice_get, inl, inr, length, refl, same_Some, slice_get, slice_get-get_or, slice_get_within, subst, sym, zero, ℕ}
use Rattle.ld_explain.proofs.Giving.{gives_within}

-- at the start of a trace the same was seen as before it
pub seen_start : (view : View) (trace : ℕ) (x : Fact) (o : Origin) → SeenBefore view trace x o ↔ SeenTo view trace zero x o
seen_start view trace x o = (
  (λ (occurs, l). (occurs, inl l)),
  (λ (occurs, before). elim before [ inl l ↦ (occurs, l) | inr (same, l) ↦ absurd (omega (arith, l)) ]),
)

-- and at its end the same as before the next one
pub seen_end : (view : View) (trace : ℕ) (t : List Event) (place : ℕ) → slice_get view.traces trace ≡ Some t → length t ≤ place →
    (x : Fact) (o : Origin) → SeenTo view trace place x o ↔ SeenBefore view (trace + 1) x o
seen_end view trace t place here past x o = (
  (λ (occurs, before). elim before [ inl l ↦ (occurs, omega (arith, l)) | inr (same, l) ↦ (occurs, omega (arith, same)) ]),
  (λ (occurs, l). elim (cases_eq o.trace trace) [
    | inr ne ↦ (occurs, inl (omega (arith, l, ne)))
    | inl same ↦
        let same_trace : occurs.t ≡ t = same_Some occurs.t t (sym occurs.is_trace ∙ ap (slice_get view.traces) same ∙ here) in
        let within = gives_within t occurs.fact o.place o.held (subst (λ s. Gives s occurs.fact o.place o.held) same_trace occurs.gives) in
        (occurs, inr (same, omega (arith, within, past)))
  ]),
)

-- ---- occurrences and facts
has_place : (t : List Event) (x : Fact) → TraceHas t x → (place : ℕ) × (held : Option ℕ) × Gives t x place held
has_place t (Dependency from to kind) d = (d.j, Some d.i, (d, refl, refl))
has_place t (Marked key mark) (inl m) = (m.j, None, (m, refl))
has_place t (Marked key mark) (inr m) = (m.j, Some m.i, (m, refl, refl))

place_has : (t : List Event) (x : Fact) (place : ℕ) (held : Option ℕ) → Gives t x place held → TraceHas t x
place_has t (Dependency from to kind) place (Some i) gives = gives.0
place_has t (Dependency from to kind) place None gives = absurd gives
place_has t (Marked key mark) place (Some i) gives = inr gives.0
place_has t (Marked key mark) place None gives = inl gives.0

module _ (view : View) (x : Fact) where
  pub occurs_somewhere : Image view.rename (TracesHave view.traces) x → (o : Origin) × Occurs view x o
  occurs_somewhere (y, (k, t, l, at, has), named) =
      let (place, held, gives) = has_place t y has in (
        record { trace = k; place = place; held = held },
        record { t = t; is_trace = slice_get-get_or view.traces k t l ∙ ap Some at; fact = y; gives = gives; named = named },
      )

  pub occurring_has : (o : Origin) → Occurs view x o → Image view.rename (TracesHave view.traces) x
  occurring_has o occurs =
      let l = slice_get_within view.traces o.trace occurs.t occurs.is_trace in (
        occurs.fact,
        (o.trace, occurs.t, l, get_or_from_slice_get view.traces o.trace occurs.t occurs.t occurs.is_trace, place_has occurs.t occurs.fact o.place o.held occurs.gives),
        occurs.named,
      )

-- what is returned of a fact
pub tells : RenamedFactsAreTheImage → (view : View) (asked : FactParts) (parts : OriginParts) → AreOriginsOf view asked parts → (x : Fact) → HasFact asked x → (r : Option Origin) →
    IfSome r (HasOrigin parts x) → (IsNone r → ¬ IsKnown parts x) → IsOriginOf view x r
tells image view asked parts are x is_asked None some none = (
  ((λ is has. none refl (are.all x is_asked has)), (λ not. refl)),
  tt,
)
tells image view asked parts are x is_asked (Some o) some none = (
  ((λ is has. absurd (cc)), (λ not. absurd (not ((image view.rename view.traces x).1 (occurring_has view x o (are.first x o some).here))))),
  are.first x o some,
)
