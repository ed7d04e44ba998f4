-- Circles of single locks are seen.
use Rattle.ld_explain.proofs.Names.{[], ◌++◌, ◌∙◌, ◌∷◌, ◌≡◌, ◌⊎◌, All-contains, Any-member, AreLevels, AreReported, AreSame, AreThose, AreVerdicts, Arrow, Between, Bor, Borrows, Circle, CirclesOfLocksAreSeen, Contains, Contains-append_left, Contains-append_right, Contains-cases, Contains-flat_map, Contains-head, Contains-later, Contains-map, Contains-unmap, Dependency, Double, En, Er, Event, Fact, FactParts, Finding, HasFact, HasMember, Inversion, IsBetween, IsCircle, IsClean, IsFalse, IsReported, IsSeenAt, IsSomeAnd, IsSure, IsTrue, IsUnseenAt, Kind, LevelParts, Levels, List, Name, NoCircleIsLost, NoCirclesAreLost, None, OnCircle, OnCircle-image, OnCircle-member, OnCircle-more, OnCircle-same, Option, OwnNamesChangeNothing, Renamed, RenamedFactsAreTheImage, Sn, Some, Sr, TracesHave, TracesHaveBy, Verdict, View, ViewHas, ap, append_assoc, arith, arrow, arrow_by, arrows_among, inl, inr, is_some, kinds, levels_of, map, plain, refl, slice_index, subst, sym, true, true≢false, view_of, ℕ}
use Rattle.ld_explain.proofs.SettlingLemmas.{borrowed-all, borrowed-none}
use Rattle.ld_explain.specs.Findings.{Are}
use Rattle.ld_explain.specs.declared.verdict.Between.TheVariants as between

-- ---- what is found
has-kind : (kind : Kind) → Contains kinds kind
has-kind Er = Contains-head Er (En ∷ Sr ∷ Sn ∷ [])
has-kind En = Contains-later Er (En ∷ Sr ∷ Sn ∷ []) En (Contains-head En (Sr ∷ Sn ∷ []))
has-kind Sr = Contains-later Er (En ∷ Sr ∷ Sn ∷ []) Sr (Contains-later En (Sr ∷ Sn ∷ []) Sr (Contains-head Sr (Sn ∷ [])))
has-kind Sn = Contains-later Er (En ∷ Sr ∷ Sn ∷ []) Sn (Contains-later En (Sr ∷ Sn ∷ []) Sn (Contains-later Sr (Sn ∷ []) Sn (Contains-head Sn [])))

has-arrow : (keys : List ℕ) (d : Arrow) → Contains keys d.start → Contains keys d.end → Contains (arrows_among keys) d
has-arrow keys d starts ends = Contains-flat_map (λ from. _) keys d.start d starts
    (Contains-flat_map (λ to. map (arrow d.start to) kinds) keys d.end d ends (Contains-map (arrow d.start d.end) kinds d.kind (has-kind d.kind)))

AreThose-has : {X : Type 0} (P : X → Type 0) (xs those : List X) → AreThose P xs those → (x : X) → Contains xs x → P x → Contains those x
AreThose-has P [] those none x (k, l, e) p = absurd (omega (arith, l))
AreThose-has P (y ∷ ys) those (inl (q, (rest, is, more))) x has p = subst (λ ts. Contains ts x) (sym is) (elim (Contains-cases y ys x has) [
  | inl same ↦ subst (Contains (y ∷ rest)) same (Contains-head y rest)
  | inr later ↦ Contains-later y rest x (AreThose-has P ys rest more x later p)
])
AreThose-has P (y ∷ ys) those (inr (not, more)) x has p = elim (Contains-cases y ys x has) [
  | inl same ↦ absurd (not (subst P (sym same) p))
  | inr later ↦ AreThose-has P ys those more x later p
]

-- each dependency is a member of a circle that is reported
module _ (Has : Fact → Type 0) where
  member-of : (circles : List (List Arrow)) (d : Arrow) → IsReported circles d → (c : List Arrow) × Contains circles c × Contains c d
  member-of circles d = (Any-member (λ c. Contains c d) circles).0

  reported-all : (before : List (List Arrow)) (ds : List Arrow) (circles : List (List Arrow)) → AreReported Has before ds circles → (d : Arrow) → Contains ds d →
      (c : List Arrow) × Contains (before ++ circles) c × Contains c d
  reported-all before [] circles none d (k, l, e) = absurd (omega (arith, l))
  reported-all before (x ∷ ds) circles (inl (left, (circle, rest, shortest, is, more))) d has = elim (Contains-cases x ds d has) [
    | inl same ↦ (
      circle,
      Contains-append_right before circles circle (subst (λ cs. Contains cs circle) (sym is) (Contains-head circle rest)),
      subst (λ c. Contains c d) (sym shortest.walk_is) (subst (Contains (x ∷ shortest.rest)) same (Contains-head x shortest.rest)),
    )
    | inr later ↦
        let (c, there, member) = reported-all (before ++ circle ∷ []) ds rest more d later in
        (c, subst (λ cs. Contains cs c) (append_assoc before (circle ∷ []) rest ∙ ap (λ t. before ++ t) (sym is)) there, member)
  ]
  reported-all before (x ∷ ds) circles (inr (was, more)) d has = elim (Contains-cases x ds d has) [
    | inl same ↦
        let (c, there, member) = member-of before x was in
        (c, Contains-append_left before circles c there, subst (Contains c) same member)
    | inr later ↦ reported-all before ds circles more d later
  ]

-- ---- its verdict
Are-has : {X Y : Type 0} (R : X → Y → Type 0) (xs : List X) (ys : List Y) → Are R xs ys → (x : X) → Contains xs x → (y : Y) × Contains ys y × R x y
unfolding Are
Are-has R [] ys none x (k, l, e) = absurd (omega (arith, l))
Are-has R (z ∷ zs) ys (y, rest, is, are, at) x has = elim (Contains-cases z zs x has) [
  | inl same ↦ (y, subst (λ ts. Contains ts y) (sym at) (Contains-head y rest), subst (λ w. R w y) same is)
  | inr later ↦
      let (w, there, so) = Are-has R zs rest are x later in
      (w, subst (λ ts. Contains ts w) (sym at) (Contains-later y rest w there), so)
]

circle-has : (view : View) (keys : List ℕ) (walk : List Arrow) (d : Arrow) → Contains walk d → (finding : Finding) → IsCircle view keys walk finding → HasMember finding d
circle-has view keys walk d member (Circle orders gates only) is = subst (λ w. Contains w d) (sym is.0.members) member
circle-has view keys walk d member (Double irq key used enabled) none = none
circle-has view keys walk d member (Inversion irq a b orders used enabled gates) none = none

some-level : (o : Option (Bor FactParts)) (x : Fact) → IsSomeAnd o (λ s. HasFact s.now x) → is_some o ≡ true
some-level None x none = absurd none
some-level (Some s) x has = refl

module _ (levels : Levels) (view : View) (keys : List ℕ) (e : Arrow) (on : OnCircle (levels_of levels).sure.Has e) where
  seen-sure : (finding : Finding) → HasMember finding (arrow_by (levels_of levels).type e) →
      IsSeenAt keys (levels_of levels).sure.Has (levels_of levels).type (levels_of levels).sure finding
  seen-sure (Circle orders gates only) member = (e, OnCircle-member (levels_of levels).sure.Has e on, on, member)
  seen-sure (Double irq key used enabled) none = absurd none
  seen-sure (Inversion irq a b orders used enabled gates) none = absurd none

  is-locks : (finding : Finding) → HasMember finding (arrow_by (levels_of levels).type e) → (b : Between) → IsBetween (levels_of levels) view keys finding b →
      (nested : Finding) × (b ≡ between.Locks nested)
  is-locks finding member (between.Locks nested) is = (nested, refl)
  is-locks finding member (between.Perhaps nested) (unseen, is) = absurd (unseen.1 (seen-sure finding member))
  is-locks finding member between.Classes (unseen, also, is) = absurd (unseen.1 (seen-sure finding member))
  is-locks finding member between.Types (unseen, also, is) = absurd (unseen.1 (seen-sure finding member))
  is-locks finding member between.Unknown (inl not) =
      absurd (true≢false (sym (some-level levels.sure (Dependency e.start e.end e.kind) (OnCircle-member (levels_of levels).sure.Has e on)) ∙ not))
  is-locks finding member between.Unknown (inr (inl (unseen, is))) = absurd (unseen.1 (seen-sure finding member))
  is-locks finding member between.Unknown (inr (inr (unseen, also, is))) = absurd (unseen.1 (seen-sure finding member))

-- the verdict of a finding with the member is the last one, or it was seen between single locks
module _ (levels : Levels) (view : View) (keys : List ℕ) (e : Arrow)
    (on : IsTrue (levels_of levels).sure.is_settled → OnCircle (levels_of levels).sure.Has e) where
  not-unseen : (finding : Finding) → HasMember finding (arrow_by (levels_of levels).type e) →
      ¬ IsUnseenAt keys (levels_of levels).sure.Has (levels_of levels).type (levels_of levels).sure finding
  not-unseen finding member unseen = unseen.1 (seen-sure levels view keys e (on unseen.0) finding member)

  is-locks-or-open : (finding : Finding) → HasMember finding (arrow_by (levels_of levels).type e) → (b : Between) → IsBetween (levels_of levels) view keys finding b →
      ((nested : Finding) × (b ≡ between.Locks nested)) ⊎ ((b ≡ between.Unknown) × IsFalse (levels_of levels).sure.is_settled)
  is-locks-or-open finding member (between.Locks nested) is = inl (nested, refl)
  is-locks-or-open finding member (between.Perhaps nested) (unseen, is) = absurd (not-unseen finding member unseen)
  is-locks-or-open finding member between.Classes (unseen, also, is) = absurd (not-unseen finding member unseen)
  is-locks-or-open finding member between.Types (unseen, also, is) = absurd (not-unseen finding member unseen)
  is-locks-or-open finding member between.Unknown (inl unsettled) = inr (refl, unsettled)
  is-locks-or-open finding member between.Unknown (inr (inl (unseen, is))) = absurd (not-unseen finding member unseen)
  is-locks-or-open finding member between.Unknown (inr (inr (unseen, also, is))) = absurd (not-unseen finding member unseen)

module _ (own : OwnNamesChangeNothing) (image : RenamedFactsAreTheImage) where
  -- a circle of the traces' facts is by its types a circle of the facts of types, and one of the verdicts has it
  told : (levels : Levels) (traces : List (List Event)) (type_keys locks : List ℕ) (verdicts : List Verdict) →
      AreSame (HasFact levels.types.now) (ViewHas (view_of (Renamed levels.type_of) traces)) →
      AreVerdicts (HasFact levels.types.now) (view_of (Renamed levels.type_of) traces) type_keys (levels_of levels) (plain traces) locks verdicts →
      (e : Arrow) → OnCircle (TracesHave traces) e →
      Contains type_keys ((levels_of levels).type e.start) → Contains type_keys ((levels_of levels).type e.end) →
      OnCircle (HasFact levels.types.now) (arrow_by (levels_of levels).type e)
      × ((v : Verdict) × Contains verdicts v × HasMember v.finding (arrow_by (levels_of levels).type e)
      × IsBetween (levels_of levels) (plain traces) locks v.finding v.between)
  told levels traces type_keys locks verdicts types are e on starts ends =
      let type = (levels_of levels).type in
      let d = arrow_by type e in
      let Types = HasFact levels.types.now in
      let found : OnCircle Types d = (OnCircle-same _ Types (λ x. ((types x).1, (types x).0)) d).0
      ((OnCircle-same _ _ (λ x. ((image type traces x).1, (image type traces x).0)) d).0 (OnCircle-image (TracesHave traces) type e on)) in
      let there = AreThose-has (OnCircle Types) (arrows_among type_keys) are.findings.found.circles are.findings.found_are.circles d (has-arrow type_keys d starts ends) found in
      let (walk, reported, member) = reported-all Types [] are.findings.found.circles are.findings.walks are.findings.walks_are d there in
      let (finding, among, is) = Are-has (IsCircle (view_of (Renamed levels.type_of) traces) type_keys) are.findings.walks are.findings.circles are.findings.circles_are walk reported in
      let listed = subst (λ fs. Contains fs finding) (sym are.findings.are)
      (Contains-append_left are.findings.circles (are.findings.doubles ++ are.findings.inversions) finding among) in
      let (v, has, same) = Contains-unmap (λ (x : Verdict). x.finding) verdicts finding listed in
      let so = subst (λ f. HasMember f d) (sym same) (circle-has (view_of (Renamed levels.type_of) traces) type_keys walk d member finding is) in
      (found, (v, has, so, All-contains (λ (x : Verdict). IsBetween (levels_of levels) (plain traces) locks x.finding x.between) verdicts v are.between has))

  pub circles-are-seen : CirclesOfLocksAreSeen
  circles-are-seen levels traces type_keys locks verdicts types sure are e on starts ends =
      let between_locks = OnCircle-more (levels_of levels).sure.Has (TracesHave traces) (λ x has. (own traces x).0 (sure x has)) e on in
      let (found, (v, has, so, is)) = told levels traces type_keys locks verdicts types are e between_locks starts ends in
      (v, has, so, is-locks levels (plain traces) locks e on v.finding so v.between is)

  kept : (traces : List (List Event)) (names : List Name) (parts : LevelParts) (type_keys locks : List ℕ) (verdicts : List Verdict) →
      AreLevels traces names parts → (levels : Levels) → Borrows levels parts →
      AreVerdicts (HasFact levels.types.now) (view_of (Renamed levels.type_of) traces) type_keys (levels_of levels) (plain traces) locks verdicts →
      NoCircleIsLost traces names (slice_index levels.type_of.now) type_keys verdicts
  kept traces names parts type_keys locks verdicts settled levels borrows are e on starts ends =
      let Sure : Fact → Type 0 = λ x. TracesHave traces x × IsSure names x in
      let types : AreSame (HasFact levels.types.now) (ViewHas (view_of (Renamed levels.type_of) traces)) =
      subst (λ f. AreSame (HasFact f) (TracesHaveBy (slice_index levels.type_of.now) traces)) (sym borrows.types)
      (subst (λ t. AreSame (HasFact parts.types) (TracesHaveBy (slice_index t) traces)) (sym borrows.type_of) settled.types_are) in
      let (found, (v, has, so, is)) = told levels traces type_keys locks verdicts types are e
      (OnCircle-more Sure (TracesHave traces) (λ x both. both.0) e on) starts ends in
      let at_locks = is-locks-or-open levels (plain traces) locks e
      (λ yes. OnCircle-more Sure (levels_of levels).sure.Has (borrowed-all levels.sure parts.sure Sure borrows.sure settled.sure_are yes) e on)
      v.finding so v.between is in (
        v,
        has,
        (
          so,
          elim at_locks [
            | inl seen ↦ inl seen
            | inr (unknown, unsettled) ↦ inr (
              unknown,
              elim (settled.left_open (inr (inl (borrowed-none levels.sure parts.sure borrows.sure unsettled)))) [
                | inl clean ↦ absurd ((subst (λ f. IsClean (HasFact f)) (sym borrows.types) clean).circles _ found)
                | inr many ↦ many
              ],
            )
          ],
        ),
      )

  pub circles-are-kept : NoCirclesAreLost
  circles-are-kept traces names parts type_keys locks verdicts settled at =
      subst (λ t. NoCircleIsLost traces names (slice_index t) type_keys verdicts) at.levels_are.type_of
      (kept traces names parts type_keys locks verdicts settled at.levels at.levels_are at.verdicts_are)
