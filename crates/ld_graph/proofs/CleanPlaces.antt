-- Clean facts, by places: no way leads from where a link arrives to where one of the same state leaves.
use Rattle.ld_graph.proofs.Names.{◌<◌, ◌↔◌, ◌∙◌, ◌≡◌, ◌⊎◌, Adds, Arrow, Bool, DependenciesOf, En, Enabled, Er, Fact, FactBelow, GRAPH_KEYS, Holds, Irq, IsClean, IsLink, Kind, Leads, Leaves, LeavesFrom, LinkArrives, LinkLeaves, Mark, Marked, MayFollow, OnCircle, Path, Sn, Sr, StrongWalk-more, Used, UsedIn, Way, ap, arrival, arrow, false, inl, inr, is_r, is_s, none, place, refl, subst, sym, true, ℕ}
use Rattle.ld_facts.specs.declared.fact.Fact.TheVariants.{Dependency}
use Rattle.ld_graph.proofs.Circles.{OnCircle-new}
use Rattle.ld_graph.proofs.Paths.{IsWithin, Leaves-from_MayFollow, MayFollow-from_Leaves, OnCircle-iff, Path-more}
use Rattle.ld_graph.proofs.Links.{ClosesWith-iff, IsInversion-iff}
use Rattle.ld_graph.proofs.Ways.{Path-cases, Path-from_way, Path-new, Path-joined, Path-kept, Leads-added}

-- a link of the state and the dependencies lead back to where it starts
abbrev pub LinksBack : (Fact → Type 0) → Irq → Type 0
LinksBack Has irq = (p q : ℕ) × LinkArrives Has irq p × LinkLeaves Has irq q × Path (Leads (DependenciesOf Has)) p q

pub record CleanPlaces (Has : Fact → Type 0) : Type 0 where
  pub circles : (d : Arrow) → ¬ OnCircle Has d
  pub links : (irq : Irq) → ¬ LinksBack Has irq

pub arrows_within : (Has : Fact → Type 0) → Holds (FactBelow GRAPH_KEYS) Has → IsWithin (DependenciesOf Has)
arrows_within Has within = record {
  starts = λ d h. (within (Dependency d.start d.end d.kind) h).0;
  ends = λ d h. (within (Dependency d.start d.end d.kind) h).1;
}

-- the link of two marks
pub link_of : (Has : Fact → Type 0) (irq : Irq) (a b : ℕ) (s r : Bool) → Has (Marked a (UsedIn irq r)) → Has (Marked b (Enabled irq s)) →
    (kind : Kind) × IsLink Has irq (arrow b a kind) × (is_s kind ≡ s) × (is_r kind ≡ r)
link_of Has irq a b false true used enabled = (Er, (enabled, used), refl, refl)
link_of Has irq a b false false used enabled = (En, (enabled, used), refl, refl)
link_of Has irq a b true true used enabled = (Sr, (enabled, used), refl, refl)
link_of Has irq a b true false used enabled = (Sn, (enabled, used), refl, refl)

module _ (Has : Fact → Type 0) (within : Holds (FactBelow GRAPH_KEYS) Has) where
  abbrev In : Arrow → Type 0
  In = DependenciesOf Has

  pub CleanPlaces-from : IsClean Has → CleanPlaces Has
  CleanPlaces-from clean = record {
    circles = clean.circles;
    links = λ irq (p, q, (a, r, used, at), (b, s, enabled, leaves), path).
        let (kind, marks, es, er) = link_of Has irq a b s r used enabled in
        let l : Arrow = arrow b a kind in
        let la : a < GRAPH_KEYS = within (Marked a (UsedIn irq r)) used in
        let lb : b < GRAPH_KEYS = within (Marked b (Enabled irq s)) enabled in
        let arrives : p ≡ arrival l = at ∙ ap (place a) (sym er) in
        let out : Leaves l q = subst (λ x. LeavesFrom b x q) (sym es) leaves in
        elim (Path-cases (Leads In) path) [
          | inl same ↦
              (let follows : MayFollow l l = MayFollow-from_Leaves l l la lb (subst (Leaves l) (sym same ∙ arrives) out) in
              clean.doubles irq a (l, (marks, sym follows.0, refl, follows)))
          | inr way ↦
              clean.inversions irq a b ((IsInversion-iff Has irq a b).1 (
                kind,
                marks,
                (ClosesWith-iff In (arrows_within Has within) l lb la).1 (q, subst (λ x. Way (Leads In) x q) arrives way, out),
              ))
        ];
  }

  pub IsClean-from_places : CleanPlaces Has → IsClean Has
  IsClean-from_places clean = record {
    circles = clean.circles;
    doubles = λ irq a (l, (marks, at, to, follows)).
        clean.links irq (
          arrival l,
          arrival l,
          (l.end, is_r l.kind, marks.1, refl),
          (l.start, is_s l.kind, marks.0, Leaves-from_MayFollow l l follows),
          none,
        );
    inversions = λ irq a b inversion.
        (let (kind, marks, closes) = (IsInversion-iff Has irq a b).0 inversion in
        let la : a < GRAPH_KEYS = within (Marked a (UsedIn irq (is_r kind))) marks.1 in
        let lb : b < GRAPH_KEYS = within (Marked b (Enabled irq (is_s kind))) marks.0 in
        let (q, way, leaves) = (ClosesWith-iff In (arrows_within Has within) (arrow b a kind) lb la).0 closes in
        clean.links irq (place a (is_r kind), q, (a, is_r kind, marks.1, refl), (b, is_s kind, marks.0, leaves), Path-from_way (Leads In) (place a (is_r kind)) q way));
  }

-- ---- more facts: more ends of links
module _ (Old New P : Fact → Type 0) (adds : Adds Old New P) where
  pub LinkArrives-adds : (irq : Irq) (p : ℕ) → LinkArrives New irq p ↔ (LinkArrives Old irq p ⊎ LinkArrives P irq p)
  LinkArrives-adds irq p = (
    (λ (a, r, used, at). elim ((adds (Marked a (UsedIn irq r))).0 used) [ inl o ↦ inl (a, r, o, at) | inr n ↦ inr (a, r, n, at) ]),
    (λ h. elim h [
      | inl (a, r, used, at) ↦ (a, r, (adds (Marked a (UsedIn irq r))).1 (inl used), at)
      | inr (a, r, used, at) ↦ (a, r, (adds (Marked a (UsedIn irq r))).1 (inr used), at)
    ]),
  )

  pub LinkLeaves-adds : (irq : Irq) (q : ℕ) → LinkLeaves New irq q ↔ (LinkLeaves Old irq q ⊎ LinkLeaves P irq q)
  LinkLeaves-adds irq q = (
    (λ (b, s, enabled, leaves). elim ((adds (Marked b (Enabled irq s))).0 enabled) [ inl o ↦ inl (b, s, o, leaves) | inr n ↦ inr (b, s, n, leaves) ]),
    (λ h. elim h [
      | inl (b, s, enabled, leaves) ↦ (b, s, (adds (Marked b (Enabled irq s))).1 (inl enabled), leaves)
      | inr (b, s, enabled, leaves) ↦ (b, s, (adds (Marked b (Enabled irq s))).1 (inr enabled), leaves)
    ]),
  )

-- ---- a new dependency
is_mark : Fact → Bool
is_mark (Dependency from to kind) = false
is_mark (Marked key mark) = true

arrow_of : Fact → Arrow
arrow_of (Dependency from to kind) = arrow from to kind
arrow_of (Marked key mark) = arrow key key Er

apart : {A : Type 0} (a b : ℕ) (kind : Kind) (key : ℕ) (mark : Mark) → Dependency a b kind ≡ Marked key mark → A
unfolding is_mark
apart a b kind key mark e = absurd (let h : false ≡ true = ap is_mark e in cc)

-- an arrow's sources: a place that it leaves is p or is reached from it; its targets are reached from where it arrives
abbrev pub Source : (Fact → Type 0) → Arrow → ℕ → Type 0
Source Has d p = (l : ℕ) × Leaves d l × Path (Leads (DependenciesOf Has)) p l

abbrev pub Target : (Fact → Type 0) → Arrow → ℕ → Type 0
Target Has d q = Path (Leads (DependenciesOf Has)) (arrival d) q

-- a place that d leaves is one of its targets
abbrev pub ComesBack : (Fact → Type 0) → Arrow → Type 0
ComesBack Has d = (q : ℕ) × Leaves d q × Target Has d q

-- a link of the state arrives at a source of d and one leaves a target
abbrev pub Joins : (Fact → Type 0) → Arrow → Irq → Type 0
Joins Has d irq = ((p : ℕ) × Source Has d p × LinkArrives Has irq p) × ((q : ℕ) × Target Has d q × LinkLeaves Has irq q)

module _ (Old New : Fact → Type 0) (d : Arrow) (adds : Adds Old New (λ x. x ≡ Dependency d.start d.end d.kind)) where
  pub arrows_added : (x : Arrow) → DependenciesOf New x ↔ (DependenciesOf Old x ⊎ (x ≡ d))
  unfolding arrow_of
  arrows_added x = (
    (λ h. elim ((adds (Dependency x.start x.end x.kind)).0 h) [ inl o ↦ inl o | inr e ↦ inr (ap arrow_of e) ]),
    (λ h. (adds (Dependency x.start x.end x.kind)).1 (elim h [
      | inl o ↦ inl o
      | inr e ↦ inr (ap (λ (y : Arrow). Dependency y.start y.end y.kind) e)
    ])),
  )

  pub LinkArrives-kept : (irq : Irq) (p : ℕ) → LinkArrives New irq p ↔ LinkArrives Old irq p
  LinkArrives-kept irq p = let both = LinkArrives-adds Old New (λ x. x ≡ Dependency d.start d.end d.kind) adds irq p in (
    (λ h. elim (both.0 h) [ inl o ↦ o | inr (a, r, e, at) ↦ apart d.start d.end d.kind a (UsedIn irq r) (sym e) ]),
    (λ h. both.1 (inl h)),
  )

  pub LinkLeaves-kept : (irq : Irq) (q : ℕ) → LinkLeaves New irq q ↔ LinkLeaves Old irq q
  LinkLeaves-kept irq q = let both = LinkLeaves-adds Old New (λ x. x ≡ Dependency d.start d.end d.kind) adds irq q in (
    (λ h. elim (both.0 h) [ inl o ↦ o | inr (b, s, e, at) ↦ apart d.start d.end d.kind b (Enabled irq s) (sym e) ]),
    (λ h. both.1 (inl h)),
  )

  abbrev from : ℕ → ℕ → Type 0
  from = Leads (DependenciesOf Old)

  abbrev to : ℕ → ℕ → Type 0
  to = Leads (DependenciesOf New)

  edges : (p q : ℕ) → to p q ↔ (from p q ⊎ (Leaves d p × (arrival d ≡ q)))
  edges = Leads-added (DependenciesOf Old) (DependenciesOf New) d arrows_added

  pub CleanPlaces-dependency : Holds (FactBelow GRAPH_KEYS) New → CleanPlaces Old →
      CleanPlaces New ↔ (¬ ComesBack Old d × ((irq : Irq) → ¬ Joins Old d irq))
  CleanPlaces-dependency within was = (
    (λ now. (
      (λ (q, leaves, path). now.circles d (circle.1 (q, Path-kept from to (Leaves d) (arrival d) edges path, leaves))),
      λ irq ((p, source, arrives), (q, target, leaves)). now.links irq (
        p,
        q,
        (LinkArrives-kept irq p).1 arrives,
        (LinkLeaves-kept irq q).1 leaves,
        Path-joined from to (Leaves d) (arrival d) edges source target,
      ),
    )),
    (λ (no_circle, no_link). record {
      circles = λ x on. no_circle (comes_back (OnCircle-new Old New d (λ y. (arrows_added y).0) was.circles x on));
      links = λ irq (p, q, arrives, leaves, path).
          let arrived = (LinkArrives-kept irq p).0 arrives in
          let left = (LinkLeaves-kept irq q).0 leaves in
          elim (paths path) [
            | inl old ↦ was.links irq (p, q, arrived, left, old)
            | inr (source, target) ↦ no_link irq ((p, source, arrived), (q, target, left))
          ];
    }),
  )
    where
      circle : OnCircle New d ↔ ((q : ℕ) × Path to (arrival d) q × Leaves d q)
      circle = OnCircle-iff New (arrows_within New within) d ((arrows_added d).1 (inr refl))

      paths : {p q : ℕ} → Path to p q → Path from p q ⊎ (Source Old d p × Target Old d q)
      paths path = Path-new from to (Leaves d) (arrival d) edges path

      comes_back : OnCircle New d → ComesBack Old d
      comes_back on =
          let (q, path, leaves) = circle.0 on in
          elim (paths path) [
            | inl old ↦ (q, leaves, old)
            | inr (source, target) ↦ source
          ]

-- ---- a new mark
-- a link by the mark, and the dependencies, lead back to it
abbrev pub TurnsBackBy : (Fact → Type 0) → Fact → Type 0
TurnsBackBy Has (Dependency from to kind) = ⊥
TurnsBackBy Has (Marked key Used) = ⊥
TurnsBackBy Has (Marked key (UsedIn irq read)) =
    (q : ℕ) × LinkLeaves Has irq q × Path (Leads (DependenciesOf Has)) (place key read) q
TurnsBackBy Has (Marked key (Enabled irq read)) =
    (p : ℕ) × LinkArrives Has irq p × ((l : ℕ) × LeavesFrom key read l × Path (Leads (DependenciesOf Has)) p l)

is_used : Fact → Bool
is_used (Dependency from to kind) = false
is_used (Marked key Used) = false
is_used (Marked key (UsedIn irq read)) = true
is_used (Marked key (Enabled irq read)) = false

module _ (Old New : Fact → Type 0) (key : ℕ) (mark : Mark) (adds : Adds Old New (λ x. x ≡ Marked key mark)) where
  pub arrows_kept : (x : Arrow) → DependenciesOf New x ↔ DependenciesOf Old x
  arrows_kept x = (
    (λ h. elim ((adds (Dependency x.start x.end x.kind)).0 h) [ inl o ↦ o | inr e ↦ apart x.start x.end x.kind key mark e ]),
    (λ h. (adds (Dependency x.start x.end x.kind)).1 (inl h)),
  )

  pub Leads-kept : (p q : ℕ) → Leads (DependenciesOf New) p q ↔ Leads (DependenciesOf Old) p q
  Leads-kept p q = (
    (λ (x, has, leaves, at). (x, (arrows_kept x).0 has, leaves, at)),
    (λ (x, has, leaves, at). (x, (arrows_kept x).1 has, leaves, at)),
  )

  abbrev back : {p q : ℕ} → Path (Leads (DependenciesOf New)) p q → Path (Leads (DependenciesOf Old)) p q
  back path = Path-more (Leads (DependenciesOf New)) (Leads (DependenciesOf Old)) (λ p q. (Leads-kept p q).0) path

  abbrev on : {p q : ℕ} → Path (Leads (DependenciesOf Old)) p q → Path (Leads (DependenciesOf New)) p q
  on path = Path-more (Leads (DependenciesOf Old)) (Leads (DependenciesOf New)) (λ p q. (Leads-kept p q).1) path

  links_new : (x : Fact) → x ≡ Marked key mark → TurnsBackBy Old x → (irq : Irq) × LinksBack New irq
  links_new (Marked k (UsedIn irq read)) e (q, leaves, path) = (
    irq,
    (
      place k read,
      q,
      (k, read, (adds (Marked k (UsedIn irq read))).1 (inr e), refl),
      (LinkLeaves-adds Old New (λ x. x ≡ Marked key mark) adds irq q).1 (inl leaves),
      on path,
    ),
  )
  links_new (Marked k (Enabled irq read)) e (p, arrives, (l, leaves, path)) = (
    irq,
    (
      p,
      l,
      (LinkArrives-adds Old New (λ x. x ≡ Marked key mark) adds irq p).1 (inl arrives),
      (k, read, (adds (Marked k (Enabled irq read))).1 (inr e), leaves),
      on path,
    ),
  )
  links_new (Marked k Used) e h = absurd h
  links_new (Dependency a b kind) e h = absurd h

  pub CleanPlaces-mark : CleanPlaces Old → CleanPlaces New ↔ (¬ TurnsBackBy Old (Marked key mark))
  unfolding is_used
  CleanPlaces-mark was = (
    (λ now turns. let (irq, links) = links_new (Marked key mark) refl turns in now.links irq links),
    (λ none_back. record {
      circles = λ x (a, rest, w, c).
          was.circles x (a, rest, (StrongWalk-more (DependenciesOf New) (DependenciesOf Old) (λ y. (arrows_kept y).0) a rest w.0, w.1), c);
      links = λ irq (p, q, (a, r, used, at), (b, s, enabled, leaves), path).
          elim ((adds (Marked a (UsedIn irq r))).0 used) [
            | inl u ↦ elim ((adds (Marked b (Enabled irq s))).0 enabled) [
              | inl e ↦ was.links irq (p, q, (a, r, u, at), (b, s, e, leaves), back path)
              | inr e ↦ none_back (subst (TurnsBackBy Old) e (p, (a, r, u, at), (q, leaves, back path)))
            ]
            | inr u ↦ elim ((adds (Marked b (Enabled irq s))).0 enabled) [
              | inl e ↦ none_back (subst (TurnsBackBy Old) u (q, (b, s, e, leaves), subst (λ x. Path (Leads (DependenciesOf Old)) x q) at (back path)))
              | inr e ↦ (let h : true ≡ false = ap is_used (u ∙ sym e) in cc)
            ]
          ];
    }),
  )
