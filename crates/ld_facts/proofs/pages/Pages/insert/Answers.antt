use Rattle.ld_facts.proofs.Names.{[], ◌/◌, ◌<◌, ◌∙◌, ◌≡◌, ap, arith, get_or, get_or_default, has_bit, length, refl, replicate, set, sym, zeros_at}
use Rattle.ld_facts.proofs.Paged.{IsReady, changed-are, changed-here, changed-others, has_bit-same, is-below, page-below, ready-given, ready-made, room-left, words_below-length}
use Rattle.ld_facts.specs.Inside.Pages.{word_in}
use Rattle.ld_facts.proofs.pages.Pages.insert.Goals as goal
use Rattle.ld_facts.proofs.pages.Pages.insert.Goals.{After-index, After-index-place, then-index-eq-SHARED, else-index-eq-SHARED}

pub index-requires : goal.index-requires
index-requires c =
    let b = page-below c.self.inside.count c.self.inside.pages.cap c.self.inside.places.items c.self.inside.pages.items c.args.self.now c.self.invariant c.self.view_is (c.args.n / 64) (omega arith) in
    omega arith

below : (c : After-index) → c.args.n / 4096 < length c.self.inside.places.items
below c =
    let r = c.requires in
    let b = page-below c.self.inside.count c.self.inside.pages.cap c.self.inside.places.items c.self.inside.pages.items c.args.self.now c.self.invariant c.self.view_is (c.args.n / 64) (omega arith) in
    omega arith

place : (c : After-index) → c.index.result.now ≡ get_or c.self.inside.places.items (c.args.n / 4096) 0
place c = c.index.ensures ∙ get_or_default c.self.inside.places.items (c.args.n / 4096) c.index.result.now 0 (below c)

pub index_mut-requires : goal.index_mut-requires
index_mut-requires c = let b = below (goal.at.index_mut-requires c).After-index in omega arith

pub push_reserved-requires : goal.push_reserved-requires
push_reserved-requires c =
    let d = (goal.at.push_reserved-requires c).After-index in
    let r = room-left c.self.inside.count c.self.inside.pages.cap (c.args.n / 4096) c.self.inside.places.items c.self.inside.pages.items c.self.invariant (below d)
    (sym (place d) ∙ c.if-index-eq-SHARED.true) in
    omega arith

pub index-place-requires : goal.index-place-requires
index-place-requires c =
    let b = below (goal.at.index-place-requires c).After-index in
    elim c.if-index-eq-SHARED.branch [
      | then-index-eq-SHARED w ↦ rw w.self-inside-is (omega (arith, b))
      | else-index-eq-SHARED w ↦ rw w.self-inside-is (omega (arith, b))
    ]

-- the words are as before, and the page is their own
ready : (c : After-index-place) →
    IsReady c.self.inside.count (c.args.n / 4096) c.self.inside.places.items c.if-index-eq-SHARED.self-inside.places.items c.self.inside.pages.items c.if-index-eq-SHARED.self-inside.pages.items c.if-index-eq-SHARED.self-inside.pages.cap
ready c =
    let r = c.requires in
    let l = page-below c.self.inside.count c.self.inside.pages.cap c.self.inside.places.items c.self.inside.pages.items c.args.self.now c.self.invariant c.self.view_is (c.args.n / 64) (omega arith) in
    let b : c.args.n / 4096 < length c.self.inside.places.items = omega arith in
    let p = c.index.ensures ∙ get_or_default c.self.inside.places.items (c.args.n / 4096) c.index.result.now 0 b in
    elim c.if-index-eq-SHARED.branch [
      | then-index-eq-SHARED w ↦
          rw w.self-inside-is
          (let count : w.len.result ≡ length c.self.inside.pages.items = omega arith in
          rw (count, w.push_reserved.ensures.items, w.push_reserved.ensures.capacity)
          (ready-made c.self.inside.count c.self.inside.pages.cap (c.args.n / 4096) c.self.inside.places.items c.self.inside.pages.items c.self.invariant b
          (sym p ∙ w.if-index-eq-SHARED.true) (replicate 64 0) (zeros_at 64)))
      | else-index-eq-SHARED w ↦
          rw w.self-inside-is
          (ready-given c.self.inside.count c.self.inside.pages.cap (c.args.n / 4096) c.self.inside.places.items c.self.inside.pages.items c.self.invariant b
          (λ e. w.if-index-eq-SHARED.false (p ∙ e)))
    ]

place-own : (c : After-index-place) → c.index-place.result.now ≡ get_or c.if-index-eq-SHARED.self-inside.places.items (c.args.n / 4096) 0
place-own c = c.index-place.ensures ∙ get_or_default c.if-index-eq-SHARED.self-inside.places.items (c.args.n / 4096) c.index-place.result.now 0 (ready c).below

pub index_mut-requires-2 : goal.index_mut-requires-2
index_mut-requires-2 c =
    let d = (goal.at.index_mut-requires-2 c).After-index-place in
    let r = ready d in
    let w = r.are.within (c.args.n / 4096) in
    let p = place-own d in
    omega arith

count_is : (c : After-index-place) → c.if-index-eq-SHARED.self-inside.count ≡ c.self.inside.count
count_is c = elim c.if-index-eq-SHARED.branch [
  | then-index-eq-SHARED w ↦ rw w.self-inside-is refl
  | else-index-eq-SHARED w ↦ rw w.self-inside-is refl
]

pub invariant_of-self : goal.invariant_of-self
invariant_of-self c =
    let d = (goal.at.invariant_of-self c).After-index-place in
    let r = ready d in
    rw (count_is d, place-own d)
    (changed-are c.self.inside.count c.if-index-eq-SHARED.self-inside.pages.cap (c.args.n / 4096) c.if-index-eq-SHARED.self-inside.places.items c.if-index-eq-SHARED.self-inside.pages.items
    r.are r.below r.own c.insert.new.words)

pub returns-clause-len : goal.returns-clause-len
returns-clause-len c =
    let d = (goal.at.returns-clause-len c).After-index-place in
    words_below-length (word_in c.if-index-eq-SHARED.self-inside.places.items (set c.if-index-eq-SHARED.self-inside.pages.items c.index-place.result.now c.insert.new.words)) c.if-index-eq-SHARED.self-inside.count ∙
    count_is d ∙
    sym (words_below-length (word_in c.self.inside.places.items c.self.inside.pages.items) c.self.inside.count) ∙ ap length c.self.view_is

pub returns-clause-set : goal.returns-clause-set
returns-clause-set c =
    let d = (goal.at.returns-clause-set c).After-index-place in
    let r = ready d in
    let n = c.requires in
    let l = is-below c.self.inside.places.items c.self.inside.pages.items c.self.inside.count c.args.self.now c.self.view_is (c.args.n / 64) (omega arith) in
    rw (count_is d, place-own d)
    (changed-here c.self.inside.count c.if-index-eq-SHARED.self-inside.pages.cap (c.args.n / 4096) c.if-index-eq-SHARED.self-inside.places.items c.if-index-eq-SHARED.self-inside.pages.items
    r.are r.below r.own c.insert.new.words c.args.n l refl ∙ c.insert.ensures.set)

pub returns-clause-others : goal.returns-clause-others
returns-clause-others c = λ k ne.
    let d = (goal.at.returns-clause-others c).After-index-place in
    let r = ready d in
    let w = r.are.within (c.args.n / 4096) in
    let p = place-own d in
    let page : c.index_mut-2.result.now ≡ get_or c.if-index-eq-SHARED.self-inside.pages.items (get_or c.if-index-eq-SHARED.self-inside.places.items (c.args.n / 4096) 0) [] =
    c.index_mut-2.ensures.value ∙ get_or_default c.if-index-eq-SHARED.self-inside.pages.items c.index-place.result.now c.index_mut-2.result.now [] (omega arith) ∙
    ap (λ q. get_or c.if-index-eq-SHARED.self-inside.pages.items q []) p in
    rw (count_is d, place-own d)
    (changed-others c.self.inside.count c.if-index-eq-SHARED.self-inside.pages.cap (c.args.n / 4096) c.if-index-eq-SHARED.self-inside.places.items c.if-index-eq-SHARED.self-inside.pages.items
    r.are r.below r.own c.insert.new.words c.args.n refl (λ j nj. c.insert.ensures.others j nj ∙ ap (λ ws. has_bit ws j) page) k ne ∙
    has_bit-same (word_in c.if-index-eq-SHARED.self-inside.places.items c.if-index-eq-SHARED.self-inside.pages.items) (word_in c.self.inside.places.items c.self.inside.pages.items) c.self.inside.count
    r.same k ∙
    ap (λ ws. has_bit ws k) c.self.view_is)
