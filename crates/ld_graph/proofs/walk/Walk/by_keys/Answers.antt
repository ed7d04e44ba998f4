use Rattle.ld_graph.proofs.Names.{[], ◌+◌, ◌<◌, ◌∙◌, ◌∷◌, ◌≡◌, ◌≤◌, Er, List, ap, arith, arrow_at, forwards, get_or, length, length-map, length-reverse, length-take-le, map, map-append, reverse, reverse-append, sym, take, take_more, ℕ}
use Rattle.ld_facts.specs.Inside.Rows.{arrow_of}
use Rattle.std.proofs.lemmas.List.{take_all}
use Rattle.ld_facts.specs.declared.dependency.Dependency.{Dependency}
use Rattle.ld_graph.proofs.walk.Walk.by_keys.Goals as goal

abbrev first : Dependency
first = record { from = 0; to = 0; kind = Er }

-- one more dependency is before the others
forwards-more : (xs : List Dependency) (i : ℕ) (d : Dependency) → i < length xs →
    forwards (take (i + 1) xs) ≡ arrow_of (get_or xs i d) ∷ forwards (take i xs)
forwards-more xs i d l =
    ap forwards (take_more xs i d l)
    ∙ ap reverse (map-append arrow_of (take i xs) (get_or xs i d ∷ []))
    ∙ reverse-append (map arrow_of (take i xs)) (arrow_of (get_or xs i d) ∷ [])

length-forwards : (keys : List ℕ) (xs : List Dependency) (i : ℕ) → i ≤ length xs →
    length (map (arrow_at keys) (forwards (take i xs))) ≡ i
length-forwards keys xs i l =
    length-map (forwards (take i xs)) (arrow_at keys)
    ∙ length-reverse (map arrow_of (take i xs))
    ∙ length-map (take i xs) arrow_of
    ∙ length-take-le i xs l

pub put_first-requires-clause-room : goal.put_first-requires-clause-room
put_first-requires-clause-room c =
    let few = c.self.invariant.few in
    let test = c.loop-i-test.true in
    let e = ap length c.loop-i.invariant ∙ length-forwards c.args.keys.now c.self.inside.backwards.items c.loop-i.i (omega arith) in
    omega arith

pub loop-i-preserved : goal.loop-i-preserved
loop-i-preserved c =
    c.put_first.ensures
    ∙ ap (λ a. a ∷ c.loop-i.walk) c.by_keys.ensures.value
    ∙ ap (λ items. arrow_at c.args.keys.now (arrow_of (get_or items c.loop-i.i first)) ∷ c.loop-i.walk) c.deref.ensures.0
    ∙ ap (λ walk. arrow_at c.args.keys.now (arrow_of (get_or c.self.inside.backwards.items c.loop-i.i first)) ∷ walk) c.loop-i.invariant
    ∙ sym (ap (map (arrow_at c.args.keys.now)) (forwards-more c.self.inside.backwards.items c.loop-i.i first
    (let few = c.self.invariant.few in let test = c.loop-i-test.true in omega arith)))

pub returns : goal.returns
returns c =
    let e : c.loop-i.i ≡ length c.self.inside.backwards.items = let m = c.loop-i.auto.i-end in let l = c.loop-i-test.false in omega arith in
    c.loop-i.invariant
    ∙ ap (λ n. map (arrow_at c.args.keys.now) (forwards (take n c.self.inside.backwards.items))) e
    ∙ ap (λ items. map (arrow_at c.args.keys.now) (forwards items)) (take_all (length c.self.inside.backwards.items) c.self.inside.backwards.items (omega arith))
    ∙ ap (map (arrow_at c.args.keys.now)) c.self.view_is
