use Rattle.ld_facts.proofs.Names.{[], ◌++◌, ◌+◌, ◌/◌, ◌∙◌, ◌∷◌, ◌≡◌, ◌≤◌, List, ap, arith, count_below-le, eqb, get_or, inr, length, length-replicate, refl, replicate, rules, zeros_at, ℕ}
use Rattle.ld_facts.proofs.Paged.{none-shared, words_below-length}
use Rattle.ld_facts.specs.Inside.Bits.{count_below}
use Rattle.ld_facts.specs.Inside.Pages.{ArePages, word_in}
use Rattle.ld_facts.proofs.pages.Pages.new.Goals as goal
use Rattle.ld_facts.proofs.pages.Pages.new.Goals.{After-push_reserved}

zeros : (c : After-push_reserved) → c.in_ok-places.places.items ≡ replicate ((c.args.count + 63) / 64) 0
zeros c = c.in_ok-places.ensures.items_if_clones_equal (λ y h. search rules)

made : (c : After-push_reserved) → c.push_reserved.new.self.items ≡ replicate 64 0 ∷ []
made c = c.push_reserved.ensures.items ∙ ap (λ ps. ps ++ replicate 64 0 ∷ []) c.in_ok-pages.ensures.items

are : (c : After-push_reserved) → ArePages c.args.count c.in_ok-places.places.items c.push_reserved.new.self.items c.push_reserved.new.self.cap
are c =
    let n : ℕ = (c.args.count + 63) / 64 in
    let l = length-replicate {A = ℕ} n 0 in
    let places : List ℕ = replicate n 0 in
    let few : count_below (λ j. eqb (get_or places j 0) 0) (length places) ≤ length places = count_below-le (λ j. eqb (get_or places j 0) 0) (length places) in
    let made_for = c.in_ok-places.ensures.len in
    let room = c.push_reserved.ensures.capacity in
    let most = c.in_ok-pages.ensures.capacity in
    rw (zeros c, made c) (record {
      enough = omega arith;
      within = λ j. let z = zeros_at n j in omega arith;
      shared = zeros_at 64;
      apart = λ i j same. inr (zeros_at n i);
      rest = omega arith;
    })

pub invariant_of-result : goal.invariant_of-result
invariant_of-result c = are c

pub returns-clause-len : goal.returns-clause-len
returns-clause-len c = words_below-length (word_in c.in_ok-places.places.items c.push_reserved.new.self.items) c.args.count

pub returns-clause-none : goal.returns-clause-none
returns-clause-none c = λ k.
    none-shared c.args.count c.push_reserved.new.self.cap c.in_ok-places.places.items c.push_reserved.new.self.items _ (are c) refl k
    (rw (zeros c) (zeros_at ((c.args.count + 63) / 64) (k / 4096)))
