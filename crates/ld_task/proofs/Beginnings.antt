-- What a beginning of a trace says is what the trace says there.
use Rattle.ld_task.proofs.Names.{[], ◌<◌, ◌∙◌, ◌∷◌, ◌≡◌, ◌≤◌, BeginningsKeepTheirChains, BeginningsKeepTheirFaults, Contains, Event, List, arith, length, refl, subst, suc, sym, take, zero, ℕ}
use Rattle.ld_task.specs.TraceChains.{chains}
use Rattle.ld_task.proofs.ChainLists.{Any-chains, chains-Any, chain-agree}
use Rattle.ld_task.proofs.Prefixes.{slice_get-take}
use Rattle.ld_task.proofs.TraceLemmas.{Agree, fault-agree}

length_most : {A : Type 0} (xs : List A) (k : ℕ) → length (take k xs) ≤ k
length_most [] zero = omega arith
length_most [] (suc k) = omega arith
length_most (x ∷ xs) zero = omega arith
length_most (x ∷ xs) (suc k) = let r = length_most xs k in omega (arith, r)

-- two beginnings of a trace agree up to the end of the shorter
beginnings_agree : (t : List Event) (m n : ℕ) → m ≤ n → Agree (take m t) (take n t) m
beginnings_agree t m n l = record {
  same = λ j within. slice_get-take t m j (omega (arith, within)) ∙ sym (slice_get-take t n j (omega (arith, within, l)));
}

pub beginnings_keep_their_chains : BeginningsKeepTheirChains
beginnings_keep_their_chains t m n l c (k, within, is) =
    let found = chains-Any (take m t) (λ x. x ≡ c) (k, c, within, is, refl) in
    let place = found.1 in
    let below : place.at < m = (let b = place.below in let most = length_most t m in omega (arith, b, most)) in
    let same = chain-agree (take m t) (take n t) m (beginnings_agree t m n l) place.at below in
    let longer = Any-chains (take n t) (λ x. x ≡ c) place.at found.0 (sym same ∙ place.is_chain) found.2 in
    subst (Contains (chains (take n t))) longer.4 (longer.0, longer.2, longer.3)

pub beginnings_keep_their_faults : BeginningsKeepTheirFaults
beginnings_keep_their_faults t m j l =
    fault-agree (take m t) t j (record { same = λ k within. slice_get-take t m k (omega (arith, within, l)) }) (slice_get-take t m j l)
