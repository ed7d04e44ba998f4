-- The lines of tasks that wait.
use Rattle.ld_text.proofs.Names.{[], ◌++◌, ◌+◌, ◌<◌, ◌∙◌, ◌∷◌, ◌≡◌, List, Name, Order, Some, ap, append-nil, append_assoc, arith, length, length-take-le, slice_get, suc, sym, take, take-next, waits_line, waits_text, ℕ}

waits_of_next : (names : List Name) (task : ℕ) (walk : List Order) (order : Order) →
    waits_text names task (walk ++ order ∷ []) ≡ waits_text names task walk ++ waits_line names (task + length walk) order.dependency
waits_of_next names task [] order = append-nil (waits_line names task order.dependency) ∙ ap (λ k. waits_line names k order.dependency) (let e : task ≡ task + 0 = omega arith in e)
waits_of_next names task (x ∷ walk) order =
    ap (λ t. waits_line names task x.dependency ++ t) (waits_of_next names (suc task) walk order)
    ∙ ap (λ k. waits_line names task x.dependency ++ (waits_text names (suc task) walk ++ waits_line names k order.dependency)) (let e : suc task + length walk ≡ task + suc (length walk) = omega arith in e)
    ∙ sym (append_assoc (waits_line names task x.dependency) (waits_text names (suc task) walk) (waits_line names (task + suc (length walk)) order.dependency))

-- one task more
pub waits_more : (names : List Name) (task : ℕ) (walk : List Order) (i : ℕ) (order : Order) (old mid new : List ℕ) → slice_get walk i ≡ Some order → i < length walk →
    mid ≡ old ++ waits_text names task (take i walk) → new ≡ mid ++ waits_line names (task + i) order.dependency → new ≡ old ++ waits_text names task (take (i + 1) walk)
waits_more names task walk i order old mid new is within before more =
    let count : length (take i walk) ≡ i = length-take-le i walk (omega (arith, within)) in
    more ∙ ap (λ t. t ++ waits_line names (task + i) order.dependency) before ∙ append_assoc old (waits_text names task (take i walk)) (waits_line names (task + i) order.dependency)
    ∙ ap (λ t. old ++ t) (ap (λ k. waits_text names task (take i walk) ++ waits_line names (task + k) order.dependency) (sym count)
    ∙ sym (ap (waits_text names task) (take-next walk i order is within) ∙ waits_of_next names task (take i walk) order))
