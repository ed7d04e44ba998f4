-- What is seen of a ring after the steps below a cut.
use Rattle.ld_schedule.proofs.Names.{Again, All, AreApart, Forever, Read, TakesForever, WaitsFor, Write, ◌⊎◌, Does, HoldMode, IsKeptTaking, IsNext, IsOf, KeepsFrom, List, NoneReleases, Some, Step, Take, TakesAgainst, ap, arith, below, drop, get_or, inl, inr, length, slice_get, slice_get_within, slice_index, subst, sym, ℕ, ◌+◌, ◌-◌, ◌<◌, ◌∙◌, ◌≡◌}
use Rattle.std.proofs.lemmas.List.{get_or-drop, length-drop}
use Rattle.ld_schedule.proofs.Below.{below_cut, below_has, below_is, cut_below}
use Rattle.ld_schedule.proofs.Reading.{does_at, same_step, step_at}

module _ (h : List Step) (cut : List ℕ) where
  pub next_at : (p : ℕ) (step : Step) → slice_get h p ≡ Some step → p ≡ slice_index cut step.task → IsNext h (below h cut) p
  next_at p step at is = record {
    is_step = slice_get_within h p step at;
    is_new = λ among.
        let b = below_is h cut (length h) p among in
        let upto = below_cut h cut p step.task (step.action, at) b.1 in omega arith;
    follows = λ q task before (action, does) (action', does').
        let t = (step_at h p task step action' at does').0 in
        let e = ap (slice_index cut) t in
        below_has h cut (length h) q (slice_get_within h q _ does) (cut_below h cut q task (action, does) (omega arith));
  }

  pub keeps_at : (q : ℕ) (step : Step) (task lock : ℕ) (mode : HoldMode) → IsKeptTaking h cut q → slice_get h q ≡ Some step →
      step.task ≡ task → TakesAgainst step lock mode → KeepsFrom h (below h cut) task lock mode
  keeps_at q step task lock mode is at of_task (held, wait, action, blocks) =
      let does : Does h q task (Take lock held wait) = subst (λ t. Does h q t (Take lock held wait)) of_task (does_at h q step (Take lock held wait) at action) in
      let s = same_step h q is.task task (Take is.lock is.mode is.takes.0) (Take lock held wait) is.takes.1 does in
      let a = s.1 in
      let l : is.lock ≡ lock = cc in
      let kept = subst (λ x. NoneReleases h cut q task x) l (subst (λ x. NoneReleases h cut q x is.lock) s.0 is.kept) in (
        held,
        record {
          at = q;
          takes = (wait, does);
          taken = below_has h cut (length h) q (slice_get_within h q step at) is.below;
          kept = λ r after does' among. kept r after does' (below_is h cut (length h) r among).1;
        },
        blocks,
      )

pub apart_from : (h : List Step) (ring : List ℕ) (i j d : ℕ) (step : Step) → slice_get h (get_or ring i d) ≡ Some step → i < j →
    j < length ring → All (λ q. ¬ IsOf h step.task q) (drop (i + 1) ring) → AreApart h (get_or ring i d) (get_or ring j d)
apart_from h ring i j d step at after within none task (action, does) of_j =
    let t = (step_at h (get_or ring i d) task step action at does).0 in
    let e : get_or (drop (i + 1) ring) (j - (i + 1)) d ≡ get_or ring j d =
    get_or-drop (i + 1) ring (j - (i + 1)) d ∙ ap (λ k. get_or ring k d) (omega arith) in
    none (j - (i + 1)) d (omega (arith, length-drop (i + 1) ring))
    (subst (IsOf h step.task) (sym e) (subst (λ x. IsOf h x (get_or ring j d)) (sym t) of_j))

pub behind_at : (h : List Step) (s : List ℕ) (p q lock : ℕ) (waiter next : Step) → slice_get h p ≡ Some waiter →
    slice_get h q ≡ Some next → (waiter.action ≡ Take lock Read Forever) ⊎ (waiter.action ≡ Again lock) →
    next.action ≡ Take lock Write Forever → WaitsFor h s p q
behind_at h s p q lock waiter next at_p at_q reads writes =
    let by : (TakesForever h p waiter.task lock Read) ⊎ (Does h p waiter.task (Again lock)) = elim reads [
      | inl takes ↦ inl (does_at h p waiter (Take lock Read Forever) at_p takes)
      | inr again ↦ inr (does_at h p waiter (Again lock) at_p again)
    ] in
    inr (record {
      task = waiter.task;
      other = next.task;
      lock = lock;
      reads = by;
      writes = does_at h q next (Take lock Write Forever) at_q writes;
    })
