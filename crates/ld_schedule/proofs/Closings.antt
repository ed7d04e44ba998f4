-- Raises of a cut, each of which all schedules have that come to a ring.
use Rattle.ld_schedule.proofs.Names.{All, Any, Contains, Does, Forces, Get, Give, HistoryParts, Blocks, HoldMode, Takes, IsForced, IsNext, IsOf, IsRaised, IsReached, IsReleaseOf, IsSchedule, KeepsForced, KeptOrder, List, NEVER, Refutes, Release, Step, ap, arith, cases_eq, cases_lt, get_or-set_other, get_or-set_same, inl, inr, length, set, slice_index, subst, sym, ℕ, ◌+◌, ◌<◌, ◌∙◌, ◌≡◌, ◌≢◌}
use Rattle.std.proofs.Common.{Err, IfOk, MatchOption, None, Ok, Option, Result, Some}
use Rattle.std.proofs.lemmas.List.{set_past}
use Rattle.ld_schedule.proofs.ScheduleLaws.{earlier_in, given_in, member_within, released_in}

module _ (Kept : ℕ → Type 0) (h : List Step) (ring : List (List ℕ)) where
  pub raised : (old new : List ℕ) (task until : ℕ) → IsForced Kept h ring old → Forces Kept h ring task until →
      IsRaised old new task until → IsForced Kept h ring new
  raised old new task until forced more either t = elim either [
    | inl same ↦ subst (λ x. Forces Kept h ring t (slice_index x t)) (sym same) (forced t)
    | inr is_set ↦ subst (λ x. Forces Kept h ring t (slice_index x t)) (sym is_set) (at t)
  ]
    where
      at : (u : ℕ) → Forces Kept h ring u (slice_index (set old task until) u)
      at u = elim (cases_lt task (length old)) [
        | inr past ↦ subst (λ x. Forces Kept h ring u (slice_index x u)) (sym (set_past old task until past)) (forced u)
        | inl room ↦ elim (cases_eq u task) [
          | inl e ↦
              let is : slice_index (set old task until) u ≡ until = ap (λ x. slice_index (set old task until) x) e ∙ get_or-set_same old task until 0 room in
              subst (Forces Kept h ring u) (sym is) (subst (λ x. Forces Kept h ring x until) (sym e) more)
          | inr differ ↦ subst (Forces Kept h ring u) (sym (get_or-set_other old task u until 0 differ)) (forced u)
        ]
      ]

  -- the steps of a task up to one that each schedule has
  up_to : (task q : ℕ) → IsOf h task q → ((s : List ℕ) → IsSchedule Kept h s → All (Any (IsNext h s)) ring → Contains s q) →
      Forces Kept h ring task (q + 1)
  up_to task q of_q has s is next p before of_p = elim (cases_eq p q) [
    | inl e ↦ subst (Contains s) (sym e) (has s is next)
    | inr differ ↦ earlier_in Kept h s q p task is (has s is next) (omega arith) of_p of_q
  ]

  -- a step below the cut gets what was given
  pub forced_giving : (cut : List ℕ) → IsForced Kept h ring cut → (p task message giving giver : ℕ) → p < slice_index cut task →
      Does h p task (Get message) → ((q u : ℕ) → Does h q u (Give message) → q ≡ giving) → Does h giving giver (Give message) →
      Forces Kept h ring giver (giving + 1)
  forced_giving cut forced p task message giving giver below gets only gives =
      up_to giver giving (Give message, gives) (λ s is next.
      let (q, u, among, does) = given_in Kept h s p task message is (forced task s is next p below (Get message, gets)) gets in
      subst (Contains s) (only q u does) among)

  module _ (few : length h < NEVER) (cut : List ℕ) (forced : IsForced Kept h ring cut)
      (q p task other lock : ℕ) (mode other_mode : HoldMode) (less : q < p)
      (takes : Takes h q task lock mode) (takes' : Takes h p other lock other_mode) (differ : task ≢ other)
      (blocks : Blocks mode other_mode) (kept : Kept lock) (below_q : q < slice_index cut task) (below_p : p < slice_index cut other)
      (r : ℕ) (is_release : IsReleaseOf h (length h) q task lock r) where
    release_in : (s : List ℕ) → IsSchedule Kept h s → All (Any (IsNext h s)) ring → Contains s r
    release_in s is next =
        released_in Kept h few q p task other lock mode other_mode less takes takes' differ blocks kept r is_release s is
        (forced task s is next q below_q (_, takes.1)) (forced other s is next p below_p (_, takes'.1))

    pub forced_release : Forces Kept h ring task (r + 1)
    forced_release s is next x before of_x =
        let among = release_in s is next in
        let within = member_within Kept h s r is among in
        elim is_release.found [
          | inl never ↦ absurd (omega arith)
          | inr (_, does) ↦ up_to task r (Release lock, does) release_in s is next x before of_x
        ]

    pub never_released : r ≡ NEVER → ¬ IsReached Kept h ring
    never_released never reached =
        let within = member_within Kept h reached.schedule r reached.is_schedule (release_in reached.schedule reached.is_schedule reached.next) in
        omega arith

-- ---- one after another
pub keeps_more : (order : KeptOrder) (h : HistoryParts) (a b c : List ℕ) → KeepsForced order h a b → KeepsForced order h b c →
    KeepsForced order h a c
keeps_more order h a b c first then ring forced = then ring (first ring forced)

pub refutes_after : (order : KeptOrder) (h : HistoryParts) (a b : List ℕ) → KeepsForced order h a b → Refutes order h b →
    Refutes order h a
refutes_after order h a b first then ring forced = then ring (first ring forced)

pub closes_after : {X E : Type 0} (order : KeptOrder) (h : HistoryParts) (a b c : List ℕ) → KeepsForced order h a b →
    (r : Result (Option X) E) → IfOk r (λ end. MatchOption end (KeepsForced order h b c) (λ _. Refutes order h b)) →
    IfOk r (λ end. MatchOption end (KeepsForced order h a c) (λ _. Refutes order h a))
closes_after order h a b c first (Ok None) then = λ ring forced. then ring (first ring forced)
closes_after order h a b c first (Ok (Some x)) then = λ ring forced. then ring (first ring forced)
closes_after order h a b c first (Err e) then = then
