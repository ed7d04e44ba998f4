-- What each schedule has: a step with those of its task before it, what it gets, and the release of what others took since.
use Rattle.ld_schedule.proofs.Names.{Blocks, Contains, Does, Get, Give, HoldMode, IsOf, IsReleaseOf, IsSchedule, List, MayCome, NEVER, Release, Step, Takes, arith, cases_eq, cases_lt, inl, inr, length, slice_get_within, subst, sym, ℕ, ◌<◌, ◌≢◌, ◌⊎◌, ◌∷◌, []}
use Rattle.ld_schedule.proofs.Below.{Contains-cons_cases, Contains-head, Contains-tail}

contains_or_not : (xs : List ℕ) (x : ℕ) → Contains xs x ⊎ (¬ Contains xs x)
contains_or_not [] x = inr (λ (k, within, e). omega arith)
contains_or_not (y ∷ xs) x = elim (cases_eq y x) [
  | inl e ↦ inl (subst (Contains (y ∷ xs)) e (Contains-head y xs))
  | inr differ ↦ elim (contains_or_not xs x) [
    | inl among ↦ inl (Contains-tail y x xs among)
    | inr none ↦ inr (λ among. elim (Contains-cons_cases y x xs among) [ inl e ↦ differ e | inr old ↦ none old ])
  ]
]

module _ (Kept : ℕ → Type 0) (h : List Step) where
  pub member_within : (s : List ℕ) (p : ℕ) → IsSchedule Kept h s → Contains s p → p < length h
  member_within [] p is (k, within, e) = absurd (omega arith)
  member_within (x ∷ s) p is among = elim (Contains-cons_cases x p s among) [
    | inl e ↦ subst (λ y. y < length h) e is.1.is_next.is_step
    | inr old ↦ member_within s p is.0 old
  ]

  pub earlier_in : (s : List ℕ) (p q task : ℕ) → IsSchedule Kept h s → Contains s p → q < p → IsOf h task q → IsOf h task p →
      Contains s q
  earlier_in [] p q task is (k, within, e) less of_q of_p = absurd (omega arith)
  earlier_in (x ∷ s) p q task is among less of_q of_p = elim (Contains-cons_cases x p s among) [
    | inl e ↦ Contains-tail x q s (is.1.is_next.follows q task (omega arith) of_q (subst (IsOf h task) (sym e) of_p))
    | inr old ↦ Contains-tail x q s (earlier_in s p q task is.0 old less of_q of_p)
  ]

  pub given_in : (s : List ℕ) (p task message : ℕ) → IsSchedule Kept h s → Contains s p → Does h p task (Get message) →
      (q giver : ℕ) × Contains s q × Does h q giver (Give message)
  given_in [] p task message is (k, within, e) gets = absurd (omega arith)
  given_in (x ∷ s) p task message is among gets = elim (Contains-cons_cases x p s among) [
    | inl e ↦
        let (q, giver, given, does) = is.1.given task message (subst (λ y. Does h y task (Get message)) (sym e) gets) in
        (q, giver, Contains-tail x q s given, does)
    | inr old ↦
        let (q, giver, given, does) = given_in s p task message is.0 old gets in
        (q, giver, Contains-tail x q s given, does)
  ]

  module _ (few : length h < NEVER) (q p task other lock : ℕ) (mode other_mode : HoldMode) (less : q < p)
      (takes : Takes h q task lock mode) (takes' : Takes h p other lock other_mode) (differ : task ≢ other)
      (blocks : Blocks mode other_mode) (kept : Kept lock) (r : ℕ) (is_release : IsReleaseOf h (length h) q task lock r) where
    blocks_back : Blocks other_mode mode
    blocks_back = elim blocks [ inl w ↦ inr w | inr w ↦ inl w ]

    -- the later one came last: the earlier one is released
    released_before : (s : List ℕ) → IsSchedule Kept h s → MayCome Kept h s p → Contains s q → Contains s r
    released_before s is may among = elim (contains_or_not s r) [
      | inl has ↦ has
      | inr none ↦
          absurd (may.free other task lock other_mode mode takes' differ blocks (record {
            at = q;
            takes = takes;
            taken = among;
            kept = λ x after does in_s.
                let within = slice_get_within h x _ does in
                elim is_release.found [
                  | inl never ↦ is_release.none_between x after (omega arith) within does
                  | inr (before, does_r) ↦ elim (cases_lt x r) [
                    | inl earlier ↦ is_release.none_between x after earlier within does
                    | inr late ↦ elim (cases_eq x r) [
                      | inl e ↦ none (subst (Contains s) e in_s)
                      | inr apart ↦ none (earlier_in s x r task is in_s (omega arith) (Release lock, does_r) (Release lock, does))
                    ]
                  ]
                ];
          }))
    ]

    pub released_in : (s : List ℕ) → IsSchedule Kept h s → Contains s q → Contains s p → Contains s r
    released_in [] is (k, within, e) later = absurd (omega arith)
    released_in (x ∷ s) is first later = elim (Contains-cons_cases x p s later) [
      | inl e ↦
          let may : MayCome Kept h s p = subst (MayCome Kept h s) e is.1 in
          elim (Contains-cons_cases x q s first) [
            | inl f ↦ absurd (omega arith)
            | inr old ↦ Contains-tail x r s (released_before s is.0 may old)
          ]
      | inr old_p ↦ elim (Contains-cons_cases x q s first) [
        | inl f ↦
            let may : MayCome Kept h s q = subst (MayCome Kept h s) f is.1 in
            absurd (may.in_order p task other lock mode other_mode takes kept less takes' (λ e. differ (sym e)) blocks_back old_p)
        | inr old ↦ Contains-tail x r s (released_in s is.0 old old_p)
      ]
    ]
