-- What the tables of a history say.
use Rattle.ld_schedule.proofs.Names.{Does, Get, Give, HoldMode, IsGivenAt, IsGivenBefore, IsHistory, IsReleaseOf, List, NotGiven, Step, Takes, arith, cases_lt, inl, inr, length, refl, slice_get_within, slice_index, sym, ℕ, ◌<◌, ◌≡◌}

module _ (h : List Step) (releases givings : List ℕ) (tasks locks : ℕ) (is : IsHistory h releases givings tasks locks) where
  pub message_room : (p task message : ℕ) → Does h p task (Get message) → message < length givings
  message_room p task message gets = is.givings_are.room p task (Get message) message gets refl

  pub giving_room : (p task message : ℕ) → Does h p task (Give message) → message < length givings
  giving_room p task message gives = is.givings_are.room p task (Give message) message gives refl

  pub only_giving : (q giver message : ℕ) → Does h q giver (Give message) → q ≡ slice_index givings message
  only_giving q giver message gives = sym (is.givings_are.each q giver message (slice_get_within h q _ gives) gives)

  given_before : (p task message : ℕ) → Does h p task (Get message) → ¬ ¬ IsGivenBefore h p message
  given_before p task message gets none =
      is.well_formed p (slice_get_within h p _ gets) NotGiven (task, message, gets, none)

  pub given : (p task message : ℕ) → Does h p task (Get message) → IsGivenAt h p message (slice_index givings message)
  given p task message gets = elim (is.givings_are.only message (message_room p task message gets)) [
    | inl never ↦
        absurd (given_before p task message gets (λ (q, giver, before, gives).
        let e = only_giving q giver message gives in
        let within = slice_get_within h q _ gives in
        let few = is.few in omega arith))
    | inr (before, (giver, gives)) ↦ elim (cases_lt (slice_index givings message) p) [
      | inl earlier ↦ (earlier, (giver, gives))
      | inr late ↦
          absurd (given_before p task message gets (λ (q, giver', before', gives').
          let e = only_giving q giver' message gives' in omega arith))
    ]
  ]

  pub release_is : (q task lock : ℕ) (mode : HoldMode) → Takes h q task lock mode →
      IsReleaseOf h (length h) q task lock (slice_index releases q)
  release_is q task lock mode takes = is.releases_are q task lock mode (slice_get_within h q _ takes.1) takes
