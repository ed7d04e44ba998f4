-- One more step's message in the table of where messages are given.
use Rattle.ld_schedule.proofs.Names.{◌≡◌, ◌≢◌, ◌∙◌, ◌+◌, ◌<◌, AreGivings, Does, Get, Give, IsGivenBefore, IsGivenTwice, List, NEVER, NoMessageFault, Step, ap, arith, cases_eq, cases_lt, get_or-set_other, get_or-set_same, inl, inr, length, length-set, refl, set, slice_index, subst, sym, ℕ}
use Rattle.ld_schedule.proofs.Reading.{same_step}

module _ (h : List Step) (n : ℕ) (g : List ℕ) (few : length h < NEVER) (within : n < length h) (are : AreGivings h n g) where
  -- the table knows of a giving before n
  pub known : (message : ℕ) → IsGivenBefore h n message → slice_index g message ≢ NEVER
  known message (q, giver, before, gives) never = let e = are.each q giver message before gives in omega arith

  pub given_at : (message : ℕ) → message < length g → slice_index g message ≢ NEVER → IsGivenBefore h n message
  given_at message room some = elim (are.only message room) [
    | inl never ↦ absurd (some never)
    | inr (before, (giver, gives)) ↦ (slice_index g message, giver, before, gives)
  ]

  -- nothing is given at n
  module _ (nothing : (giver message : ℕ) → ¬ Does h n giver (Give message)) where
    pub stays : AreGivings h (n + 1) g
    stays = record {
      room = are.room;
      each = λ q giver message before gives. elim (cases_lt q n) [
        | inl earlier ↦ are.each q giver message earlier gives
        | inr late ↦ let e : q ≡ n = omega arith in
            absurd (nothing giver message (subst (λ x. Does h x giver (Give message)) e gives))
      ];
      only = λ message room. elim (are.only message room) [
        | inl never ↦ inl never
        | inr (before, by) ↦ inr (omega arith, by)
      ];
    }

    pub nothing_twice : ¬ IsGivenTwice h n
    nothing_twice (t, m, does, before) = nothing t m does

  -- a message that was given is got at n
  pub gets_rightly : (task message : ℕ) → Does h n task (Get message) → message < length g →
      slice_index g message ≢ NEVER → AreGivings h (n + 1) g × NoMessageFault h n
  gets_rightly task message gets room some =
      let nothing : (giver m : ℕ) → ¬ Does h n giver (Give m) = λ giver m gives.
      let e = (same_step h n giver task (Give m) (Get message) gives gets).1 in cc in (
        stays nothing,
        (
          nothing_twice nothing,
          (λ (t, m, does, none).
              let s = (same_step h n t task (Get m) (Get message) does gets).1 in
              let e : message ≡ m = cc in
              none (subst (IsGivenBefore h n) e (given_at message room some))),
        ),
      )

  -- the message is given at n, for the first time
  module _ (task message : ℕ) (gives : Does h n task (Give message)) (fresh : slice_index g message ≡ NEVER) where
    room' : message < length g
    room' = are.room n task (Give message) message gives refl

    pub gives_more : AreGivings h (n + 1) (set g message n)
    gives_more = record {
      room = λ p t action m does about. let r = are.room p t action m does about in omega (arith, length-set g message n);
      each = each';
      only = λ m room. elim (cases_eq m message) [
        | inl e ↦ inr (let s : slice_index (set g message n) m ≡ n = ap (λ k. slice_index (set g message n) k) e ∙ get_or-set_same g message n 0 room' in
            (omega arith, (task, subst (λ k. Does h k task (Give m)) (sym s) (subst (λ k. Does h n task (Give k)) (sym e) gives))))
        | inr differ ↦
            let s : slice_index (set g message n) m ≡ slice_index g m = get_or-set_other g message m n 0 differ in
            elim (are.only m (omega (arith, length-set g message n))) [
              | inl never ↦ inl (s ∙ never)
              | inr (before, (giver, at)) ↦ inr (omega arith, (giver, subst (λ k. Does h k giver (Give m)) (sym s) at))
            ]
      ];
    }
      where
        each' : (q giver m : ℕ) → q < n + 1 → Does h q giver (Give m) → slice_index (set g message n) m ≡ q
        each' q giver m before does = elim (cases_lt q n) [
          | inl earlier ↦
              let known_at = are.each q giver m earlier does in
              let differ : m ≢ message = λ e. let f = ap (λ k. slice_index g k) e in omega arith in
              get_or-set_other g message m n 0 differ ∙ known_at
          | inr late ↦ let e : q ≡ n = omega arith in
              let s = same_step h n giver task (Give m) (Give message) (subst (λ x. Does h x giver (Give m)) e does) gives in
              let same : m ≡ message = let a = s.1 in cc in
              ap (λ k. slice_index (set g message n) k) same ∙ get_or-set_same g message n 0 room' ∙ sym e
        ]

    pub gives_rightly : NoMessageFault h n
    gives_rightly = (
      (λ (t, m, does, before). let s = (same_step h n t task (Give m) (Give message) does gives).1 in
          let e : m ≡ message = cc in known m before (ap (λ k. slice_index g k) e ∙ fresh)),
      (λ (t, m, does, none). let s = (same_step h n t task (Get m) (Give message) does gives).1 in cc),
    )
