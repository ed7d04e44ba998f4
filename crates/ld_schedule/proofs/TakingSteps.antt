-- One more step's lock in what is kept of the takings before it.
use Rattle.ld_schedule.proofs.Names.{Again, All, Any, GivenTwice, NotGiven, NotHeld, IsFaultAt, StepFault, All-contains, All-push, All-weaker, AreOpen, AreReleases, AreTakings, Before, Blocks, Contains, Contains-append_left, Contains-push, Does, Has, HasBefore, Hinders, HoldMode, IsNotHeld, IsOf, IsOpenTaking, IsReading, IsReleaseOf, IsTakenAgain, IsTakenByAnother, LeavesFree, List, NEVER, NoTakingFault, Read, ReadsBefore, RecRead, Release, Step, Take, TakenAgain, TakenByAnother, Takes, Vec, Wait, Write, ap, arith, cases_eq, cases_lt, cases_order, get_or, get_or-set_other, get_or-set_same, get_or_append_left, get_or_default, get_or_push, inl, inr, length, length-set, length_push, refl, set, slice_index, subst, sym, ℕ, ◌+◌, ◌++◌, ◌<◌, ◌∙◌, ◌≡◌, ◌≢◌, ◌∷◌, []}
use Rattle.std.proofs.lemmas.List.Edits.{get_or-remove_above, get_or-remove_below, length-remove}
use Rattle.std.proofs.lemmas.List.Quantifiers.{all_pairs_push, all_pairs_remove}
use Rattle.std.proofs.lemmas.Grind.{in_remove}
use Rattle.std.specs.List.{remove}
use Rattle.ld_schedule.specs.Schedules.{AreApart}
use Rattle.ld_schedule.proofs.Reading.{same_step}

-- ---- lists without one element
All-remove_from : (P : ℕ → Type 0) (xs : List ℕ) (i : ℕ) → i < length xs →
    ((j d : ℕ) → j < length xs → j ≢ i → P (get_or xs j d)) → All P (remove xs i)
All-remove_from P xs i room each k d less =
    let n = length-remove xs i room in
    elim (cases_lt k i) [
      | inl below ↦ subst P (sym (get_or-remove_below xs i d k below room)) (each k d (omega arith) (λ e. omega arith))
      | inr above ↦ subst P (sym (get_or-remove_above xs i d k above room)) (each (k + 1) d (omega arith) (λ e. omega arith))
    ]

Contains-remove : (xs : List ℕ) (i x : ℕ) → i < length xs → Contains xs x → x ≢ get_or xs i 0 → Contains (remove xs i) x
Contains-remove xs i x room (k, within, e) differ =
    (in_remove xs i k x room within (sym e)
    (λ same. differ (sym e ∙ ap (λ j. get_or xs j x) same ∙ get_or_default xs i x 0 room))).1

module _ (h : List Step) (n : ℕ) («open» : List (Vec ℕ)) (rel : List ℕ) (few : length h < NEVER) (within : n < length h)
    (are : AreTakings h n «open» rel) where
  -- ---- what is had before n, and what is open
  has_open : (lock q : ℕ) (o : IsOpenTaking h n lock rel q) → Has h (Before n) o.task lock o.mode
  has_open lock q o = record {
    at = q;
    takes = o.takes;
    taken = o.before;
    kept = λ r later does before.
        let e = are.releases_are q o.task lock o.mode o.before o.takes in
        let u = o.unreleased in
        let far : r < slice_index rel q = omega arith in
        e.none_between r later far before does;
  }

  unreleased : (task lock : ℕ) (mode : HoldMode) (has : Has h (Before n) task lock mode) → slice_index rel has.at ≡ NEVER
  unreleased task lock mode has =
      let e = are.releases_are has.at task lock mode has.taken has.takes in
      elim e.found [ inl never ↦ never | inr (before, does) ↦ absurd (has.kept _ e.later does before) ]

  held_of_has : (task lock : ℕ) (mode : HoldMode) (d : Vec ℕ) (has : Has h (Before n) task lock mode) →
      lock < length «open» → Contains (get_or «open» lock d).items has.at
  held_of_has task lock mode d has room =
      (are.open_are lock d room).complete has.at task mode has.taken has.takes (unreleased task lock mode has)

  pub held_within : (lock : ℕ) (d : Vec ℕ) → lock < length «open» →
      All (λ q. q < length h) (get_or «open» lock d).items
  held_within lock d room =
      All-weaker (IsOpenTaking h n lock rel) (λ q. q < length h) (λ q o. let b = o.before in omega arith)
      (get_or «open» lock d).items (are.open_are lock d room).sound

  pub lock_room : (task lock : ℕ) (mode : HoldMode) → Takes h n task lock mode → lock < length «open»
  lock_room task lock mode (wait, does) = are.room n task (Take lock mode wait) lock does refl

  -- ---- the releases, with one more entry
  abbrev rel' : List ℕ
  rel' = rel ++ NEVER ∷ []

  at_old : (q : ℕ) → q < n → slice_index rel' q ≡ slice_index rel q
  at_old q before = let m = are.as_many in get_or_append_left rel (NEVER ∷ []) 0 q (omega arith)

  at_new : slice_index rel' n ≡ NEVER
  at_new = get_or_push rel NEVER 0 n are.as_many

  release_kept : (q task lock r : ℕ) → IsReleaseOf h n q task lock r → (r ≡ NEVER → ¬ Does h n task (Release lock)) →
      IsReleaseOf h (n + 1) q task lock r
  release_kept q task lock r is none = record {
    later = is.later;
    none_between = λ x after before upto. elim (cases_lt x n) [
      | inl earlier ↦ is.none_between x after before earlier
      | inr late ↦
          let e : x ≡ n = omega arith in
          elim is.found [
            | inl never ↦ (λ does. none never (subst (λ y. Does h y task (Release lock)) e does))
            | inr (found, _) ↦ absurd (omega arith)
          ]
    ];
    found = elim is.found [ inl never ↦ inl never | inr (found, does) ↦ inr (omega arith, does) ];
  }

  release_first : (task lock : ℕ) → IsReleaseOf h (n + 1) n task lock NEVER
  release_first task lock = record {
    later = omega arith;
    none_between = λ x after before upto. absurd (omega arith);
    found = inl refl;
  }

  release_new : (q task lock : ℕ) → q < n → IsReleaseOf h n q task lock NEVER → Does h n task (Release lock) →
      IsReleaseOf h (n + 1) q task lock n
  release_new q task lock before is does = record {
    later = before;
    none_between = λ x after upto _. is.none_between x after (omega arith) upto;
    found = inr (omega arith, does);
  }

  releases_stay : ((task lock : ℕ) → ¬ Does h n task (Release lock)) → AreReleases h (n + 1) rel'
  releases_stay none q task lock mode upto takes = elim (cases_lt q n) [
    | inl before ↦
        subst (IsReleaseOf h (n + 1) q task lock) (sym (at_old q before))
        (release_kept q task lock _ (are.releases_are q task lock mode before takes) (λ _. none task lock))
    | inr late ↦
        let e : n ≡ q = omega arith in
        subst (λ x. IsReleaseOf h (n + 1) x task lock (slice_index rel' x)) e
        (subst (IsReleaseOf h (n + 1) n task lock) (sym at_new) (release_first task lock))
  ]

  still_open : (lock q : ℕ) → IsOpenTaking h n lock rel q → IsOpenTaking h (n + 1) lock rel' q
  still_open lock q o =
      let b = o.before in
      record { before = omega arith; task = o.task; mode = o.mode; takes = o.takes; unreleased = at_old q o.before ∙ o.unreleased }

  -- nothing changes for a lock that isn't taken at n
  open_stays : (lock : ℕ) (held : List ℕ) → AreOpen h n lock rel held →
      ((task : ℕ) (mode : HoldMode) → ¬ Takes h n task lock mode) → AreOpen h (n + 1) lock rel' held
  open_stays lock held is none = record {
    sound = All-weaker (IsOpenTaking h n lock rel) (IsOpenTaking h (n + 1) lock rel') (still_open lock) held is.sound;
    apart = is.apart;
    complete = λ q task mode upto takes never. elim (cases_lt q n) [
      | inl before ↦ is.complete q task mode before takes (sym (at_old q before) ∙ never)
      | inr late ↦ let e : q ≡ n = omega arith in absurd (none task mode (subst (λ x. Takes h x task lock mode) e takes))
    ];
  }

  many : length rel' ≡ n + 1
  many = length_push rel NEVER ∙ ap (λ k. k + 1) are.as_many

  -- ---- a step that neither takes nor releases
  module _ (no_take : (task lock : ℕ) (mode : HoldMode) → ¬ Takes h n task lock mode)
      (no_release : (task lock : ℕ) → ¬ Does h n task (Release lock)) where
    pub stays : AreTakings h (n + 1) «open» rel'
    stays = record {
      room = are.room;
      as_many = many;
      releases_are = releases_stay no_release;
      open_are = λ lock d room. open_stays lock (get_or «open» lock d).items (are.open_are lock d room) (λ task mode. no_take task lock mode);
    }

    pub no_fault : ((task lock : ℕ) → Does h n task (Again lock) → ReadsBefore h n task lock) → NoTakingFault h n
    no_fault reads = record {
      not_by_another = λ f. no_take f.task f.lock f.mode f.takes;
      not_again = λ (task, lock, mode, takes, has). no_take task lock mode takes;
      is_held = λ (task, lock, either). elim either [
        | inl (does, _) ↦ no_release task lock does
        | inr (does, none) ↦ none (reads task lock does)
      ];
    }

  -- ---- a taking
  module _ (task lock : ℕ) (mode : HoldMode) (wait : Wait) (takes : Does h n task (Take lock mode wait)) where
    room' : lock < length «open»
    room' = are.room n task (Take lock mode wait) lock takes refl

    no_release : (t l : ℕ) → ¬ Does h n t (Release l)
    no_release t l does = let e = (same_step h n t task (Release l) (Take lock mode wait) does takes).1 in cc

    same_taking : (t l : ℕ) (m : HoldMode) → Takes h n t l m → (t ≡ task) × (l ≡ lock) × (m ≡ mode)
    same_taking t l m (w, does) =
        let e = same_step h n t task (Take l m w) (Take lock mode wait) does takes in
        let a = e.1 in (e.0, cc, cc)

    -- a fault, if a taking that is open hinders it
    pub hindered_again : (d : Vec ℕ) (q : ℕ) → Contains (get_or «open» lock d).items q →
        Hinders h task mode TakenAgain q → IsTakenAgain h n
    hindered_again d q among (action, is_of) =
        let o = All-contains (IsOpenTaking h n lock rel) _ q (are.open_are lock d room').sound among in
        let e : o.task ≡ task = (same_step h q o.task task _ action o.takes.1 is_of).0 in
        (task, lock, mode, (wait, takes), (o.mode, subst (λ t. Has h (Before n) t lock o.mode) e (has_open lock q o)))

    pub hindered_by_another : (d : Vec ℕ) (q : ℕ) → Contains (get_or «open» lock d).items q →
        Hinders h task mode TakenByAnother q → IsTakenByAnother h n
    hindered_by_another d q among (other, l, m, (w, does), differ, blocks) =
        let o = All-contains (IsOpenTaking h n lock rel) _ q (are.open_are lock d room').sound among in
        let e = same_step h q o.task other _ (Take l m w) o.takes.1 does in
        let a = e.1 in let same : o.mode ≡ m = cc in
        record {
          task = task;
          other = o.task;
          lock = lock;
          mode = mode;
          other_mode = o.mode;
          takes = (wait, takes);
          differ = λ s. differ (sym e.0 ∙ s);
          has = has_open lock q o;
          blocks = subst (λ x. Blocks x mode) (sym same) blocks;
        }

    pub hindered : (d : Vec ℕ) (fault : StepFault) → Any (Hinders h task mode fault) (get_or «open» lock d).items →
        IsFaultAt h n fault
    hindered d TakenAgain (k, q, among, e, hinders) = hindered_again d q (k, among, e) hinders
    hindered d TakenByAnother (k, q, among, e, hinders) = hindered_by_another d q (k, among, e) hinders
    hindered d NotHeld (k, q, among, e, hinders) = absurd hinders
    hindered d GivenTwice (k, q, among, e, hinders) = absurd hinders
    hindered d NotGiven (k, q, among, e, hinders) = absurd hinders

    module _ (d : Vec ℕ) (free : All (LeavesFree h task mode) (get_or «open» lock d).items) where
      leaves_free : (other : ℕ) (m : HoldMode) → Has h (Before n) other lock m → (other ≢ task) × (¬ Blocks m mode)
      leaves_free other m has =
          All-contains (LeavesFree h task mode) _ has.at free (held_of_has other lock m d has room') other lock m has.takes

      pub taken_rightly : NoTakingFault h n
      taken_rightly = record {
        not_by_another = λ f.
            let s = same_taking f.task f.lock f.mode f.takes in
            let has : Has h (Before n) f.other lock f.other_mode = subst (λ l. Has h (Before n) f.other l f.other_mode) s.1 f.has in
            (leaves_free f.other f.other_mode has).1 (subst (Blocks f.other_mode) s.2 f.blocks);
        not_again = λ (t, l, m, again, (had, has)).
            let s = same_taking t l m again in
            let has' : Has h (Before n) t lock had = subst (λ x. Has h (Before n) t x had) s.1 has in
            (leaves_free t had has').0 s.0;
        is_held = λ (t, l, either). elim either [
          | inl (does, _) ↦ no_release t l does
          | inr (does, _) ↦ let e = (same_step h n t task (Again l) (Take lock mode wait) does takes).1 in cc
        ];
      }

      open_more : (held : List ℕ) → AreOpen h n lock rel held → All (LeavesFree h task mode) held →
          AreOpen h (n + 1) lock rel' (held ++ n ∷ [])
      open_more held is free' = record {
        sound = All-push (IsOpenTaking h (n + 1) lock rel') held n
            (All-weaker (IsOpenTaking h n lock rel) (IsOpenTaking h (n + 1) lock rel') (still_open lock) held is.sound)
            (record { before = omega arith; task = task; mode = mode; takes = (wait, takes); unreleased = at_new });
        apart = all_pairs_push (AreApart h) held n is.apart (λ k e within' t of_held of_new.
            let o = is.sound k e within' in
            let free_of = free' k e within' o.task lock o.mode o.takes in
            let a = (same_step h _ o.task t _ of_held.0 o.takes.1 of_held.1).0 in
            let b = (same_step h n t task of_new.0 (Take lock mode wait) of_new.1 takes).0 in
            free_of.0 (a ∙ b));
        complete = λ q t m upto takes' never. elim (cases_lt q n) [
          | inl before ↦
              Contains-append_left held (n ∷ []) q (is.complete q t m before takes' (sym (at_old q before) ∙ never))
          | inr late ↦ let e : n ≡ q = omega arith in subst (Contains (held ++ n ∷ [])) e (Contains-push held n)
        ];
      }

      pub takes_more : (new : Vec ℕ) → new.items ≡ (get_or «open» lock d).items ++ n ∷ [] →
          AreTakings h (n + 1) (set «open» lock new) rel'
      takes_more new items = record {
        room = λ p t action l does about. let r = are.room p t action l does about in omega (arith, length-set «open» lock new);
        as_many = many;
        releases_are = releases_stay no_release;
        open_are = λ l e room. elim (cases_eq l lock) [
          | inl same ↦
              let at : get_or (set «open» lock new) l e ≡ new =
              ap (λ x. get_or (set «open» lock new) x e) same ∙ get_or-set_same «open» lock new e room' in
              let is = open_more (get_or «open» lock d).items (are.open_are lock d room') free in
              subst (λ (v : Vec ℕ). AreOpen h (n + 1) l rel' v.items) (sym at)
              (subst (λ x. AreOpen h (n + 1) x rel' new.items) (sym same) (subst (AreOpen h (n + 1) lock rel') (sym items) is))
          | inr differ ↦
              let at : get_or (set «open» lock new) l e ≡ get_or «open» l e = get_or-set_other «open» lock l new e differ in
              let r : l < length «open» = omega (arith, length-set «open» lock new) in
              subst (λ (v : Vec ℕ). AreOpen h (n + 1) l rel' v.items) (sym at)
              (open_stays l (get_or «open» l e).items (are.open_are l e r)
              (λ t m takes'. differ (same_taking t l m takes').1))
        ];
      }

  -- ---- a release
  module _ (task lock : ℕ) (releases : Does h n task (Release lock)) where
    room'' : lock < length «open»
    room'' = are.room n task (Release lock) lock releases refl

    no_take : (t l : ℕ) (m : HoldMode) → ¬ Takes h n t l m
    no_take t l m (w, does) = let e = (same_step h n t task (Take l m w) (Release lock) does releases).1 in cc

    same_release : (t l : ℕ) → Does h n t (Release l) → (t ≡ task) × (l ≡ lock)
    same_release t l does =
        let e = same_step h n t task (Release l) (Release lock) does releases in
        let a = e.1 in (e.0, cc)

    -- a fault, if the task has no taking of the lock that is open
    pub released_unheld : (d : Vec ℕ) → All (λ q. ¬ IsOf h task q) (get_or «open» lock d).items → IsNotHeld h n
    released_unheld d none = (
      task,
      lock,
      inl (
        releases,
        (λ (mode, has).
            All-contains (λ q. ¬ IsOf h task q) _ has.at none (held_of_has task lock mode d has room'') (_, has.takes.1)),
      ),
    )

    module _ (d : Vec ℕ) (i : ℕ) (among : i < length (get_or «open» lock d).items)
        (is_of : IsOf h task (slice_index (get_or «open» lock d).items i)) where
      held : List ℕ
      held = (get_or «open» lock d).items

      is : AreOpen h n lock rel held
      unfolding held
      is = are.open_are lock d room''

      taken : ℕ
      taken = slice_index held i

      was_open : IsOpenTaking h n lock rel taken
      unfolding held taken
      was_open = is.sound i 0 among

      of_task : was_open.task ≡ task
      unfolding held taken
      of_task = (same_step h taken was_open.task task _ is_of.0 was_open.takes.1 is_of.1).0

      rel'' : List ℕ
      rel'' = set rel' taken n

      pub released_rightly : NoTakingFault h n
      released_rightly = record {
        not_by_another = λ f. no_take f.task f.lock f.mode f.takes;
        not_again = λ (t, l, m, takes, has). no_take t l m takes;
        is_held = λ (t, l, either). elim either [
          | inl (does, none) ↦
              let s = same_release t l does in
              let has : HasBefore h n task lock = (was_open.mode, subst (λ x. Has h (Before n) x lock was_open.mode) of_task (has_open lock taken was_open)) in
              none (subst (λ x. HasBefore h n x l) (sym s.0) (subst (HasBefore h n task) (sym s.1) has))
          | inr (does, none) ↦ let e = (same_step h n t task (Again l) (Release lock) does releases).1 in cc
        ];
      }

      -- the one open taking of the lock by the task
      only_one : (q : ℕ) → Contains held q → IsOf h task q → q ≡ taken
      unfolding held taken
      only_one q (k, within', e) (action, does) = elim (cases_order k i) [
        | inl same ↦ sym e ∙ ap (λ j. get_or held j q) same ∙ get_or_default held i q 0 among
        | inr (inl before) ↦
            absurd (is.apart k i q before among task (action, subst (λ x. Does h x task action) (sym e) does)
            (subst (IsOf h task) (get_or_default held i 0 q among) is_of))
        | inr (inr after) ↦
            absurd (is.apart i k q after within' task (subst (IsOf h task) (get_or_default held i 0 q among) is_of)
            (action, subst (λ x. Does h x task action) (sym e) does))
      ]

      taken_room : taken < length rel'
      taken_room = let b = was_open.before in let m = many in omega arith

      pub taken_within : slice_index (get_or «open» lock d).items i < n + 1
      unfolding held taken
      taken_within = let b = was_open.before in omega arith

      at_taken : slice_index rel'' taken ≡ n
      unfolding rel''
      at_taken = get_or-set_same rel' taken n 0 taken_room

      at_other : (q : ℕ) → q ≢ taken → q < n → slice_index rel'' q ≡ slice_index rel q
      unfolding rel''
      at_other q differ before = get_or-set_other rel' taken q n 0 differ ∙ at_old q before

      releases_more : AreReleases h (n + 1) rel''
      releases_more q t l mode upto takes = elim (cases_lt q n) [
        | inr late ↦ let e : q ≡ n = omega arith in absurd (no_take t l mode (subst (λ x. Takes h x t l mode) e takes))
        | inl before ↦ elim (cases_eq q taken) [
          | inl same ↦
              let s = same_step h q t was_open.task _ _ takes.1 (subst (λ x. Does h x was_open.task (Take lock was_open.mode was_open.takes.0)) (sym same) was_open.takes.1) in
              let a = s.1 in let l_is : lock ≡ l = cc in let t_is : task ≡ t = sym of_task ∙ sym s.0 in
              let old = are.releases_are taken was_open.task lock was_open.mode was_open.before was_open.takes in
              let old' : IsReleaseOf h n taken task lock NEVER = subst (IsReleaseOf h n taken task lock) was_open.unreleased (subst (λ x. IsReleaseOf h n taken x lock (slice_index rel taken)) of_task old) in
              let new = release_new taken task lock was_open.before old' releases in
              subst (λ x. IsReleaseOf h (n + 1) x t l (slice_index rel'' x)) (sym same)
              (subst (IsReleaseOf h (n + 1) taken t l) (sym at_taken)
              (subst (λ x. IsReleaseOf h (n + 1) taken x l n) t_is (subst (λ x. IsReleaseOf h (n + 1) taken task x n) l_is new)))
          | inr differ ↦
              subst (IsReleaseOf h (n + 1) q t l) (sym (at_other q differ before))
              (release_kept q t l _ (are.releases_are q t l mode before takes) (λ never does.
              let s = same_release t l does in
              let takes' : Takes h q t lock mode = subst (λ x. Takes h q t x mode) s.1 takes in
              let among' = is.complete q t mode before takes' never in
              differ (only_one q among' (subst (λ x. IsOf h x q) s.0 (_, takes.1)))))
        ]
      ]

      other_open : (l q : ℕ) → q ≢ taken → IsOpenTaking h n l rel q → IsOpenTaking h (n + 1) l rel'' q
      other_open l q differ o =
          let b = o.before in
          record { before = omega arith; task = o.task; mode = o.mode; takes = o.takes; unreleased = at_other q differ o.before ∙ o.unreleased }

      -- what is open before n and isn't the taking, stays open
      complete_after : (l q t : ℕ) (m : HoldMode) (list : List ℕ) → AreOpen h n l rel list → q < n + 1 → Takes h q t l m →
          slice_index rel'' q ≡ NEVER → Contains list q × (q ≢ taken)
      complete_after l q t m list are' upto takes never = elim (cases_lt q n) [
        | inr late ↦ let e : q ≡ n = omega arith in absurd (no_take t l m (subst (λ x. Takes h x t l m) e takes))
        | inl before ↦
            let differ : q ≢ taken = λ same. let at = at_taken in let e = ap (λ x. slice_index rel'' x) same in omega arith in
            (are'.complete q t m before takes (sym (at_other q differ before) ∙ never), differ)
      ]

      open_less : AreOpen h (n + 1) lock rel'' (remove held i)
      unfolding held taken
      open_less = record {
        sound = All-remove_from (IsOpenTaking h (n + 1) lock rel'') held i among (λ j d' within' differ.
            let o = is.sound j d' within' in
            other_open lock (get_or held j d') (λ same.
            let of_j : IsOf h task (get_or held j d') = subst (IsOf h task) (sym same) is_of in
            let of_j' : IsOf h task (get_or held j 0) = subst (IsOf h task) (get_or_default held j d' 0 within') of_j in
            elim (cases_order j i) [
              | inl e ↦ differ e
              | inr (inl before) ↦ is.apart j i 0 before among task of_j' is_of
              | inr (inr after) ↦ is.apart i j 0 after within' task is_of of_j'
            ]) o);
        apart = all_pairs_remove (AreApart h) held i among is.apart;
        complete = λ q t m upto takes never.
            let after = complete_after lock q t m held is upto takes never in
            Contains-remove held i q among after.0 after.1;
      }

      open_other : (l : ℕ) (list : List ℕ) → l ≢ lock → AreOpen h n l rel list → AreOpen h (n + 1) l rel'' list
      open_other l list differ are' = record {
        sound = All-weaker (IsOpenTaking h n l rel) (IsOpenTaking h (n + 1) l rel'') (λ q o. other_open l q (λ same.
            let s = same_step h q o.task was_open.task _ _ o.takes.1 (subst (λ x. Does h x was_open.task (Take lock was_open.mode was_open.takes.0)) (sym same) was_open.takes.1) in
            let a = s.1 in let e : l ≡ lock = cc in differ e) o) list are'.sound;
        apart = are'.apart;
        complete = λ q t m upto takes never. (complete_after l q t m list are' upto takes never).0;
      }

      pub releases_one : (new : Vec ℕ) → new.items ≡ remove (get_or «open» lock d).items i →
          AreTakings h (n + 1) (set «open» lock new) (set rel' (slice_index (get_or «open» lock d).items i) n)
      unfolding held taken rel''
      releases_one new items = record {
        room = λ p t action l does about. let r = are.room p t action l does about in omega (arith, length-set «open» lock new);
        as_many = length-set rel' taken n ∙ many;
        releases_are = releases_more;
        open_are = λ l e room. elim (cases_eq l lock) [
          | inl same ↦
              let at : get_or (set «open» lock new) l e ≡ new =
              ap (λ x. get_or (set «open» lock new) x e) same ∙ get_or-set_same «open» lock new e room'' in
              subst (λ (v : Vec ℕ). AreOpen h (n + 1) l rel'' v.items) (sym at)
              (subst (λ x. AreOpen h (n + 1) x rel'' new.items) (sym same) (subst (AreOpen h (n + 1) lock rel'') (sym items) open_less))
          | inr differ ↦
              let at : get_or (set «open» lock new) l e ≡ get_or «open» l e = get_or-set_other «open» lock l new e differ in
              let r : l < length «open» = omega (arith, length-set «open» lock new) in
              subst (λ (v : Vec ℕ). AreOpen h (n + 1) l rel'' v.items) (sym at)
              (open_other l (get_or «open» l e).items differ (are.open_are l e r))
        ];
      }

  -- ---- a reader that takes again
  module _ (task lock : ℕ) (reads : Does h n task (Again lock)) where
    again_room : lock < length «open»
    again_room = are.room n task (Again lock) lock reads refl

    -- a fault, if the task has no taking of the lock as a reader that is open
    pub read_unheld : (d : Vec ℕ) → All (λ q. ¬ IsReading h task q) (get_or «open» lock d).items → IsNotHeld h n
    read_unheld d none = (
      task,
      lock,
      inr (
        reads,
        (λ either. elim either [
          | inl has ↦ All-contains (λ q. ¬ IsReading h task q) _ has.at none (held_of_has task lock Read d has again_room) (lock, Read, has.takes, (λ e. cc))
          | inr has ↦ All-contains (λ q. ¬ IsReading h task q) _ has.at none (held_of_has task lock RecRead d has again_room) (lock, RecRead, has.takes, (λ e. cc))
        ]),
      ),
    )

    read_held : (d : Vec ℕ) (q : ℕ) → Contains (get_or «open» lock d).items q → IsReading h task q → ReadsBefore h n task lock
    read_held d q among (l, m, (w, does), reader) =
        let o = All-contains (IsOpenTaking h n lock rel) _ q (are.open_are lock d again_room).sound among in
        let e = same_step h q o.task task _ (Take l m w) o.takes.1 does in
        let a = e.1 in let same : o.mode ≡ m = cc in
        let has : Has h (Before n) task lock m = subst (λ t. Has h (Before n) t lock m) e.0 (subst (Has h (Before n) o.task lock) same (has_open lock q o)) in
        by_mode m reader has
      where
        by_mode : (m : HoldMode) → m ≢ Write → Has h (Before n) task lock m → ReadsBefore h n task lock
        by_mode Write differ has = absurd (differ refl)
        by_mode Read differ has = inl has
        by_mode RecRead differ has = inr has

    pub read_held_among : (d : Vec ℕ) → Any (IsReading h task) (get_or «open» lock d).items → ReadsBefore h n task lock
    read_held_among d (k, q, among, e, reading) = read_held d q (k, among, e) reading

    pub again_no_take : (t l : ℕ) (m : HoldMode) → ¬ Takes h n t l m
    again_no_take t l m (w, does) = let e = (same_step h n t task (Take l m w) (Again lock) does reads).1 in cc

    pub again_no_release : (t l : ℕ) → ¬ Does h n t (Release l)
    again_no_release t l does = let e = (same_step h n t task (Release l) (Again lock) does reads).1 in cc

    pub same_again : (t l : ℕ) → Does h n t (Again l) → (task ≡ t) × (lock ≡ l)
    same_again t l does =
        let e = same_step h n task t (Again lock) (Again l) reads does in
        let a = e.1 in (e.0, cc)
