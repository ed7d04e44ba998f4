-- One more step of the steps below a cut.
use Rattle.ld_schedule.proofs.Names.{AreKept, Blocks, Contains, Covers, Does, EachLock, Get, Give, Has, HoldMode, IsKeptTaking, IsOf, IsReleaseOf, IsReplayed, IsSchedule, IsTrue, IsWellFormed, List, MayCome, NEVER, None, NoneReleases, Option, Release, Some, Step, Take, TakenByAnother, Takes, Wait, Write, All-push, ap, arith, below_before, cases_lt, cases_eq, false, false≢true, get_or, get_or-set_other, get_or-set_same, inl, inr, is_below, length, length-set, set, slice_get_within, slice_index, subst, sym, ℕ, ◌+◌, ◌++◌, ◌<◌, ◌≤◌, ◌∙◌, ◌≡◌, ◌≢◌, ◌∷◌, []}
use Rattle.ld_schedule.proofs.Reading.{same_step}
use Rattle.ld_schedule.proofs.Below.{below_cut, below_has, below_is, below_more, below_same, cut_below}

module _ (h : List Step) (cut : List ℕ) (few : length h < NEVER) (well_formed : IsWellFormed h) where
  -- ---- releases and the cut
  pub never_below : (q task lock r : ℕ) → IsReleaseOf h (length h) q task lock r → slice_index cut task ≤ r →
      NoneReleases h cut q task lock
  never_below q task lock r is past x after does below =
      let upto = below_cut h cut x task (Release lock, does) below in
      let within = slice_get_within h x _ does in
      is.none_between x after (omega arith) within does

  pub some_below : (q task lock r : ℕ) → IsReleaseOf h (length h) q task lock r → r < slice_index cut task →
      slice_index cut task ≤ NEVER → ¬ NoneReleases h cut q task lock
  some_below q task lock r is before fits none = elim is.found [
    | inl never ↦ absurd (omega arith)
    | inr (within, does) ↦ none r is.later does (cut_below h cut r task (Release lock, does) before)
  ]

  module _ (p : ℕ) (within : p < length h) (modes : List (Option HoldMode)) (takings : List ℕ)
      (before : IsReplayed h cut p modes takings) where
    abbrev s : List ℕ
    s = below_before h cut p

    -- ---- a step that isn't below the cut
    covers_more : (modes' : List (Option HoldMode)) →
        ((task lock : ℕ) (mode : HoldMode) → Takes h p task lock mode → IsTrue (is_below h cut p) →
        NoneReleases h cut p task lock → Covers (get_or modes' lock None) mode) →
        ((lock : ℕ) (mode : HoldMode) → Covers (get_or modes lock None) mode → Covers (get_or modes' lock None) mode) →
        (q task lock : ℕ) (mode : HoldMode) → q < p + 1 → Takes h q task lock mode → IsTrue (is_below h cut q) →
        NoneReleases h cut q task lock → Covers (get_or modes' lock None) mode
    covers_more modes' here keeps q task lock mode upto takes below none = elim (cases_lt q p) [
      | inl earlier ↦ keeps lock mode (before.kept.covers q task lock mode earlier takes below none)
      | inr late ↦
          let e : q ≡ p = omega arith in
          here task lock mode (subst (λ x. Takes h x task lock mode) e takes) (subst (λ x. IsTrue (is_below h cut x)) e below)
          (subst (λ x. NoneReleases h cut x task lock) e none)
    ]

    kept_same : ((task lock : ℕ) (mode : HoldMode) → Takes h p task lock mode → IsTrue (is_below h cut p) →
        NoneReleases h cut p task lock → Covers (get_or modes lock None) mode) → AreKept h cut (p + 1) modes takings
    kept_same here = record {
      room = before.kept.room;
      covers = covers_more modes here (λ lock mode c. c);
      takings_are = before.kept.takings_are;
    }

    pub passed_over : is_below h cut p ≡ false → IsReplayed h cut (p + 1) modes takings
    passed_over not = record {
      is_schedule = subst (IsSchedule EachLock h) (sym (below_same h cut p not)) before.is_schedule;
      kept = kept_same (λ task lock mode takes below none. absurd (false≢true (sym not ∙ below)));
    }

    -- ---- a step below the cut
    module _ (below : IsTrue (is_below h cut p)) where
      earlier_below : (q task : ℕ) → q < p → IsOf h task q → IsOf h task p → Contains s q
      earlier_below q task less of_q of_p =
          let upto = below_cut h cut p task of_p below in
          below_has h cut p q less (cut_below h cut q task of_q (omega arith))

      may_come : ((task message : ℕ) → Does h p task (Get message) → (q giver : ℕ) × Contains s q × Does h q giver (Give message)) →
          ((task other lock : ℕ) (mode other_mode : HoldMode) → Takes h p task lock mode → other ≢ task →
          Blocks other_mode mode → ¬ Has h (Contains s) other lock other_mode) → MayCome EachLock h s p
      may_come given free = record {
        is_next = record {
          is_step = within;
          is_new = λ among. let b = below_is h cut p p among in absurd (omega arith);
          follows = earlier_below;
        };
        given = given;
        free = free;
        in_order = λ q task other lock mode other_mode takes kept after takes' differ blocks among.
            let b = below_is h cut p q among in absurd (omega arith);
      }

      extended : MayCome EachLock h s p → IsSchedule EachLock h (below_before h cut (p + 1))
      extended may = subst (IsSchedule EachLock h) (sym (below_more h cut p below)) (before.is_schedule, may)

      -- a message that is got was given below the cut
      pub gets : (task message giving : ℕ) → Does h p task (Get message) → (giving < p) × ((giver : ℕ) × Does h giving giver (Give message)) →
          IsTrue (is_below h cut giving) → IsReplayed h cut (p + 1) modes takings
      gets task message giving does at given_below = record {
        is_schedule = extended (may_come
            (λ t m does'.
            let e = (same_step h p task t (Get message) (Get m) does does').1 in
            let same : message ≡ m = cc in
            (giving, at.1.0, below_has h cut p giving at.0 given_below, subst (λ x. Does h giving at.1.0 (Give x)) same at.1.1))
            (λ t other l m om takes. let e = (same_step h p task t (Get message) (Take l m takes.0) does takes.1).1 in cc));
        kept = kept_same (λ t l m takes _ none. let e = (same_step h p task t (Get message) (Take l m takes.0) does takes.1).1 in cc);
      }

      -- a step that neither gets nor takes
      pub others : ((task message : ℕ) → ¬ Does h p task (Get message)) → ((task lock : ℕ) (mode : HoldMode) → ¬ Takes h p task lock mode) →
          IsReplayed h cut (p + 1) modes takings
      others no_get no_take = record {
        is_schedule = extended (may_come (λ t m does. absurd (no_get t m does)) (λ t other l m om takes. absurd (no_take t l m takes)));
        kept = kept_same (λ t l m takes _ none. absurd (no_take t l m takes));
      }

      -- a lock is taken that nothing below the cut keeps
      module _ (task lock : ℕ) (mode : HoldMode) (wait : Wait) (takes : Does h p task (Take lock mode wait))
          (free : (m : HoldMode) → Covers (get_or modes lock None) m → ¬ Blocks m mode) where
        same_taking : (t l : ℕ) (m : HoldMode) → Takes h p t l m → (t ≡ task) × (l ≡ lock) × (m ≡ mode)
        same_taking t l m (w, does) =
            let e = same_step h p t task (Take l m w) (Take lock mode wait) does takes in
            let a = e.1 in (e.0, cc, cc)

        -- what another task has after the steps below the cut isn't released below it
        has_kept : (other : ℕ) (m : HoldMode) → other ≢ task → Blocks m mode → (has : Has h (Contains s) other lock m) →
            NoneReleases h cut has.at other lock
        has_kept other m differ blocks has r after does below' = elim (cases_lt r p) [
          | inl earlier ↦ has.kept r after does (below_has h cut p r earlier below')
          | inr late ↦
              let at = below_is h cut p has.at has.taken in
              let upto = below_cut h cut r other (Release lock, does) below' in
              well_formed p within TakenByAnother (record {
                task = task;
                other = other;
                lock = lock;
                mode = mode;
                other_mode = m;
                takes = (wait, takes);
                differ = differ;
                has = record {
                  at = has.at;
                  takes = has.takes;
                  taken = at.0;
                  kept = λ x after' does' before'.
                      has.kept x after' does' (below_has h cut p x before' (cut_below h cut x other (Release lock, does') (omega arith)));
                };
                blocks = blocks;
              })
        ]

        may_take : MayCome EachLock h s p
        may_take = may_come
            (λ t m does. let e = (same_step h p t task (Get m) (Take lock mode wait) does takes).1 in cc)
            (λ t other l m om takes' differ blocks has.
            let a = same_taking t l m takes' in
            let has' : Has h (Contains s) other lock om = subst (λ x. Has h (Contains s) other x om) a.1 has in
            let differ' : other ≢ task = λ e. differ (e ∙ sym a.0) in
            let blocks' : Blocks om mode = subst (Blocks om) a.2 blocks in
            let at = below_is h cut p has'.at has'.taken in
            free om (before.kept.covers has'.at other lock om at.0 has'.takes at.1 (has_kept other om differ' blocks' has')) blocks')

        pub takes_released : ¬ NoneReleases h cut p task lock → IsReplayed h cut (p + 1) modes takings
        takes_released some = record {
          is_schedule = extended may_take;
          kept = kept_same (λ t l m takes' _ none.
              let a = same_taking t l m takes' in
              absurd (some (subst (λ x. NoneReleases h cut p task x) a.1 (subst (λ x. NoneReleases h cut p x l) a.0 none))));
        }

        pub takes_kept : NoneReleases h cut p task lock → (new : HoldMode) → (mode ≡ Write → new ≡ Write) →
            ((m : HoldMode) → Covers (get_or modes lock None) m → Covers (Some new) m) → lock < length modes →
            IsReplayed h cut (p + 1) (set modes lock (Some new)) (takings ++ p ∷ [])
        takes_kept none new as_mode as_kept room = record {
          is_schedule = extended may_take;
          kept = record {
            room = λ q t action l does about. let r = before.kept.room q t action l does about in omega (arith, length-set modes lock (Some new));
            covers = covers_more (set modes lock (Some new))
                (λ t l m takes' _ _.
                let a = same_taking t l m takes' in
                let at : get_or (set modes lock (Some new)) l None ≡ Some new =
                ap (λ x. get_or (set modes lock (Some new)) x None) a.1 ∙ get_or-set_same modes lock (Some new) None room in
                subst (λ x. Covers x m) (sym at) (λ e. as_mode (sym a.2 ∙ e)))
                (λ l m c. elim (cases_eq l lock) [
                  | inl same ↦
                      let at : get_or (set modes lock (Some new)) l None ≡ Some new =
                      ap (λ x. get_or (set modes lock (Some new)) x None) same ∙ get_or-set_same modes lock (Some new) None room in
                      subst (λ x. Covers x m) (sym at) (as_kept m (subst (λ x. Covers (get_or modes x None) m) same c))
                  | inr differ ↦
                      subst (λ x. Covers x m) (sym (get_or-set_other modes lock l (Some new) None differ)) c
                ]);
            takings_are = All-push (IsKeptTaking h cut) takings p before.kept.takings_are (record {
              task = task;
              lock = lock;
              mode = mode;
              takes = (wait, takes);
              below = below;
              kept = none;
            });
          };
        }
