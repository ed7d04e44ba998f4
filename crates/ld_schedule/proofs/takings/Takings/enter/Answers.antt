use Rattle.ld_schedule.proofs.Names.{All, Any, Does, Hinders, HoldMode, IsOf, IsReading, LeavesFree, ReadsBefore, MatchBool-at_false, MatchBool-at_true, Release, Takes, ap, arith, get_or, get_or_default, length, refl, slice_index, subst, sym, ℕ, ◌<◌, ◌++◌, ◌∙◌, ◌≡◌, ◌∷◌, []}
use Rattle.std.specs.List.{remove}
use Rattle.ld_schedule.proofs.Reading.{action_read, does_read, task_at}
use Rattle.ld_schedule.proofs.TakingSteps.{again_no_release, again_no_take, held_within, hindered, no_fault, read_held_among, read_unheld, released_rightly, released_unheld, releases_one, same_again, stays, taken_rightly, taken_within, takes_more}
use Rattle.ld_schedule.proofs.takings.Takings.enter.Goals as goal

pub index_mut-held-requires : goal.index_mut-held-requires
index_mut-held-requires c =
    let does = does_read c.args.steps.now c.args.position _ _ c.requires.here c.in-Take.is in
    let room = c.requires.before.room c.args.position _ _ c.in-Take.lock does refl in omega arith

pub hindrance-requires : goal.hindrance-requires
hindrance-requires c =
    let does = does_read c.args.steps.now c.args.position _ _ c.requires.here c.in-Take.is in
    let room = c.requires.before.room c.args.position _ _ c.in-Take.lock does refl in
    let same = c.deref.ensures.value ∙ ap (λ v. v.items) c.index_mut-held.ensures.value in
    subst (All (λ q. q < length c.args.steps.now)) (sym same) (held_within c.args.steps.now c.args.position c.args.self.now.open.items c.args.self.now.releases.items c.requires.few c.requires.here c.requires.before c.in-Take.lock c.index_mut-held.result.now room)

pub returns-in-Some : goal.returns-in-Some
returns-in-Some c =
    let does = does_read c.args.steps.now c.args.position _ _ c.requires.here c.in-Take.is in
    let same = c.deref.ensures.value ∙ ap (λ v. v.items) c.index_mut-held.ensures.value in
    hindered c.args.steps.now c.args.position c.args.self.now.open.items c.args.self.now.releases.items c.requires.few c.requires.here c.requires.before _ c.in-Take.lock c.in-Take.mode c.in-Take.wait does c.index_mut-held.result.now c.in-Some.fault
    (subst (λ held. Any (Hinders c.args.steps.now (task_at c.args.steps.now c.args.position) c.in-Take.mode c.in-Some.fault) held) same c.in-Some.ensures)

pub returns-in_ok-push-in-Take : goal.returns-in_ok-push-in-Take
returns-in_ok-push-in-Take c =
    let does = does_read c.args.steps.now c.args.position _ _ c.requires.here c.in-Take.is in
    let same = c.deref.ensures.value ∙ ap (λ v. v.items) c.index_mut-held.ensures.value in
    let d = c.index_mut-held.result.now in
    let free = subst (All (LeavesFree c.args.steps.now (task_at c.args.steps.now c.args.position) c.in-Take.mode)) same c.in_default-hindrance.ensures in
    let items = c.in_ok-push-in-Take.ensures.items ∙ ap (λ v. v.items ++ c.args.position ∷ []) c.index_mut-held.ensures.value in
    rw c.in_ok-push.ensures.items (
      takes_more c.args.steps.now c.args.position c.args.self.now.open.items c.args.self.now.releases.items c.requires.few c.requires.here c.requires.before _ c.in-Take.lock c.in-Take.mode c.in-Take.wait does d free c.push-in-Take.new.self items,
      taken_rightly c.args.steps.now c.args.position c.args.self.now.open.items c.args.self.now.releases.items c.requires.few c.requires.here c.requires.before _ c.in-Take.lock c.in-Take.mode c.in-Take.wait does d free,
    )

pub index-requires : goal.index-requires
index-requires c =
    let does = does_read c.args.steps.now c.args.position _ _ c.requires.here c.in-Again.is in
    let room = c.requires.before.room c.args.position _ _ c.in-Again.lock does refl in omega arith

pub reads-requires : goal.reads-requires
reads-requires c =
    let does = does_read c.args.steps.now c.args.position _ _ c.requires.here c.in-Again.is in
    let room = c.requires.before.room c.args.position _ _ c.in-Again.lock does refl in
    let same = c.deref-in-Again.ensures.value ∙ ap (λ v. v.items) c.index.ensures in
    subst (All (λ q. q < length c.args.steps.now)) (sym same) (held_within c.args.steps.now c.args.position c.args.self.now.open.items c.args.self.now.releases.items c.requires.few c.requires.here c.requires.before c.in-Again.lock c.index.result.now room)

pub returns-then-not-reads : goal.returns-then-not-reads
returns-then-not-reads c =
    let does = does_read c.args.steps.now c.args.position _ _ c.requires.here c.in-Again.is in
    let same = c.deref-in-Again.ensures.value ∙ ap (λ v. v.items) c.index.ensures in
    let none = MatchBool-at_false _ _ c.if-not-reads.true c.reads.ensures in
    read_unheld c.args.steps.now c.args.position c.args.self.now.open.items c.args.self.now.releases.items c.requires.few c.requires.here c.requires.before _ c.in-Again.lock does c.index.result.now
    (subst (λ held. All (λ q. ¬ IsReading c.args.steps.now (task_at c.args.steps.now c.args.position) q) held) same none)

pub returns-else-not-reads : goal.returns-else-not-reads
returns-else-not-reads c =
    let does = does_read c.args.steps.now c.args.position _ _ c.requires.here c.in-Again.is in
    let same = c.deref-in-Again.ensures.value ∙ ap (λ v. v.items) c.index.ensures in
    let some = MatchBool-at_true _ _ c.if-not-reads.false c.reads.ensures in
    let reads = read_held_among c.args.steps.now c.args.position c.args.self.now.open.items c.args.self.now.releases.items c.requires.few c.requires.here c.requires.before _ c.in-Again.lock does c.index.result.now
    (subst (λ held. Any (IsReading c.args.steps.now (task_at c.args.steps.now c.args.position)) held) same some) in
    let no_take = again_no_take c.args.steps.now c.args.position c.args.self.now.open.items c.args.self.now.releases.items c.requires.few c.requires.here c.requires.before _ c.in-Again.lock does in
    let no_release = again_no_release c.args.steps.now c.args.position c.args.self.now.open.items c.args.self.now.releases.items c.requires.few c.requires.here c.requires.before _ c.in-Again.lock does in
    rw c.in_ok-push.ensures.items (
      stays c.args.steps.now c.args.position c.args.self.now.open.items c.args.self.now.releases.items c.requires.few c.requires.here c.requires.before no_take no_release,
      no_fault c.args.steps.now c.args.position c.args.self.now.open.items c.args.self.now.releases.items c.requires.few c.requires.here c.requires.before no_take no_release (λ t l again.
          let s = same_again c.args.steps.now c.args.position c.args.self.now.open.items c.args.self.now.releases.items c.requires.few c.requires.here c.requires.before _ c.in-Again.lock does t l again in
          subst (λ x. ReadsBefore c.args.steps.now c.args.position x l) s.0
          (subst (ReadsBefore c.args.steps.now c.args.position (task_at c.args.steps.now c.args.position)) s.1 reads)),
    )

pub index_mut-held-requires-in-Release : goal.index_mut-held-requires-in-Release
index_mut-held-requires-in-Release c =
    let does = does_read c.args.steps.now c.args.position _ _ c.requires.here c.in-Release.is in
    let room = c.requires.before.room c.args.position _ _ c.in-Release.lock does refl in omega arith

pub place_of-requires : goal.place_of-requires
place_of-requires c =
    let does = does_read c.args.steps.now c.args.position _ _ c.requires.here c.in-Release.is in
    let room = c.requires.before.room c.args.position _ _ c.in-Release.lock does refl in
    let same = c.deref-in-Release.ensures.value ∙ ap (λ v. v.items) c.index_mut-held-in-Release.ensures.value in
    subst (All (λ q. q < length c.args.steps.now)) (sym same) (held_within c.args.steps.now c.args.position c.args.self.now.open.items c.args.self.now.releases.items c.requires.few c.requires.here c.requires.before c.in-Release.lock c.index_mut-held-in-Release.result.now room)

pub returns-in_default-place_of : goal.returns-in_default-place_of
returns-in_default-place_of c =
    let does = does_read c.args.steps.now c.args.position _ _ c.requires.here c.in-Release.is in
    let same = c.deref-in-Release.ensures.value ∙ ap (λ v. v.items) c.index_mut-held-in-Release.ensures.value in
    released_unheld c.args.steps.now c.args.position c.args.self.now.open.items c.args.self.now.releases.items c.requires.few c.requires.here c.requires.before _ c.in-Release.lock does c.index_mut-held-in-Release.result.now
    (subst (λ held. All (λ q. ¬ IsOf c.args.steps.now (task_at c.args.steps.now c.args.position) q) held) same c.in_default-place_of.ensures)

pub index_mut-requires : goal.index_mut-requires
index_mut-requires c =
    let does = does_read c.args.steps.now c.args.position _ _ c.requires.here c.in-Release.is in
    let same = c.deref-in-Release.ensures.value ∙ ap (λ v. v.items) c.index_mut-held-in-Release.ensures.value in
    let place = subst (λ held. (c.in-Some-place_of.i < length held) × IsOf c.args.steps.now (task_at c.args.steps.now c.args.position) (slice_index held c.in-Some-place_of.i)) same c.in-Some-place_of.ensures in
    let taken = c.remove-taken.ensures.value ∙ ap (λ v. get_or v.items c.in-Some-place_of.i c.remove-taken.result) c.index_mut-held-in-Release.ensures.value ∙ get_or_default _ c.in-Some-place_of.i c.remove-taken.result 0 place.0 in
    let within = taken_within c.args.steps.now c.args.position c.args.self.now.open.items c.args.self.now.releases.items c.requires.few c.requires.here c.requires.before (task_at c.args.steps.now c.args.position) c.in-Release.lock does c.index_mut-held-in-Release.result.now c.in-Some-place_of.i place.0 place.1 in
    let more = c.in_ok-push.ensures.len in
    let many = c.requires.before.as_many in
    omega arith

pub returns-in-Some-place_of : goal.returns-in-Some-place_of
returns-in-Some-place_of c =
    let does = does_read c.args.steps.now c.args.position _ _ c.requires.here c.in-Release.is in
    let same = c.deref-in-Release.ensures.value ∙ ap (λ v. v.items) c.index_mut-held-in-Release.ensures.value in
    let place = subst (λ held. (c.in-Some-place_of.i < length held) × IsOf c.args.steps.now (task_at c.args.steps.now c.args.position) (slice_index held c.in-Some-place_of.i)) same c.in-Some-place_of.ensures in
    let d = c.index_mut-held-in-Release.result.now in
    let items = c.remove-taken.ensures.items ∙ ap (λ v. remove v.items c.in-Some-place_of.i) c.index_mut-held-in-Release.ensures.value in
    let taken : c.remove-taken.result ≡ slice_index (get_or c.args.self.now.open.items c.in-Release.lock d).items c.in-Some-place_of.i =
    c.remove-taken.ensures.value ∙ ap (λ v. get_or v.items c.in-Some-place_of.i c.remove-taken.result) c.index_mut-held-in-Release.ensures.value ∙ get_or_default _ c.in-Some-place_of.i c.remove-taken.result 0 place.0 in
    rw (c.in_ok-push.ensures.items, taken) (
      releases_one c.args.steps.now c.args.position c.args.self.now.open.items c.args.self.now.releases.items c.requires.few c.requires.here c.requires.before (task_at c.args.steps.now c.args.position) c.in-Release.lock does d c.in-Some-place_of.i place.0 place.1 c.remove-taken.new.self items,
      released_rightly c.args.steps.now c.args.position c.args.self.now.open.items c.args.self.now.releases.items c.requires.few c.requires.here c.requires.before (task_at c.args.steps.now c.args.position) c.in-Release.lock does d c.in-Some-place_of.i place.0 place.1,
    )

pub returns-in_default : goal.returns-in_default
returns-in_default c =
    let no_take : (t l : ℕ) (m : HoldMode) → ¬ Takes c.args.steps.now c.args.position t l m = λ t l m (w, does).
    c.in_default.not-Take l m w (action_read c.args.steps.now c.args.position t _ _ does) in
    let no_release : (t l : ℕ) → ¬ Does c.args.steps.now c.args.position t (Release l) = λ t l does.
    c.in_default.not-Release l (action_read c.args.steps.now c.args.position t _ _ does) in
    rw c.in_ok-push.ensures.items (
      stays c.args.steps.now c.args.position c.args.self.now.open.items c.args.self.now.releases.items c.requires.few c.requires.here c.requires.before no_take no_release,
      no_fault c.args.steps.now c.args.position c.args.self.now.open.items c.args.self.now.releases.items c.requires.few c.requires.here c.requires.before no_take no_release (λ t l does. absurd (c.in_default.not-Again l (action_read c.args.steps.now c.args.position t _ _ does))),
    )
