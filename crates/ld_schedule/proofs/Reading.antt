-- What a step that is read says.
use Rattle.ld_schedule.proofs.Names.{◌≡◌, ◌<◌, ◌∙◌, Action, Does, Forever, List, Step, Take, Write, ap, get_or, length, slice_get, slice_get-get_or, get_or_from_slice_get, Some, same_Some, sym, ℕ}

pub does_read : (h : List Step) (p : ℕ) (d : Step) (action : Action) → p < length h →
    (get_or h p d).action ≡ action → Does h p (get_or h p d).task action
does_read h p d action within e =
    slice_get-get_or h p d within ∙ ap (λ (a : Action). Some (record { task = (get_or h p d).task; action = a })) e

-- a position has one step
pub same_step : (h : List Step) (p t u : ℕ) (a b : Action) → Does h p t a → Does h p u b → (t ≡ u) × (a ≡ b)
same_step h p t u a b x y =
    let x' : slice_get h p ≡ Some (record { task = t; action = a }) = x in
    let y' : slice_get h p ≡ Some (record { task = u; action = b }) = y in
    let e : ◌≡◌ {A = Step} (record { task = t; action = a }) (record { task = u; action = b }) = same_Some _ _ (sym x' ∙ y') in
    (ap (λ (s : Step). s.task) e, ap (λ (s : Step). s.action) e)

-- what is read there
pub action_read : (h : List Step) (p task : ℕ) (d : Step) (action : Action) → Does h p task action → (get_or h p d).action ≡ action
action_read h p task d action does =
    ap (λ (s : Step). s.action) (get_or_from_slice_get h p (record { task = task; action = action }) d does)

pub task_read : (h : List Step) (p task : ℕ) (d : Step) (action : Action) → Does h p task action → (get_or h p d).task ≡ task
task_read h p task d action does =
    ap (λ (s : Step). s.task) (get_or_from_slice_get h p (record { task = task; action = action }) d does)

-- the task of the step that is read there
abbrev pub task_at : List Step → ℕ → ℕ
task_at h p = (get_or h p (record { task = 0; action = Take 0 Write Forever })).task

-- what a step that is read does
pub does_at : (h : List Step) (p : ℕ) (step : Step) (action : Action) → slice_get h p ≡ Some step → step.action ≡ action →
    Does h p step.task action
does_at h p step action at is = at ∙ ap (λ (a : Action). Some (record { task = step.task; action = a })) is

pub step_at : (h : List Step) (p task : ℕ) (step : Step) (action : Action) → slice_get h p ≡ Some step → Does h p task action →
    (step.task ≡ task) × (step.action ≡ action)
step_at h p task step action at does = same_step h p step.task task step.action action at does
