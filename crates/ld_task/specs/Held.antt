-- Which locks are kept and held [this project's own].
use Rattle.std.specs.Prelude.{ℕ, suc, Bool, ◌&&◌, nat_le, List, nat_lt, Option}
use Rattle.ld_task.specs.Events.{event, is_acquire, takes, gives_back, key_taken}
use Rattle.ld_task.specs.Frames.{depth, one_frame}
use Rattle.ld_task.specs.Positions.{all_between, count_between}
use Rattle.ld_trace.specs.declared.event.Event.{Event}

-- i's key
abbrev pub key_at : List Event → ℕ → ℕ
key_at t i = key_taken (event t i)

-- how many events in i's frame, after i and before k, pass a test
unfoldable pub count_since : List Event → ℕ → ℕ → (Option Event → Bool) → ℕ
count_since t i k test = count_between i k (λ p. one_frame t i p && test (event t p))

-- how often i's key is taken again in i's frame, after i and before k
abbrev pub acquisitions_since : List Event → ℕ → ℕ → ℕ
acquisitions_since t i k = count_since t i k (takes (key_at t i))

-- how often i's key is released in i's frame, after i and before k
abbrev pub releases_since : List Event → ℕ → ℕ → ℕ
releases_since t i k = count_since t i k (gives_back (key_at t i))

-- acquisition i is still kept at j: its frame stays open up to j, and nowhere up to j has its key been released more
-- often than it was taken again since i (a release is of the newest lock of its key, so the later ones go first)
unfoldable pub is_kept : List Event → ℕ → ℕ → Bool
is_kept t i j =
    nat_lt i j && is_acquire (event t i)
    && all_between i (suc j) (λ k.
    nat_le (depth t i) (depth t k) && nat_le (releases_since t i k) (acquisitions_since t i k))

-- acquisition i is held at j: it is kept there, and was taken in j's frame
unfoldable pub is_held : List Event → ℕ → ℕ → Bool
is_held t i j = is_kept t i j && one_frame t i j
