-- The invariant of a search.
use Rattle.std.specs.Prelude.{ℕ, ◌<◌, ◌≤◌, ◌≡◌, List, length, get_or}
use Rattle.cdcl.specs.declared.trail.Step.{Step}
use Rattle.cdcl.specs.declared.state.State.{State}
use Rattle.cdcl.specs.Trail.{reason_at}
use Rattle.cdcl.specs.State.{IsState, IsSafeAt, IsWatchingAt}

-- Starts are the places of the trail where a level begins, from level 1 on: at them, and only there, stand the
-- decisions.
pub record AreStarts (trail : List Step) (starts : List ℕ) : Type 0 where
  pub rising : (i j : ℕ) → i < j → j < length starts → get_or starts i 0 < get_or starts j 0
  pub inside : (i : ℕ) → i < length starts → get_or starts i 0 < length trail
  pub decided : (i : ℕ) → i < length trail → reason_at trail i ≡ 0 → (j : ℕ) × (j < length starts)
      × (get_or starts j 0 ≡ i)

-- At each decision no held clause is false or unit under the trail below it; below head all consequences were drawn.
pub record IsWatchingLevels (s : State) (starts : List ℕ) (head : ℕ) : Type 0 where
  pub safe : (i : ℕ) → i < length starts → IsSafeAt s (get_or starts i 0)
  pub drawn : head ≤ length s.trail.steps
  pub watching : IsWatchingAt s head

-- The trail is in order, the levels begin at its decisions, at each of these all consequences had been drawn, and so
-- they are now below head.
pub record IsSearchState (s : State) (starts : List ℕ) (head : ℕ) : Type 0 where
  pub state : IsState s
  pub decisions : AreStarts s.trail.steps starts
  pub levels : IsWatchingLevels s starts head
