-- What holds of a search, and what going back does.
use Rattle.std.specs.Prelude.{ℕ, ◌<◌, ◌≤◌, ◌≡◌, ◌≢◌, false, length, get_or, take}
use Rattle.cdcl.specs.declared.search.Search.{Search}
use Rattle.cdcl.specs.Trail.{reason_at, IsConflict}
use Rattle.cdcl.specs.State.{held_in, IsState}
use Rattle.cdcl.specs.Learning.{is_marked}
use Rattle.cdcl.specs.Search.{IsSearchState}

-- what holds of a search before and after each analysis of a conflict, when no literal is marked
pub record IsSearch (s : Search) : Type 0 where
  pub search : IsSearchState s.state s.starts.items s.head
  pub marked : length s.marks.items ≡ s.state.trail.size
  pub clear : (l : ℕ) → is_marked s.marks.items l ≡ false

-- The levels that begin at `second` or later are gone, and their literals with them.
pub record WentBack (old new : Search) (second : ℕ) : Type 0 where
  pub clauses : new.state.clauses ≡ old.state.clauses
  pub size : new.state.trail.size ≡ old.state.trail.size
  pub fewer : length new.starts.items < length old.starts.items
  pub steps : new.state.trail.steps ≡ take (get_or old.starts.items (length new.starts.items) 0) old.state.trail.steps
  pub above : second ≤ get_or old.starts.items (length new.starts.items) 0
  pub before : (i : ℕ) → i < length new.starts.items → get_or new.starts.items i 0 < second
  pub starts : (i : ℕ) → i < length new.starts.items → get_or new.starts.items i 0 ≡ get_or old.starts.items i 0
  pub head : new.head ≡ length new.state.trail.steps

-- The trail is cut to its first `to` literals, all of whose consequences are drawn; the rest of the tables stays.
pub record IsCut (old new : Search) (to : ℕ) : Type 0 where
  pub clauses : new.state.clauses ≡ old.state.clauses
  pub watches : new.state.watches ≡ old.state.watches
  pub size : new.state.trail.size ≡ old.state.trail.size
  pub steps : new.state.trail.steps ≡ take to old.state.trail.steps
  pub starts : new.starts.items ≡ old.starts.items
  pub marks : new.marks.items ≡ old.marks.items
  pub head : new.head ≡ to

-- A clause is false at level 0: each literal of the trail has its reason.
pub record IsRefuted (s : Search) (id : ℕ) : Type 0 where
  pub state : IsState s.state
  pub marked : length s.marks.items ≡ s.state.trail.size
  pub clear : (l : ℕ) → is_marked s.marks.items l ≡ false
  pub conflict : IsConflict (held_in s.state) s.state.trail.steps id
  pub forced : (i : ℕ) → i < length s.state.trail.steps → reason_at s.state.trail.steps i ≢ 0
