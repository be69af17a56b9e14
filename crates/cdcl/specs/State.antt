-- The state of a search: what holds of it, how it grows, and what propagation keeps.
use Rattle.std.specs.Prelude.{ℕ, ◌^◌, ◌<◌, ◌≤◌, ◌≡◌, List, length, Some, All}
use Rattle.cnf_base.specs.declared.cnf.Entry.TheVariants.{Clause}
use Rattle.cnf_base.specs.Literals.{opposite}
use Rattle.lrat_log.specs.Held.{Held, held_by}
use Rattle.cdcl.specs.declared.state.State.{State}
use Rattle.cdcl_tables.specs.declared.watches.Watch.{Watch}
use Rattle.cdcl.specs.Trail.{literal_at, IsTrail}
use Rattle.cdcl.specs.Growth.{Extends}
use Rattle.cdcl.specs.Watch.{Pairs, Lists, pair_at, list_at, WereSafe, IsWatching, AreVisited}

-- the clauses by their ids
abbrev pub held_in : State → Held
held_in s = held_by s.clauses

-- the two watched literals of each clause
abbrev pub pairs_of : State → Pairs
pairs_of s = pair_at s.watches.pairs.items

-- the clauses that each literal watches
abbrev pub lists_of : State → Lists
lists_of s = list_at s.watches.lists.items

-- The literals of each clause have values and lists, and each clause has a pair.
pub record IsState (s : State) : Type 0 where
  pub trail : IsTrail (held_in s) s.trail.steps
  pub small : (id : ℕ) (c : List ℕ) → held_in s id ≡ Some (Clause c)
      → All (λ l. (l < s.trail.size) × (opposite l < s.trail.size)) c
  pub paired : length s.watches.pairs.items ≡ length s.clauses
  pub listed : length s.watches.lists.items ≡ s.trail.size
  pub few : length s.clauses < 2 ^ 31

-- the first n literals of the trail left each clause safe
abbrev pub IsSafeAt : State → ℕ → Type 0
IsSafeAt s n = WereSafe (held_in s) s.trail.steps (pairs_of s) n

-- The clauses stay, the trail grows by what they force, and what was safe stays so.
pub record Grows (old new : State) : Type 0 where
  pub clauses : new.clauses ≡ old.clauses
  pub extends : Extends old.trail new.trail
  pub safe : (n : ℕ) → n ≤ length old.trail.steps → IsSafeAt old n → IsSafeAt new n

-- the consequences of the literals below head were drawn
abbrev pub IsWatchingAt : State → ℕ → Type 0
IsWatchingAt s head = IsWatching (held_in s) s.trail.steps head (pairs_of s) (lists_of s)

-- the list of the literal that became false at head was taken out, and its watches before n are to be visited
pub record IsVisiting (s : State) (head : ℕ) (list : List Watch) (n : ℕ) : Type 0 where
  pub within : head < length s.trail.steps
  pub visited : AreVisited (held_in s) s.trail.steps head (pairs_of s) (lists_of s)
      (opposite (literal_at s.trail.steps head)) list n
