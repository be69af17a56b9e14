-- Watched clauses: each clause of two or more literals is watched by two of them.
use Rattle.std.specs.Prelude.{ℕ, ◌+◌, ◌<◌, ◌≡◌, ◌⊎◌, true, Bool, List, [], length, get_or, Some}
use Rattle.cnf_base.specs.declared.cnf.Entry.TheVariants.{Clause}
use Rattle.cnf_base.specs.Literals.{opposite, member}
use Rattle.lrat_log.specs.Held.{Held}
use Rattle.cdcl.specs.declared.trail.Step.{Step}
use Rattle.cdcl_tables.specs.declared.watches.Pair.{Pair}
use Rattle.cdcl_tables.specs.declared.watches.Watch.{Watch}
use Rattle.cdcl_tables.specs.Nothing.{no_pair, no_watch}
use Rattle.cdcl.specs.Trail.{was_set, is_set, HasTrue}

-- the two watched literals of each clause, by the clause's place
abbrev pub Pairs : Type 0
Pairs = ℕ → Pair

-- the clauses in whose list a literal stands, by the literal
abbrev pub Lists : Type 0
Lists = ℕ → List Watch

-- the pairs in a list, and none behind its end
abbrev pub pair_at : List Pair → Pairs
pair_at pairs k = get_or pairs k no_pair

-- the lists in a list, and empty ones behind its end
abbrev pub list_at : List (List Watch) → Lists
list_at lists w = get_or lists w []

-- two different literals of a clause
pub record IsPairOf (c : List ℕ) (p : Pair) : Type 0 where
  pub different : p.first ≡ p.second → ⊥
  pub first_stands : member p.first c ≡ true
  pub second_stands : member p.second c ≡ true

-- Two literals of a clause are watched. Where one of them is false in front, some literal of the clause is true.
pub record IsWatchedBy (front set : ℕ → Bool) (c : List ℕ) (p : Pair) : Type 0 where
  pub pair : IsPairOf c p
  pub first_false : front (opposite p.first) ≡ true → HasTrue set c
  pub second_false : front (opposite p.second) ≡ true → HasTrue set c

-- a clause that is watched or has a true literal, so is neither false nor unit in front
abbrev pub IsSafe : (ℕ → Bool) → (ℕ → Bool) → List ℕ → Pair → Type 0
IsSafe front set c p = IsWatchedBy front set c p ⊎ HasTrue set c

-- the clause at place k stands in a list, before index n
abbrev pub StandsBefore : List Watch → ℕ → ℕ → Type 0
StandsBefore list n k = (i : ℕ) × (i < n) × ((get_or list i no_watch).place ≡ k)

-- the clause at place k stands in a list
abbrev pub StandsIn : List Watch → ℕ → Type 0
StandsIn list k = StandsBefore list (length list) k

-- what a list names: a held clause that is watched, and one of its literals
pub record IsWatch (held : Held) (pairs : Pairs) (w : Watch) : Type 0 where
  pub clause : List ℕ
  pub held_as : held (w.place + 1) ≡ Some (Clause clause)
  pub blocker : member w.blocker clause ≡ true
  pub pair : IsPairOf clause (pairs w.place)

-- each element of a list names a held clause that is watched
abbrev pub AreWatches : Held → Pairs → List Watch → Type 0
AreWatches held pairs list = (i : ℕ) → i < length list → IsWatch held pairs (get_or list i no_watch)

-- each clause of a pair stands in the lists of both literals
abbrev pub AreListed : Held → Pairs → Lists → Type 0
AreListed held pairs lists = (k : ℕ) (c : List ℕ) → held (k + 1) ≡ Some (Clause c) → IsPairOf c (pairs k)
    → StandsIn (lists (pairs k).first) k × StandsIn (lists (pairs k).second) k

-- each held clause is watched or has a true literal
abbrev pub AreSafe : Held → (ℕ → Bool) → (ℕ → Bool) → Pairs → Type 0
AreSafe held front set pairs = (k : ℕ) (c : List ℕ) → held (k + 1) ≡ Some (Clause c) → IsSafe front set c (pairs k)

-- at place s of the trail no clause was false or unit
abbrev pub WereSafe : Held → List Step → Pairs → ℕ → Type 0
WereSafe held trail pairs s = AreSafe held (was_set trail s) (was_set trail s) pairs

-- The watch invariant. Below head the consequences of each literal were drawn.
pub record IsWatching (held : Held) (trail : List Step) (head : ℕ) (pairs : Pairs) (lists : Lists) : Type 0 where
  pub at_head : AreSafe held (was_set trail head) (is_set trail) pairs
  pub listed : AreListed held pairs lists
  pub watches : (w : ℕ) → AreWatches held pairs (lists w)

-- a clause that watches w stands in the list of w, or in the list that was taken out for f
pub record IsListed (lists : Lists) (f : ℕ) (list : List Watch) (w k : ℕ) : Type 0 where
  pub elsewhere : (w ≡ f → ⊥) → StandsIn (lists w) k
  pub here : w ≡ f → StandsIn list k

-- The list of f, the opposite of the literal at head, was taken out. Its watches are visited from the last on: those
-- before index n are to do.
pub record AreVisited (held : Held) (trail : List Step) (head : ℕ) (pairs : Pairs) (lists : Lists) (f : ℕ)
    (list : List Watch) (n : ℕ) : Type 0 where
  pub todo : AreSafe held (was_set trail head) (is_set trail) pairs
  pub done : (k : ℕ) (c : List ℕ) → held (k + 1) ≡ Some (Clause c) → (StandsBefore list n k → ⊥)
      → IsSafe (was_set trail (head + 1)) (is_set trail) c (pairs k)
  pub listed : (k : ℕ) (c : List ℕ) → held (k + 1) ≡ Some (Clause c) → IsPairOf c (pairs k)
      → IsListed lists f list (pairs k).first k × IsListed lists f list (pairs k).second k
  pub watches : (w : ℕ) → AreWatches held pairs (lists w)
  pub in_list : AreWatches held pairs list
