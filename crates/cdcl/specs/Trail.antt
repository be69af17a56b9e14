-- The literals that are set, in the order in which they were set.
use Rattle.std.specs.Prelude.{ℕ, zero, suc, ◌+◌, ◌<◌, ◌≤◌, ◌≡◌, ◌⊎◌, ◌||◌, eqb, Bool, true, false, if◌then◌else◌, List}
use Rattle.std.specs.Prelude.{length, get_or, Some}
use Rattle.cnf_base.specs.declared.cnf.Entry.TheVariants.{Clause}
use Rattle.cnf_base.specs.Literals.{opposite, member}
use Rattle.lrat_log.specs.Held.{Held}
use Rattle.cdcl.specs.declared.trail.Step.{Step}

-- what is read behind the end of a trail
abbrev pub no_step : Step
no_step = record { literal = 0; reason = 0 }

-- the literal that was set at place i
abbrev pub literal_at : List Step → ℕ → ℕ
literal_at trail i = (get_or trail i no_step).literal

-- the id of the clause that set the literal at place i, or 0 for a decision
abbrev pub reason_at : List Step → ℕ → ℕ
reason_at trail i = (get_or trail i no_step).reason

-- a literal that was set before place i of the trail
abbrev pub IsBelow : List Step → ℕ → ℕ → Type 0
IsBelow trail i l = (j : ℕ) × (j < i) × (literal_at trail j ≡ l)

-- a literal that was set at place i of the trail or later
abbrev pub IsFrom : List Step → ℕ → ℕ → Type 0
IsFrom trail i l = (j : ℕ) × (i ≤ j) × (j < length trail) × (literal_at trail j ≡ l)

-- whether a literal was set before place s of the trail
abbrev pub was_set : List Step → ℕ → ℕ → Bool
was_set trail zero l = false
was_set trail (suc s) l = eqb (literal_at trail s) l || was_set trail s l

-- whether a literal is set
abbrev pub is_set : List Step → ℕ → Bool
is_set trail = was_set trail (length trail)

-- the clause that set the literal at place i: its other literals were false before
pub record HasReason (held : Held) (trail : List Step) (i : ℕ) : Type 0 where
  pub clause : List ℕ
  pub held_as : held (reason_at trail i) ≡ Some (Clause clause)
  pub stands : member (literal_at trail i) clause ≡ true
  pub others : (x : ℕ) → member x clause ≡ true → (x ≡ literal_at trail i) ⊎ IsBelow trail i (opposite x)

-- no variable is set twice, and each literal is a decision or has its reason
pub record IsTrail (held : Held) (trail : List Step) : Type 0 where
  pub once : (i j : ℕ) → i < j → j < length trail → literal_at trail i ≡ literal_at trail j → ⊥
  pub apart : (i j : ℕ) → i < j → j < length trail → opposite (literal_at trail i) ≡ literal_at trail j → ⊥
  pub reasons : (i : ℕ) → i < length trail → (reason_at trail i ≡ 0) ⊎ HasReason held trail i

-- a literal that is unset, with a clause in which the others are false, or none for a decision
pub record MayPush (held : Held) (t : List Step) (s : Step) : Type 0 where
  pub not_true : is_set t s.literal ≡ false
  pub not_false : is_set t (opposite s.literal) ≡ false
  pub because : (s.reason ≡ 0) ⊎ ((c : List ℕ) × (held s.reason ≡ Some (Clause c)) × (member s.literal c ≡ true)
      × ((x : ℕ) → member x c ≡ true → (x ≡ s.literal) ⊎ (is_set t (opposite x) ≡ true)))

-- a literal of the clause is set
abbrev pub HasTrue : (ℕ → Bool) → List ℕ → Type 0
HasTrue set c = (x : ℕ) × (member x c ≡ true) × (set x ≡ true)

-- a held clause whose literals are all false
pub record IsConflict (held : Held) (trail : List Step) (id : ℕ) : Type 0 where
  pub clause : List ℕ
  pub held_as : held id ≡ Some (Clause clause)
  pub all_false : (x : ℕ) → member x clause ≡ true → IsBelow trail (length trail) (opposite x)

-- how many of the first n literals are not set
abbrev pub free : (ℕ → Bool) → ℕ → ℕ
free set zero = 0
free set (suc n) = (if set n then 0 else 1) + free set n
