-- What one pass over the functions and one over the sorts give, while the sorts are put in order.
use Rattle.std.specs.Prelude.{◌≡◌, ℕ, ◌<◌, Bool, true, false, List, [], length, slice_index_or, All, Option, Some, None}
use Rattle.std.specs.Prelude.{cond}
use Rattle.std.specs.List.{sum_by}
use Rattle.fol_sig.specs.Symbols.{Symbols}
use Rattle.fol_sig.specs.Strata.{has, AreInOrder, IsStrata, IsOnCycle}

-- the flag of a sort
abbrev pub is_set : List Bool → ℕ → Bool
is_set flags k = slice_index_or flags k false

-- the argument sorts of the functions into it are placed
abbrev pub IsReady : Symbols → List Bool → ℕ → Type 0
IsReady sig placed k =
    (f : ℕ) → f < sig.functions → sig.into_of f ≡ k → All (λ q. is_set placed q ≡ true) (sig.from_of f)

-- a function into it takes a sort that is not placed
pub record IsWaiting (sig : Symbols) (placed : List Bool) (k : ℕ) : Type 0 where
  pub function : ℕ
  pub known : function < sig.functions
  pub into : sig.into_of function ≡ k
  pub sort : ℕ
  pub takes : has (sig.from_of function) sort ≡ true
  pub missing : is_set placed sort ≡ false

-- the flags of the sorts that wait for another
pub record AreWaiting (sig : Symbols) (placed waits : List Bool) : Type 0 where
  pub each : length waits ≡ sig.sorts
  pub free : (k : ℕ) → is_set waits k ≡ false → IsReady sig placed k
  pub stuck : (k : ℕ) → is_set waits k ≡ true → IsWaiting sig placed k

-- whether all of the sorts are placed
abbrev pub ArePlaced : List Bool → List ℕ → Bool → Type 0
ArePlaced placed ks true = All (λ q. is_set placed q ≡ true) ks
ArePlaced placed ks false = (q : ℕ) × (has ks q ≡ true) × (is_set placed q ≡ false)

-- the order so far, and the flags of its sorts
pub record IsSoFar (sig : Symbols) (placed : List Bool) (order : List ℕ) : Type 0 where
  pub each : length placed ≡ sig.sorts
  pub same : (k : ℕ) → is_set placed k ≡ has order k
  pub sorts : All (λ k. k < sig.sorts) order
  pub ordered : AreInOrder sig [] order

-- how many sorts are left
abbrev pub left_over : List Bool → ℕ
left_over placed = sum_by (λ b. cond b 0 1) placed

-- the pass placed a sort, or each that waits for none was placed before
abbrev pub Advances : List Bool → List Bool → List Bool → Bool → Type 0
Advances waits old new true = left_over new < left_over old
Advances waits old new false = (new ≡ old) × ((k : ℕ) → k < length waits → is_set waits k ≡ false → is_set new k ≡ true)

-- an order and no cycle, or a cycle
abbrev pub HasOrder : Symbols → Option (List ℕ) → Type 0
HasOrder sig (Some order) = IsStrata sig order × ((f : ℕ) → IsOnCycle sig f → ⊥)
HasOrder sig None = (f : ℕ) × IsOnCycle sig f

-- whether no function is on a cycle
abbrev pub HasNoCycle : Symbols → Bool → Type 0
HasNoCycle sig true = (f : ℕ) → IsOnCycle sig f → ⊥
HasNoCycle sig false = (f : ℕ) × IsOnCycle sig f
