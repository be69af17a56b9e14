-- The orders of the sorts in which the functions go upward, and the cycles where there is none.
use Rattle.std.specs.Prelude.{◌≡◌, ℕ, ◌+◌, ◌<◌, Bool, true, false, ◌||◌, ◌==◌, List, [], ◌∷◌, All}
use Rattle.fol_sig.specs.Symbols.{Symbols, AreSorted}

-- whether the sort stands in the list
abbrev pub has : List ℕ → ℕ → Bool
has [] k = false
has (q ∷ qs) k = q == k || has qs k

-- behind the sorts that are done, each sort is new, and the argument sorts of the functions into it stand before it
abbrev pub AreInOrder : Symbols → List ℕ → List ℕ → Type 0
AreInOrder sig done [] = Unit {0}
AreInOrder sig done (k ∷ order) =
    (has done k ≡ false)
    × ((f : ℕ) → f < sig.functions → sig.into_of f ≡ k → All (λ q. has done q ≡ true) (sig.from_of f))
    × AreInOrder sig (k ∷ done) order

-- an order of all sorts in which each stands once, behind the argument sorts of the functions into it
pub record IsStrata (sig : Symbols) (order : List ℕ) : Type 0 where
  pub sorts : All (λ k. k < sig.sorts) order
  pub whole : (k : ℕ) → k < sig.sorts → has order k ≡ true
  pub ordered : AreInOrder sig [] order

-- the symbols with the first n functions alone
abbrev pub with_functions : Symbols → ℕ → Symbols
with_functions sig n = record sig { functions = n }

-- From the sort k the functions of the list lead to the sort q: each takes an argument of the sort that is reached, and
-- reaches the sort of its values.
abbrev pub IsWalk : Symbols → ℕ → List ℕ → ℕ → Type 0
IsWalk sig k [] q = k ≡ q
IsWalk sig k (f ∷ fs) q = (f < sig.functions) × (has (sig.from_of f) k ≡ true) × IsWalk sig (sig.into_of f) fs q

-- a walk that begins with the function f leads back to the sort that it began from
pub record IsOnCycle (sig : Symbols) (f : ℕ) : Type 0 where
  pub sort : ℕ
  pub rest : List ℕ
  pub closed : IsWalk sig sort (f ∷ rest) sort

-- the function closes a cycle with those before it, and these have none
pub record IsFirstCycle (sig : Symbols) (f : ℕ) : Type 0 where
  pub known : f < sig.functions
  pub closes : IsOnCycle (with_functions sig (f + 1)) f
  pub before : (g : ℕ) → IsOnCycle (with_functions sig f) g → ⊥

-- an order of the sorts leaves no cycle
abbrev pub OrderHasNoCycle : Type 0
OrderHasNoCycle = (sig : Symbols) (order : List ℕ) (f : ℕ) → AreSorted sig → IsStrata sig order → IsOnCycle sig f → ⊥

-- at most one function is the first that closes a cycle
abbrev pub FirstCycleIsOne : Type 0
FirstCycleIsOne = (sig : Symbols) (f g : ℕ) → IsFirstCycle sig f → IsFirstCycle sig g → f ≡ g
