-- What the analysis of a conflict needs and gives.
use Rattle.std.specs.Prelude.{ℕ, zero, suc, ◌-◌, ◌<◌, ◌≤◌, ◌≡◌, ◌⊎◌, Bool, true, false, List, get_or, Option, Some}
use Rattle.std.specs.Prelude.{None, eqb}
use Rattle.cnf_base.specs.Literals.{opposite, member}
use Rattle.cdcl.specs.declared.trail.Step.{Step}
use Rattle.cdcl.specs.Trail.{literal_at, IsBelow, IsFrom}

-- whether a literal is marked; one without a mark is not
abbrev pub is_marked : List Bool → ℕ → Bool
is_marked marks l = get_or marks l false

-- whether a literal is the one that is left out
abbrev pub is_except : Option ℕ → ℕ → Bool
is_except None x = false
is_except (Some e) x = eqb x e

-- How many learnt literals were set at the top level: none, or the first alone.
abbrev pub HasTops : List Step → ℕ → List ℕ → ℕ → Type 0
HasTops trail top learnt zero = (x : ℕ) → member x learnt ≡ true → IsBelow trail top (opposite x)
HasTops trail top learnt (suc zero) =
    (member (get_or learnt 0 0) learnt ≡ true) × IsFrom trail top (opposite (get_or learnt 0 0))
    × ((x : ℕ) → member x learnt ≡ true → (x ≡ get_or learnt 0 0) ⊎ IsBelow trail top (opposite x))
HasTops trail top learnt (suc (suc n)) = Unit {0}

-- While no literal of the top level is learnt, one of them is marked.
abbrev pub HasOpen : List Step → ℕ → (ℕ → Bool) → ℕ → Type 0
HasOpen trail top marked tops = tops ≡ 0 → (l : ℕ) × (marked l ≡ true) × IsFrom trail top l

-- With decisions alone at most one literal of the top level is learnt, the decision itself at its start.
abbrev pub HasOneTop : ℕ → ℕ → ℕ → Type 0
HasOneTop top t tops = (tops ≡ 0) ⊎ ((tops ≡ 1) × (t ≤ top))

-- Each learnt literal was set at the top level, or before second.
abbrev pub AreBeforeSecond : List Step → ℕ → List ℕ → ℕ → Type 0
AreBeforeSecond trail top learnt second = (x : ℕ) → member x learnt ≡ true
    → IsFrom trail top (opposite x) ⊎ IsBelow trail second (opposite x)

-- The opposite of the literal just before second is learnt.
abbrev pub IsSecond : List Step → List ℕ → ℕ → Type 0
IsSecond trail learnt second = 0 < second → member (opposite (literal_at trail (second - 1))) learnt ≡ true
