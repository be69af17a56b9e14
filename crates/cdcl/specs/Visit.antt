-- What a visit of a clause tells.
use Rattle.std.specs.Prelude.{ℕ, ◌≡◌, ◌≢◌, ◌⊎◌, Bool, true, false, List}
use Rattle.cnf_base.specs.Literals.{opposite, member}

-- all literals but two are false
abbrev pub AreFalseBut : (ℕ → Bool) → List ℕ → ℕ → ℕ → Type 0
AreFalseBut set c a b = (x : ℕ) → member x c ≡ true → (x ≡ a) ⊎ (x ≡ b) ⊎ (set (opposite x) ≡ true)

-- a literal of the clause that is not false and neither of two
pub record IsOpen (set : ℕ → Bool) (c : List ℕ) (a b l : ℕ) : Type 0 where
  pub stands : member l c ≡ true
  pub not_first : l ≢ a
  pub not_second : l ≢ b
  pub not_false : set (opposite l) ≡ false
