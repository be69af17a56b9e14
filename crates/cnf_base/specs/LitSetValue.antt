-- What contracts see of a set of literals.
use Rattle.std.specs.Prelude.{ℕ, ◌==◌, ◌||◌, Bool, List, get_or}
use Rattle.cnf_base.specs.Literals.{member}

-- a stamp for each literal of small code, the stamp that counts, and the literals of the table
pub record LitSetValue : Type 0 where
  pub stamps : List ℕ
  pub epoch : ℕ
  pub far : List ℕ

-- whether a literal is in the set: its stamp is the one that counts, or it stands in the table
abbrev pub set_of : LitSetValue → ℕ → Bool
set_of a x = (get_or a.stamps x 0 == a.epoch) || member x a.far
