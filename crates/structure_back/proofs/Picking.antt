-- What rows have at some places, one after another.
use Rattle.std.proofs.Common.{◌≡◌, ℕ, List, ◌++◌, length, drop}
use Rattle.ground_terms.specs.Values.{Elements, elements_of}

-- those of the first i places are there
pub record ArePicked (v : Elements) (ks xs done : List ℕ) (i : ℕ) : Type 0 where
  pub long : length done ≡ i
  pub rest : done ++ elements_of v (drop i ks) (drop i xs) ≡ elements_of v ks xs
