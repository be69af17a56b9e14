-- How many ground terms each sort has, once the existentials of a sentence are constants.
use Rattle.std.specs.Prelude.{◌≡◌, ℕ, true, List, map}
use Rattle.fol_sig.specs.Tables.{Declared}
use Rattle.fol_sig.specs.Symbols.{symbols}
use Rattle.fol_sig.specs.Growing.{grown}
use Rattle.fol_formula.specs.Syntax.{FormTree}
use Rattle.fol_formula.specs.Counts.{saturated}
use Rattle.fol_nnf.specs.Normal.{normal}
use Rattle.skolem.specs.Constants.{new_sorts}
use Rattle.ground_terms.specs.TermCounts.{AreCounts}

-- the signature with a constant for each existential of the sentence's normal form
abbrev pub skolem_signature : Declared → FormTree → Declared
skolem_signature sig p = grown sig (new_sorts (normal true p))

-- each sort has so many ground terms
abbrev pub AreTermCounts : Declared → FormTree → List ℕ → Type 0
AreTermCounts sig p counts = AreCounts (symbols (skolem_signature sig p)) counts

-- these are the counts, but for those that 64 bits do not hold
pub record AreCounted (sig : Declared) (p : FormTree) (counted : List ℕ) : Type 0 where
  pub counts : List ℕ
  pub terms : AreTermCounts sig p counts
  pub capped : counted ≡ map saturated counts
