-- What is known of witnesses.
use Rattle.std.proofs.Common.{Bool}
use Rattle.fol_formula.specs.Syntax.{FormTree}
use Rattle.fol_formula.specs.Fragments.{IsQuantifierFree}
use Rattle.fol_formula.specs.NormalForms.{normal_form}
use Rattle.fol_formula.specs.Inclusions.{QuantifierFreeIsUniversal, UniversalIsAe}
use Rattle.fol_formula.specs.Quantified.{AllBelow}
use Rattle.fol_formula.specs.Witnesses.{NeedsNoWitness, WitnessedIsTrue, UniversalNeedsNoWitness}

pub record KnowsWitnesses : Type 0 where
  pub all_below : AllBelow
  pub sound : WitnessedIsTrue
  pub universal : UniversalNeedsNoWitness
  pub free : QuantifierFreeIsUniversal
  pub universal_ae : UniversalIsAe

-- without quantifiers no witness is needed
pub free-none : KnowsWitnesses → (b : Bool) (p : FormTree) → IsQuantifierFree p → NeedsNoWitness (normal_form b p)
free-none known b p h = known.universal b p ((known.free p h).universal b)
