-- The sentence with constants, step by step.
use Rattle.std.proofs.Common.{ℕ, true, List, [], length}
use Rattle.fol_sig.specs.Tables.{Declared}
use Rattle.fol_sig.specs.Symbols.{AreSorted, symbols}
use Rattle.fol_sig.specs.Strata.{IsStrata}
use Rattle.fol_sig.specs.Growing.{SortsAreKept, KeepsSorts}
use Rattle.fol_formula.specs.Syntax.{FormTree}
use Rattle.fol_formula.specs.Fits.{FitsForm}
use Rattle.fol_formula.specs.Fragments.{IsNormal}
use Rattle.fol_nnf.specs.Normal.{normal}
use Rattle.fol_nnf.specs.Laws.{TruthIsKept, FittingIsKept, IsAlwaysNormal, FragmentsAreKept}
use Rattle.skolem.specs.Laws.{IsSkolemised, IsNormalUniversal, EachIsSkolemised, NormalBecomesUniversal}
use Rattle.ground_terms.specs.Terms.{Lists, AreClosed}
use Rattle.ground_expand.specs.Laws.{HasInstance}
use Rattle.ea_decide.specs.GroundForm.{skolem_sentence}
use Rattle.ea_decide.specs.Steps.{more_symbols, IsGroundable}

-- the laws of the layers below
pub record Rewriting : Type 0 where
  pub sorts : SortsAreKept
  pub truth : TruthIsKept
  pub fits : FittingIsKept
  pub normal : IsAlwaysNormal
  pub fragments : FragmentsAreKept
  pub models : EachIsSkolemised
  pub universal : NormalBecomesUniversal

module _ (laws : Rewriting) (sig : Declared) (p : FormTree) (order : List ℕ) (given : IsGroundable sig p order) where
  pub normal_fits : FitsForm (symbols sig) [] (normal true p)
  normal_fits = laws.fits (symbols sig) [] true p given.fits

  pub is_normal : IsNormal (normal true p)
  is_normal = ((laws.fragments true p given.fragment.1).exists_forall given.fragment.0, laws.normal true p)

  pub skolemises : IsSkolemised sig (normal true p)
  skolemises = laws.models sig (normal true p) normal_fits

  pub keeps : KeepsSorts (symbols sig) (more_symbols sig p)
  keeps = laws.sorts (symbols sig) (more_symbols sig p) skolemises.grows.grows

  pub sorted : AreSorted (more_symbols sig p)
  sorted = keeps.sorted given.sorted

  pub strata : IsStrata (more_symbols sig p) order
  strata = keeps.strata order given.strata

  pub universal : IsNormalUniversal (skolem_sentence sig p)
  universal = laws.universal (length sig.functions) (normal true p) is_normal

  pub has_instance : (lists : Lists) → AreClosed (more_symbols sig p) lists
      → HasInstance (more_symbols sig p) lists (skolem_sentence sig p)
  has_instance lists closed = record {
    sorted = sorted;
    closed = closed;
    fits = skolemises.fits;
    universal = universal.universal.0;
    normal = universal.normal;
  }
