-- The And of a model's axioms, and what a model of it with constants says of them.
use Rattle.std.proofs.Common.{true, List, [], ◌∷◌, sym, ◌∙◌}
use Rattle.std.specs.List.{AllByRecursion}
use Rattle.fol_sig.specs.Tables.{Tables, reading}
use Rattle.fol_sig.specs.Symbols.{Symbols, symbols}
use Rattle.fol_sig.specs.Constants.{reduct}
use Rattle.fol_formula.specs.Syntax.{FormTree, forms_of}
use Rattle.fol_formula.specs.Fits.{FitsForm, FitsForms, BoundForm}
use Rattle.fol_formula.specs.Closed.{FitsIsBound}
use Rattle.fol_formula.specs.Fragments.{IsEa, AreExistsForall, HavePlainTerms}
use Rattle.fol_nnf.specs.Normal.{normal}
use Rattle.fol_nnf.specs.Laws.{TruthIsKept, FittingIsKept}
use Rattle.skolem.specs.Laws.{EachIsSkolemised}
use Rattle.fol_formula.specs.Sentences.{all_of}
use Rattle.rml_command.specs.Models.{ModelTree, FitsModel}
use Rattle.rml_report.specs.Reports.{SatisfiesAxioms}
use Rattle.obligation_decide.specs.WithConstants.{HoldsWithConstants}
use Rattle.obligation_decide.specs.Laws.{AxiomsAreJudged}

all-fit : (sig : Symbols) (ps : List FormTree) → AllByRecursion (FitsForm sig []) ps → FitsForms sig [] (forms_of ps)
all-fit sig [] h = tt
all-fit sig (p ∷ ps) h = (h.0, all-fit sig ps h.1)

all-exists : (ps : List FormTree) → AllByRecursion IsEa ps → AreExistsForall true (forms_of ps)
all-exists [] h = tt
all-exists (p ∷ ps) h = (h.0.0, all-exists ps h.1)

all-plain : (ps : List FormTree) → AllByRecursion IsEa ps → HavePlainTerms (forms_of ps)
all-plain [] h = tt
all-plain (p ∷ ps) h = (h.0.1, all-plain ps h.1)

module _ (m : ModelTree) where
  pub axioms-fit : FitsModel m → FitsForm (symbols m.signature) [] (all_of m.axioms)
  axioms-fit fits = all-fit (symbols m.signature) m.axioms fits.axioms

  pub axioms-bound : FitsIsBound → FitsModel m → BoundForm 0 (all_of m.axioms)
  axioms-bound bound fits = bound (symbols m.signature) [] (all_of m.axioms) (axioms-fit fits)

  pub axioms-ea : AllByRecursion IsEa m.axioms → IsEa (all_of m.axioms)
  axioms-ea h = (all-exists m.axioms h, all-plain m.axioms h)

  -- without the constants it satisfies the axioms
  pub satisfied : TruthIsKept → FittingIsKept → EachIsSkolemised → FitsModel m → (t : Tables)
      → HoldsWithConstants m.signature (all_of m.axioms) t → SatisfiesAxioms m (reduct (symbols m.signature) t)
  satisfied kept fitting skolem fits t model =
      let p = all_of m.axioms in
      let sig = symbols m.signature in
      let normal_fits = fitting sig [] true p (axioms-fit fits) in
      let w = (skolem m.signature (normal true p) normal_fits).models.without t model in
      record { structure = w.structure; lawful = sym (kept (reading (reduct sig t)) true p []) ∙ w.holds }

pub judged : TruthIsKept → FittingIsKept → EachIsSkolemised → AxiomsAreJudged
judged kept fitting skolem m fits = record {
  fits = axioms-fit m fits;
  inconsistent = λ none s lawful. none s lawful.structure lawful.lawful;
  consistent = λ t model. (reduct (symbols m.signature) t, satisfied m kept fitting skolem fits t model);
}
