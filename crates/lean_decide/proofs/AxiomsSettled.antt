-- What is counted and decided of the And of the axioms is so of the axioms.
use Rattle.std.proofs.Common.{◌≡◌, ℕ, [], None, sym, subst}
use Rattle.fol_sig.specs.Tables.{Declared, Tables}
use Rattle.fol_sig.specs.Symbols.{symbols}
use Rattle.fol_formula.specs.Syntax.{FormTree}
use Rattle.fol_formula.specs.Fits.{FitsForm}
use Rattle.lrat_check.specs.Checked.{Checked}
use Rattle.rml_command.specs.Models.{ModelTree}
use Rattle.fol_formula.specs.Sentences.{all_of}
use Rattle.rml_report.specs.Reports.{AxiomsAre}
use Rattle.rml_report.specs.declared.report.Axioms.TheVariants.{Consistent, Inconsistent}
use Rattle.limits.specs.Ceilings.{Ceilings}
use Rattle.ea_decide.specs.Passing.{Passes}
use Rattle.ea_decide.specs.Measuring.{IsMeasured}
use Rattle.ea_decide.specs.declared.decided.Measured.{Measured}
use Rattle.ea_decide.specs.declared.decided.Measured.TheVariants.{Within}
use Rattle.ea_decide.specs.declared.decided.Decided.{Decided}
use Rattle.ea_decide.specs.declared.decided.Decided.TheVariants.{Refuted, Satisfied}
use Rattle.pruned_decide.specs.Decisions.{IsDecidedSmall}
use Rattle.obligation_decide.specs.Laws.{JudgesAxioms}
use Rattle.lean_decide.proofs.Answered.{same_fits, same_answer}

pub and_fits : (m : ModelTree) → JudgesAxioms m → (given : Declared) (p : FormTree) → given ≡ m.signature
    → p ≡ all_of m.axioms → FitsForm (symbols given) [] p
and_fits m law given p same is =
    same_fits given m.signature p same (subst (λ (q : FormTree). FitsForm (symbols m.signature) [] q) (sym is) law.fits)

pub passes_by : (limits : Ceilings) (m : ModelTree) (given : Declared) (p : FormTree) (d : Measured) (size : ℕ)
    → given ≡ m.signature → p ≡ all_of m.axioms → d ≡ Within size → IsMeasured limits given p d
    → Passes limits m.signature (all_of m.axioms) None
passes_by limits m given p d size same is answer h =
    (subst (λ (q : FormTree). IsMeasured limits m.signature q (Within size)) is
    (subst (λ (a : Measured). IsMeasured limits m.signature p a) answer
    (subst (λ (z : Declared). IsMeasured limits z p d) same h))).0

module _ (limits : Ceilings) (m : ModelTree) (law : JudgesAxioms m) (given : Declared) (p : FormTree)
    (d : Decided) where
  decided : (e : Decided) → given ≡ m.signature → p ≡ all_of m.axioms → d ≡ e → IsDecidedSmall limits given p d
      → IsDecidedSmall limits m.signature (all_of m.axioms) e
  decided e same is answer h =
      subst (λ (q : FormTree). IsDecidedSmall limits m.signature q e) is
      (same_answer limits given m.signature p d e same answer h)

  pub refuted_by : (proof : Checked) → given ≡ m.signature → p ≡ all_of m.axioms → d ≡ Refuted proof
      → IsDecidedSmall limits given p d → AxiomsAre m Inconsistent
  refuted_by proof same is answer h = law.inconsistent (decided (Refuted proof) same is answer h).1

  pub satisfied_by : (t : Tables) → given ≡ m.signature → p ≡ all_of m.axioms → d ≡ Satisfied t
      → IsDecidedSmall limits given p d → AxiomsAre m Consistent
  satisfied_by t same is answer h = law.consistent t (decided (Satisfied t) same is answer h).1.model
