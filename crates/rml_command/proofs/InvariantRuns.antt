-- An inductive invariant is true in every run: by induction over the steps of a run.
use Rattle.std.proofs.Common.{◌≡◌, true, List, [], ◌∷◌, refl, subst}
use Rattle.std.specs.List.{AllByRecursion}
use Rattle.base.proofs.Lists.{all_at}
use Rattle.fol_sig.specs.Symbols.{symbols}
use Rattle.fol_formula.specs.Syntax.{FormTree}
use Rattle.fol_formula.specs.Sentences.{satisfies}
use Rattle.rml_command.specs.Outcomes.{Outcome, ended, aborted, HasOutcome}
use Rattle.rml_command.specs.Models.{ModelTree, FitsCommand, FitsModel}
use Rattle.rml_command.specs.Runs.{Step, Run, From, Leads, IsRun}
use Rattle.rml_command.specs.Invariants.{IsInductiveInvariant, AreTrueAt}
use Rattle.rml_command.specs.Laws.{UpdatesKeepSymbols, InductiveInvariantsHold}
use Rattle.rml_command.proofs.Structures.{IsLawful, kept, step_lawful}

module _ (keep : UpdatesKeepSymbols) (m : ModelTree) (sentences : List FormTree) (fits : FitsModel m)
    (invariant : IsInductiveInvariant m sentences) where
  -- an abort, or a structure of the model that satisfies the axioms and the sentences
  abbrev IsGood : Outcome → Type 0
  IsGood (ended s) = IsLawful m.axioms (symbols m.signature) s × (satisfies s sentences ≡ true)
  IsGood aborted = Unit {0}

  true_there : (o : Outcome) → IsGood o → AreTrueAt sentences o
  true_there (ended s) good = good.1
  true_there aborted good = tt

  -- a step from a good outcome has a good outcome
  after_step : (from : Outcome) (step : Step) (steps : List Step) (to : Outcome) → IsGood from
      → Leads m from (step ∷ steps) to → (o : Outcome) → step.outcome ≡ o → IsGood o
  after_step aborted step steps to good leads o is = absurd leads.2
  after_step (ended s) step steps to good leads aborted is = tt
  after_step (ended s) step steps to good leads (ended new) is =
      let out = subst (λ (o : Outcome). From m leads.0 (ended s) o) is leads.2 in (
        kept m.axioms (symbols m.signature) (IsLawful m.axioms (symbols m.signature))
            (step_lawful keep m.axioms (symbols m.signature)) leads.0 s new
            (all_at (FitsCommand (symbols m.signature)) m.actions step.action leads.0 leads.1 fits.blocks.actions)
            good.0 out,
        invariant.actions step.action leads.0 s new leads.1 good.0.structure good.0.axioms_hold good.1 out,
      )

  after_steps : (from : Outcome) (steps : List Step) (to : Outcome) → IsGood from → Leads m from steps to
      → AllByRecursion (λ step. AreTrueAt sentences step.outcome) steps
  after_steps from [] to good leads = tt
  after_steps from (step ∷ steps) to good leads =
      let here = after_step from step steps to good leads step.outcome refl in (
        true_there step.outcome here,
        after_steps step.outcome steps to here leads.3,
      )

  after_init : (run : Run) → IsRun m run → (o : Outcome) → run.first ≡ o → IsGood o
  after_init run ok aborted is = tt
  after_init run ok (ended s) is =
      let out = subst (λ (o : Outcome). HasOutcome m.axioms m.init run.start o) is ok.init in (
        kept m.axioms (symbols m.signature) (IsLawful m.axioms (symbols m.signature))
            (step_lawful keep m.axioms (symbols m.signature)) m.init run.start s fits.blocks.init
            (record { structure = ok.structure; axioms_hold = ok.lawful }) out,
        invariant.init run.start s ok.structure ok.lawful out,
      )

pub true_in_runs : UpdatesKeepSymbols → InductiveInvariantsHold
true_in_runs keep m sentences run fits invariant ok =
    let first = after_init keep m sentences fits invariant run ok run.first refl in
    record {
      first = true_there keep m sentences fits invariant run.first first;
      steps = after_steps keep m sentences fits invariant run.first run.steps ok.to first ok.leads;
    }
