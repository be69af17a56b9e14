-- The model with an abort at the end of a walk tells whether the walk has an outcome.
use Rattle.std.proofs.Common.{◌≡◌, inl, inr, Bool, true, false, ◌||◌, Some, List, [], ◌∷◌, ◌++◌, refl, sym, ◌∙◌}
use Rattle.fol_sig.specs.Tables.{Tables}
use Rattle.fol_sig.specs.Symbols.{FitsStructure, symbols}
use Rattle.rml_command.specs.Trees.{PrimitiveTree, abort}
use Rattle.fol_formula.specs.Sentences.{satisfies}
use Rattle.rml_command.specs.Outcomes.{Outcome, ended, aborted, PathHasOutcome}
use Rattle.rml_command.specs.Paths.{is_abort, has_abort}
use Rattle.rml_command.specs.Models.{ModelTree}
use Rattle.rml_command.specs.Fragment.{IsChecked}
use Rattle.rml_command.specs.Goals.{HasNone}
use Rattle.rml_command.specs.Laws.{PathHasFollowedOutcomes, PathsKeepKind, PathsEndAtAbort}
use Rattle.rml_command.specs.declared.goal.About.TheVariants as about
use Rattle.walks.specs.declared.leg.Leg.{Leg}
use Rattle.walks.specs.Walks.{joined}
use Rattle.walks.specs.Runs.{Along}
use Rattle.walks.specs.Laws.{AreLegs}
use Rattle.walk_model.specs.WalkModels.{stopped_model, walk_goal}
use Rattle.walk_model.specs.Laws.{HasNoOutcome, StoppedModelsTell}
use Rattle.walk_model.proofs.Outcomes.{onward, joined_outcome}
use Rattle.walk_model.proofs.Checked.{stopped_path, is_stopped_model}

has_one : (p : List PrimitiveTree) → has_abort (p ++ abort ∷ []) ≡ true
has_one [] = refl
has_one (q ∷ qs) = behind (is_abort q) (has_one qs)
  where
    behind : (b : Bool) → has_abort (qs ++ abort ∷ []) ≡ true → (b || has_abort (qs ++ abort ∷ [])) ≡ true
    behind true e = refl
    behind false e = e

module _ (ends : PathsEndAtAbort) (followed : PathHasFollowedOutcomes) (kinds : PathsKeepKind) (m : ModelTree)
    (legs : List Leg) (checked : IsChecked m) (are : AreLegs m legs) (goes : has_abort (joined m legs) ≡ false) where
  abbrev stopped : List PrimitiveTree
  stopped = joined m legs ++ abort ∷ []

  none_by : HasNone (stopped_model m legs) m.conjectures (walk_goal about.Abort) → (s : Tables) (o : Outcome)
      → FitsStructure (symbols m.signature) s → satisfies s m.axioms ≡ true
      → PathHasOutcome m.axioms (joined m legs) s o
      → ⊥
  none_by none s aborted fits lawful h = cc (sym goes ∙ kinds.aborts m.axioms (joined m legs) s h)
  none_by none s (ended new) fits lawful h =
      let g = (followed m.axioms stopped s aborted).0
      (onward m.axioms (joined m legs) (abort ∷ []) s new aborted h (inl (refl, refl))) in
      none s g.havocs [] (record {
        path = stopped;
        is_path = stopped_path ends m legs checked are goes about.Abort;
        structure = fits;
        allowed = lawful;
        count = g.count;
        fails = (g.ends, refl);
      })

  has_none : HasNone (stopped_model m legs) m.conjectures (walk_goal about.Abort) → HasNoOutcome m legs
  has_none none s o fits lawful along = none_by none s o fits lawful (joined_outcome m legs s o along)

pub stopped_models_tell : PathsEndAtAbort → PathHasFollowedOutcomes → PathsKeepKind → StoppedModelsTell
stopped_models_tell ends followed kinds m legs checked are goes = record {
  checked = is_stopped_model ends m legs checked are goes;
  is_goal = record {
    path = joined m legs ++ abort ∷ [];
    is_path = stopped_path ends m legs checked are goes about.Abort;
    kind = has_one (joined m legs);
    about = tt;
  };
  none = has_none ends followed kinds m legs checked are goes;
}
