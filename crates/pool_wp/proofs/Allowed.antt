-- The parts of a refuting sentence.
use Rattle.std.proofs.Common.{◌≡◌, [], ◌∷◌, ◌++◌, refl}
use Rattle.fol_formula.specs.Syntax.{FormTree, negation, form_then, no_forms, forms_of}
use Rattle.fol_formula.specs.Sentences.{all_of}
use Rattle.rml_command.specs.Models.{ModelTree}
use Rattle.rml_command.specs.declared.goal.Stage.{Stage}
use Rattle.rml_command.specs.declared.goal.Stage.TheVariants as stage
use Rattle.rml_wp.specs.Preconditions.{allowed_parts}
use Rattle.pool_wp.specs.Standing.{held_row}

-- what holds before a stage, in front of the negation of a precondition
pub allowed_row : (m : ModelTree) (st : Stage) (p : FormTree)
    → form_then (all_of m.axioms) (held_row st (all_of m.conjectures) (form_then (negation p) no_forms))
    ≡ forms_of ((allowed_parts m m.conjectures st ++ negation p ∷ []) ++ [])
allowed_row m stage.Init p = refl
allowed_row m (stage.Action a) p = refl
allowed_row m stage.Final p = refl
