-- A refuting sentence in which little is assumed before the stage. Private contracts alone cite this.
use Rattle.std.specs.Prelude.{Bool, true, false, List, [], ◌∷◌, ◌++◌}
use Rattle.fol_formula.specs.Syntax.{FormTree, negation}
use Rattle.rml_command.specs.Models.{ModelTree}
use Rattle.fol_formula.specs.Sentences.{all_of}
use Rattle.rml_command.specs.declared.goal.Goal.{Goal}
use Rattle.rml_command.specs.declared.goal.Stage.{Stage}
use Rattle.rml_command.specs.declared.goal.Stage.TheVariants as stage
use Rattle.rml_wp.specs.declared.premises.Premises.TheVariants.{Affected}
use Rattle.rml_wp.specs.Preconditions.{goal_precondition}
use Rattle.rml_command.specs.InductiveSets.{conjectures_of}
use Rattle.rml_houdini.specs.declared.assumed.Assumed.{Assumed}

-- the axioms, where they are assumed
abbrev pub lawful_parts : Bool → List FormTree → List FormTree
lawful_parts true axioms = all_of axioms ∷ []
lawful_parts false axioms = []

-- the sentences that hold before the stage; before init none does
abbrev pub held_parts : Stage → List FormTree → List FormTree
held_parts stage.Init held = []
held_parts (stage.Action a) held = all_of held ∷ []
held_parts stage.Final held = all_of held ∷ []

-- What is assumed is true, and some end of the goal's path is not as it must be. Behind a step the affected axioms
-- alone are premises.
abbrev pub assumed_sentence : ModelTree → Assumed → Goal → FormTree
assumed_sentence m a goal =
    all_of (lawful_parts a.lawful m.axioms ++ held_parts goal.stage (conjectures_of m a.held.items)
    ++ negation (goal_precondition Affected m goal) ∷ [])
