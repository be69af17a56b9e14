-- A goal about a conjecture, by that conjecture alone.
use Rattle.std.specs.Prelude.{[], ◌∷◌}
use Rattle.fol_formula.specs.Syntax.{FormTree, negation}
use Rattle.rml_command.specs.Models.{ModelTree}
use Rattle.fol_formula.specs.Sentences.{all_of}
use Rattle.rml_command.specs.declared.goal.Goal.{Goal}
use Rattle.rml_wp.specs.declared.premises.Premises.TheVariants.{Affected}
use Rattle.rml_wp.specs.Preconditions.{target_of, goal_precondition}

-- the conjecture is true, and some end of the path breaks it
abbrev pub breaks_alone : ModelTree → Goal → FormTree
breaks_alone m goal = all_of (target_of m goal.about ∷ negation (goal_precondition Affected m goal) ∷ [])
