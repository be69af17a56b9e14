-- What holds before a stage beside the axioms, as the code builds it.
use Rattle.fol_formula.specs.Syntax.{FormTree, top}
use Rattle.rml_command.specs.declared.goal.Stage.{Stage}
use Rattle.rml_command.specs.declared.goal.Stage.TheVariants as stage

-- before init nothing is asked for
abbrev pub held_at : Stage → FormTree → FormTree
held_at stage.Init held = top
held_at (stage.Action a) held = held
held_at stage.Final held = held
