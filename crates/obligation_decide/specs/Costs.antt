-- What a goal would cost where the structures must satisfy further sentences, or the limit that it passes by its size.
use Rattle.std.specs.Prelude.{◌≡◌, ◌≤◌, List, [], ◌∷◌, Some, None}
use Rattle.fol_sig.specs.Tables.{Declared}
use Rattle.fol_formula.specs.Syntax.{FormTree}
use Rattle.rml_command.specs.Models.{ModelTree}
use Rattle.fol_formula.specs.Sentences.{all_of}
use Rattle.rml_command.specs.declared.goal.Goal.{Goal}
use Rattle.rml_command.specs.declared.goal.Stage.{Stage}
use Rattle.rml_command.specs.declared.goal.Stage.TheVariants as stage
use Rattle.rml_wp.specs.Preconditions.{answered}
use Rattle.rml_wp.specs.Added.{refuting_where}
use Rattle.ea_decide.specs.declared.decided.Passed.{Passed}
use Rattle.limits.specs.Ceilings.{Ceilings}
use Rattle.ea_decide.specs.Passing.{Passes}
use Rattle.ea_decide.specs.Measuring.{HasSize}
use Rattle.obligation_decide.specs.GoalPassing.{cause_of}
use Rattle.obligation_decide.specs.Restricted.{RestrictedPassesFirst}
use Rattle.obligation_decide.specs.declared.decision.Measured.{Measured}
use Rattle.obligation_decide.specs.declared.decision.Measured.TheVariants.{Within, Over}
use Rattle.rml_wp.specs.declared.premises.Premises.TheVariants.{All}

-- The part of a refuting sentence that stands for these conjectures. Private contracts alone cite this.
abbrev pub held_before : Stage → List FormTree → List FormTree
held_before stage.Init held = []
held_before (stage.Action a) held = all_of held ∷ []
held_before stage.Final held = all_of held ∷ []

-- Of the sentence. Private contracts alone cite this.
abbrev pub IsSentenceMeasured : Ceilings → Declared → FormTree → Measured → Type 0
IsSentenceMeasured limits sig p (Within size) =
    Passes limits sig p None × HasSize sig p size × (size ≤ limits.size)
IsSentenceMeasured limits sig p (Over c) =
    (passed : Passed) × (c ≡ cause_of passed) × Passes limits sig p (Some passed)

-- No limit is passed, and the ground formulas of the refuting sentence with these sentences are of this size, within
-- its limit; or this limit is passed first.
abbrev pub IsRestrictedMeasured : Ceilings → ModelTree → List FormTree → Goal → Measured → Type 0
IsRestrictedMeasured limits m more goal (Within size) =
    RestrictedPassesFirst limits m more goal None
    × HasSize (answered m goal) (refuting_where All m m.conjectures more goal) size × (size ≤ limits.size)
IsRestrictedMeasured limits m more goal (Over c) = RestrictedPassesFirst limits m more goal (Some c)
