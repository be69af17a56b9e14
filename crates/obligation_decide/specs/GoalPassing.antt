-- Which limit a goal passes, by what is counted before anything is decided.
use Rattle.std.specs.Prelude.{◌≡◌, MatchBool, List, Option, Some, None}
use Rattle.fol_sig.specs.Tables.{Declared}
use Rattle.fol_formula.specs.Syntax.{FormTree}
use Rattle.rml_command.specs.Models.{ModelTree}
use Rattle.rml_command.specs.declared.goal.Goal.{Goal}
use Rattle.limits.specs.declared.cause.Cause.TheVariants as cause
use Rattle.rml_wp.specs.Preconditions.{answered, goal_passes_limit, refuting}
use Rattle.limits.specs.declared.cause.Cause.{Cause}
use Rattle.ea_decide.specs.declared.decided.Passed.{Passed}
use Rattle.ea_decide.specs.declared.decided.Passed.TheVariants as passed
use Rattle.ea_decide.specs.Passing.{Passes}
use Rattle.rml_wp.specs.declared.premises.Premises.TheVariants.{All}
use Rattle.limits.specs.Ceilings.{Ceilings}

-- a limit that a sentence passed, as a report names it
abbrev pub cause_of : Passed → Cause
cause_of (passed.Terms n) = cause.Terms n
cause_of (passed.GroundSize n) = cause.Ground n
cause_of (passed.Conflicts n) = cause.Conflicts n

-- the same, where there may be none
abbrev pub first_cause : Option Passed → Option Cause
first_cause None = None
first_cause (Some p) = Some (cause_of p)

-- the sentence that is true in the structures from which the goal has a counterexample
abbrev pub refuting_sentence : ModelTree → Goal → FormTree
refuting_sentence m goal = refuting All m m.conjectures goal

-- The sentence passes this limit first, or none, over the signature. Here and in what follows a refuting sentence of
-- the goal decides, over the answered signature, with whatever sentences hold before the stage, and whatever further
-- parts it has.
abbrev pub PassesAs : Ceilings → Declared → FormTree → Option Cause → Type 0
PassesAs limits sig p first = (q : Option Passed) × Passes limits sig p q × (first ≡ first_cause q)

-- The first limit that is passed, if one is: that of formulas, by the preconditions along the goal's path; or one that
-- the sentence passes.
abbrev pub PassesFirstAs : Ceilings → ModelTree → Goal → FormTree → Option Cause → Type 0
PassesFirstAs limits m goal p first =
    MatchBool (goal_passes_limit All m goal) (first ≡ Some cause.Formula) (PassesAs limits (answered m goal) p first)

-- the refuting sentence passes this limit first, or none, where these sentences hold before the stage
abbrev pub SentencePasses : Ceilings → ModelTree → List FormTree → Goal → Option Cause → Type 0
SentencePasses limits m held goal first = PassesAs limits (answered m goal) (refuting All m held goal) first

-- and so does the goal itself
abbrev pub PassesFirst : Ceilings → ModelTree → List FormTree → Goal → Option Cause → Type 0
PassesFirst limits m held goal first = PassesFirstAs limits m goal (refuting All m held goal) first
