-- The command lines of `ivyview`: a question of `ivycheck`, or `why FILE`, with the options of `ivyview` anywhere among
-- the words.
use Rattle.std.specs.Prelude.{◌≤◌, Bool, true, false, ◌&&◌, not, List, [], ◌∷◌, Option, Some, None}
use Rattle.std.specs.Prelude.{codes}
use Rattle.std.specs.Prelude.{if◌then◌else◌}
use Rattle.std.specs.Str.{bytes_eq}
use Rattle.clap.specs.Words.{Text}
use Rattle.command_line.specs.Lines.{Line, check, houdini, bmc, lrat, replay, emit, sample, line_of, check_line}
use Rattle.command_line.specs.Asking.{IsInRange}
use Rattle.command_line.specs.declared.request.Asked.{Asked}
use Rattle.command_line.specs.declared.request.Bound.{Bound}
use Rattle.view_line.specs.Options.{others, has, options_of}
use Rattle.view_line.specs.declared.options.Form.{Form}
use Rattle.view_line.specs.declared.options.Form.TheVariants as form
use Rattle.view_line.specs.declared.options.Options.{Options}
use Rattle.view_line.specs.declared.asking.Question.{Question}
use Rattle.view_line.specs.declared.asking.Question.TheVariants as question
use Rattle.view_line.specs.declared.asking.Ask.{Ask}
use Rattle.view_line.specs.declared.asking.Ask.TheVariants as ask

-- what is asked of a model, with the names of its files
pub data Query : Type 0 where
  of_check : Text → Asked → Query
  of_houdini : Text → Asked → Query
  of_bmc : Text → Bound → Query
  of_why : Text → Asked → Query
  of_replay : Text → Text → Query

-- the question that a value of the program stands for
abbrev pub question_line : Question → Query
question_line (question.Check file asked) = of_check file.now asked
question_line (question.Houdini file asked) = of_houdini file.now asked
question_line (question.Bmc file bound) = of_bmc file.now bound
question_line (question.Why file asked) = of_why file.now asked
question_line (question.Replay model report) = of_replay model.now report.now

-- what a command line of `ivyview` asks for
pub data AskLine : Type 0 where
  help : AskLine
  version : AskLine
  show : Query → Options → AskLine

-- the command line that a value of the program stands for
abbrev pub ask_line : Ask → AskLine
ask_line ask.Help = help
ask_line ask.Version = version
ask_line (ask.Show q options) = show (question_line q) options

-- each number is one of those that may stand there
abbrev pub HasQuestionRanges : Question → Type 0
HasQuestionRanges (question.Check file asked) = IsInRange asked
HasQuestionRanges (question.Houdini file asked) = IsInRange asked
HasQuestionRanges (question.Bmc file bound) = (bound.steps ≤ 12) × IsInRange bound.limits
HasQuestionRanges (question.Why file asked) = IsInRange asked
HasQuestionRanges (question.Replay model report) = Unit {0}

-- `--help` and `--version` have no numbers
abbrev pub HasAskRanges : Ask → Type 0
HasAskRanges ask.Help = Unit {0}
HasAskRanges ask.Version = Unit {0}
HasAskRanges (ask.Show q options) = HasQuestionRanges q

-- the questions among the command lines of `ivycheck`
abbrev pub question_of : Option Line → Option Query
question_of (Some (check file asked)) = Some (of_check file asked)
question_of (Some (houdini file asked)) = Some (of_houdini file asked)
question_of (Some (bmc file bound)) = Some (of_bmc file bound)
question_of (Some (lrat formula log)) = None
question_of (Some (replay model report)) = Some (of_replay model report)
question_of (Some (emit file emission)) = None
question_of (Some (sample n)) = None
question_of None = None

-- `why` takes the words of `check`
abbrev pub why_of : Option Line → Option Query
why_of (Some (check file asked)) = Some (of_why file asked)
why_of _ = None

-- the question of words without the options of `ivyview`; none where they are no such command line
abbrev pub asked_of : List Text → Option Query
asked_of [] = None
asked_of (command ∷ words) =
    if bytes_eq command (codes "why") then why_of (check_line (command ∷ words))
    else question_of (line_of (command ∷ words))

-- whether no picture is asked for
abbrev pub is_not_dot : Form → Bool
is_not_dot form.Dot = false
is_not_dot form.Told = true
is_not_dot form.Json = true

-- no picture is drawn, and no limit counted in a lean way, for `why` and `replay`
abbrev pub is_offered : Query → Options → Bool
is_offered (of_check file asked) options = true
is_offered (of_houdini file asked) options = true
is_offered (of_bmc file bound) options = true
is_offered (of_why file asked) options = not options.lean && is_not_dot options.form
is_offered (of_replay model report) options = not options.lean && is_not_dot options.form

-- the question with its options, if there are both and it can be asked with these
abbrev pub offered : Option Query → Option Options → Option AskLine
offered None options = None
offered (Some q) None = None
offered (Some q) (Some options) = if is_offered q options then Some (show q options) else None

-- help and version come before all else
abbrev pub ask_of : List Text → Option AskLine
ask_of words =
    if has (codes "--help") words then Some help
    else if has (codes "--version") words then Some version
    else offered (asked_of (others words)) (options_of words)
