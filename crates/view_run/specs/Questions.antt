-- The one page that names every question: whose answer is whose, and what is due.
use Rattle.std.specs.Prelude.{◌≡◌, ℕ, if◌then◌else◌, List, [], Option, Some, None, Result, Ok, Err}
use Rattle.rml_bytes.specs.declared.outside.LoadError.{LoadError}
use Rattle.rml_bytes.specs.Outside.{Told}
use Rattle.commands.specs.Ends.{EndsNone, EndsOne, EndsTwo}
use Rattle.commands.specs.Due.{Due, stop_due}
use Rattle.command_parts.specs.ModelTexts.{model_limit}
use Rattle.command_parts.specs.Limits.{ceilings_of}
use Rattle.lean_decide.specs.declared.settling.Counted.{Counted}
use Rattle.lean_decide.specs.declared.settling.Counted.TheVariants.{Whole, Lean}
use Rattle.model_commands.specs.Check.{IsCheckAnswer}
use Rattle.model_commands.specs.Houdini.{IsHoudiniAnswer}
use Rattle.model_commands.specs.Bmc.{IsBmcAnswer}
use Rattle.model_commands.specs.declared.check.CheckAnswer.{CheckAnswer}
use Rattle.model_commands.specs.declared.houdini.HoudiniAnswer.{HoudiniAnswer}
use Rattle.model_commands.specs.declared.bmc.BmcAnswer.{BmcAnswer}
use Rattle.replay_command.specs.Replay.{IsReplayAnswer, report_limit}
use Rattle.replay_command.specs.declared.replay.ReplayAnswer.{ReplayAnswer}
use Rattle.told_fault.specs.declared.reading.Reading.{Reading}
use Rattle.view_line.specs.declared.options.Form.{Form}
use Rattle.view_line.specs.declared.options.Form.TheVariants as form
use Rattle.view_line.specs.declared.options.Options.{Options}
use Rattle.view_line.specs.Asking.{Query, AskLine, of_check, of_houdini, of_bmc, of_why, of_replay, help, version, show}
use Rattle.view_run.specs.declared.viewed.ModelAnswer.{ModelAnswer}
use Rattle.view_run.specs.declared.viewed.ModelAnswer.TheVariants as model_answer
use Rattle.view_run.specs.declared.viewed.Viewed.{Viewed}
use Rattle.view_run.specs.declared.why.WhyAnswer.{WhyAnswer}
use Rattle.view_run.specs.Views.{IsViewed}
use Rattle.view_run.specs.Check.{check_view}
use Rattle.view_run.specs.Houdini.{houdini_view}
use Rattle.view_run.specs.Bmc.{bmc_view}
use Rattle.view_run.specs.Why.{IsWhyAnswer, why_view}
use Rattle.view_run.specs.Replay.{replay_view}
use Rattle.view_run.specs.declared.ended.Answer.{Answer}
use Rattle.view_run.specs.declared.ended.Answer.TheVariants as answer
use Rattle.view_run.specs.declared.words.Words.{Words}
use Rattle.view_run.specs.declared.words.Words.TheVariants as words
use Rattle.view_run.specs.Words.{words_due}

-- which words are asked for
abbrev pub words_of : Option AskLine → Words
words_of (Some help) = words.Help
words_of (Some version) = words.Version
words_of _ = words.Usage

-- on which counts limits are
abbrev pub counted_by : Options → Counted
counted_by options = if options.lean then Lean else Whole

-- the answer to words alone
abbrev pub IsWords : Answer → Type 0
IsWords a = a ≡ answer.Words

-- an answer of `check` of which P holds
abbrev pub OfCheck : (CheckAnswer → Type 0) → ModelAnswer → Type 0
OfCheck P (model_answer.Check a) = P a
OfCheck P _ = ⊥

-- an answer of `houdini` of which P holds
abbrev pub OfHoudini : (HoudiniAnswer → Type 0) → ModelAnswer → Type 0
OfHoudini P (model_answer.Houdini a) = P a
OfHoudini P _ = ⊥

-- an answer of `bmc` of which P holds
abbrev pub OfBmc : (BmcAnswer → Type 0) → ModelAnswer → Type 0
OfBmc P (model_answer.Bmc a) = P a
OfBmc P _ = ⊥

-- an answer of `why` of which P holds
abbrev pub OfWhy : (WhyAnswer → Type 0) → ModelAnswer → Type 0
OfWhy P (model_answer.Why a) = P a
OfWhy P _ = ⊥

-- an answer of `replay` of which P holds
abbrev pub OfReplay : (ReplayAnswer → Type 0) → ModelAnswer → Type 0
OfReplay P (model_answer.Replay a) = P a
OfReplay P _ = ⊥

-- What answers a question about these texts, with limits on these counts. What `check`, `houdini`, `bmc` and `replay`
-- answer is what they answer in `ivycheck`.
abbrev pub IsAnswer : Query → Counted → List ℕ → List ℕ → ModelAnswer → Type 0
IsAnswer (of_check file asked) counted text other a = OfCheck (IsCheckAnswer counted (ceilings_of asked) text) a
IsAnswer (of_houdini file asked) counted text other a = OfHoudini (IsHoudiniAnswer counted (ceilings_of asked) text) a
IsAnswer (of_bmc file bound) counted text other a = OfBmc (IsBmcAnswer counted bound text) a
IsAnswer (of_why file asked) counted text other a = OfWhy (IsWhyAnswer (ceilings_of asked) text) a
IsAnswer (of_replay model report) counted text other a = OfReplay (IsReplayAnswer text other) a

-- the answer to a question with these options, on lean counts where `--lean` stands, and the text of the model is read
-- as far as it can be
abbrev pub AnswersAsked : Query → Options → List ℕ → List ℕ → Answer → Type 0
AnswersAsked q options text other (answer.Viewed v) = IsViewed (IsAnswer q (counted_by options) text other) text v
AnswersAsked q options text other answer.Words = ⊥

-- How each command line ends: what of its files was loaded, and of what the answer is the answer. Words that are no
-- command line, or ask for help or for the version, load nothing.
abbrev pub EndsAsAsked : Option AskLine → (List ℕ → Told) → ℕ → ℕ → List ℕ → List ℕ → Result Answer LoadError → Type 0
EndsAsAsked None told before now first second end = EndsNone before now first second (λ text other a. IsWords a) end
EndsAsAsked (Some help) told before now first second end =
    EndsNone before now first second (λ text other a. IsWords a) end
EndsAsAsked (Some version) told before now first second end =
    EndsNone before now first second (λ text other a. IsWords a) end
EndsAsAsked (Some (show (of_check file asked) options)) told before now first second end =
    EndsOne (told file) model_limit before now first second (AnswersAsked (of_check file asked) options) end
EndsAsAsked (Some (show (of_houdini file asked) options)) told before now first second end =
    EndsOne (told file) model_limit before now first second (AnswersAsked (of_houdini file asked) options) end
EndsAsAsked (Some (show (of_bmc file bound) options)) told before now first second end =
    EndsOne (told file) model_limit before now first second (AnswersAsked (of_bmc file bound) options) end
EndsAsAsked (Some (show (of_why file asked) options)) told before now first second end =
    EndsOne (told file) model_limit before now first second (AnswersAsked (of_why file asked) options) end
EndsAsAsked (Some (show (of_replay model report) options)) told before now first second end =
    EndsTwo (told model) (told report) model_limit report_limit before now first second
    (AnswersAsked (of_replay model report) options) end

-- how the answer is to be shown
abbrev pub form_of : Option AskLine → Form
form_of (Some (show q options)) = options.form
form_of _ = form.Told

-- the name of the model's file
abbrev pub file_of : Query → List ℕ
file_of (of_check file asked) = file
file_of (of_houdini file asked) = file
file_of (of_bmc file bound) = file
file_of (of_why file asked) = file
file_of (of_replay model report) = model

-- the name of the report's file; empty where no report is asked about
abbrev pub report_in : Query → List ℕ
report_in (of_replay model report) = report
report_in _ = []

-- the name of the model's file in a command line; empty where no question is asked
abbrev pub model_of : Option AskLine → List ℕ
model_of (Some (show q options)) = file_of q
model_of _ = []

-- the name of the report's file in a command line; empty where no report is asked about
abbrev pub report_of : Option AskLine → List ℕ
report_of (Some (show q options)) = report_in q
report_of _ = []

-- what is due for an answer about a model: in this form, with the names of the model's file and of the report's
abbrev pub model_due : Form → List ℕ → List ℕ → List ℕ → Reading → ModelAnswer → Due
model_due form file report text reading (model_answer.Check a) = check_view form file text reading a
model_due form file report text reading (model_answer.Houdini a) = houdini_view form file text reading a
model_due form file report text reading (model_answer.Bmc a) = bmc_view form file text reading a
model_due form file report text reading (model_answer.Why a) = why_view form file text reading a
model_due form file report text reading (model_answer.Replay a) = replay_view form file report text reading a

-- of an answer with the text as far as it can be read
abbrev pub view_due : Form → List ℕ → List ℕ → List ℕ → Viewed → Due
view_due form file report text v = model_due form file report text v.reading v.answer

-- what is due, by the command line, the text of the model and the answer
abbrev pub answer_due : Option AskLine → List ℕ → List ℕ → Answer → Due
answer_due ask first second answer.Words = words_due (words_of ask)
answer_due ask first second (answer.Viewed v) = view_due (form_of ask) (model_of ask) (report_of ask) first v

-- what is due, by the command line, the texts and the outcome
abbrev pub due_of : Option AskLine → List ℕ → List ℕ → Result Answer LoadError → Due
due_of ask first second (Ok a) = answer_due ask first second a
due_of ask first second (Err why) = stop_due why
