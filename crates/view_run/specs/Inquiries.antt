-- How a question is answered on the way, before its answer is one of all. Private contracts alone cite this.
use Rattle.std.specs.Prelude.{◌≡◌, ℕ, List, [], Result, Ok, Err}
use Rattle.rml_bytes.specs.declared.outside.LoadError.{LoadError}
use Rattle.rml_bytes.specs.Outside.{Told}
use Rattle.commands.specs.declared.command.Done.{Done}
use Rattle.commands.specs.Ends.{EndsOne, EndsTwo}
use Rattle.command_parts.specs.ModelTexts.{model_limit}
use Rattle.command_parts.specs.Limits.{ceilings_of}
use Rattle.lean_decide.specs.declared.settling.Counted.{Counted}
use Rattle.model_commands.specs.Check.{IsCheckAnswer}
use Rattle.model_commands.specs.Houdini.{IsHoudiniAnswer}
use Rattle.model_commands.specs.Bmc.{IsBmcAnswer}
use Rattle.replay_command.specs.Replay.{IsReplayAnswer, report_limit}
use Rattle.view_line.specs.declared.options.Form.{Form}
use Rattle.view_line.specs.Asking.{Query, of_check, of_houdini, of_bmc, of_why, of_replay}
use Rattle.view_run.specs.declared.inquiry.Inquiry.{Inquiry}
use Rattle.view_run.specs.declared.inquiry.Inquiry.TheVariants as inquiry
use Rattle.view_run.specs.declared.viewed.ModelAnswer.{ModelAnswer}
use Rattle.view_run.specs.declared.viewed.Viewed.{Viewed}
use Rattle.view_run.specs.declared.ended.Answer.{Answer}
use Rattle.view_run.specs.declared.ended.Answer.TheVariants as answer
use Rattle.view_run.specs.Views.{IsViewed}
use Rattle.view_run.specs.Why.{IsWhyAnswer}
use Rattle.view_run.specs.Questions.{OfCheck, OfHoudini, OfBmc, OfWhy, OfReplay, IsAnswer, file_of, report_in, view_due}

-- the answer to these texts
abbrev pub IsAnswerTo : Inquiry → List ℕ → List ℕ → ModelAnswer → Type 0
IsAnswerTo (inquiry.Check c) text other a = OfCheck (IsCheckAnswer c.counted (ceilings_of c.asked) text) a
IsAnswerTo (inquiry.Houdini c) text other a = OfHoudini (IsHoudiniAnswer c.counted (ceilings_of c.asked) text) a
IsAnswerTo (inquiry.Bmc c) text other a = OfBmc (IsBmcAnswer c.counted c.bound text) a
IsAnswerTo (inquiry.Why c) text other a = OfWhy (IsWhyAnswer (ceilings_of c.asked) text) a
IsAnswerTo inquiry.Replay text other a = OfReplay (IsReplayAnswer text other) a

-- the answer to a question, with what is due for it
abbrev pub IsShown : Query → Counted → Form → List ℕ → List ℕ → Done Viewed → Type 0
IsShown q counted form text other d = IsViewed (IsAnswer q counted text other) text d.answer
    × (d.said ≡ view_due form (file_of q) (report_in q) text d.answer)

-- How each question ends. One of a single file leaves the second text empty.
abbrev pub EndsAsShown : Query → Counted → Form → (List ℕ → Told) → ℕ → ℕ → List ℕ → List ℕ
    → Result (Done Viewed) LoadError → Type 0
EndsAsShown (of_check file asked) counted form told before now first second end = (second ≡ [])
    × EndsOne (told file) model_limit before now first [] (IsShown (of_check file asked) counted form) end
EndsAsShown (of_houdini file asked) counted form told before now first second end = (second ≡ [])
    × EndsOne (told file) model_limit before now first [] (IsShown (of_houdini file asked) counted form) end
EndsAsShown (of_bmc file bound) counted form told before now first second end = (second ≡ [])
    × EndsOne (told file) model_limit before now first [] (IsShown (of_bmc file bound) counted form) end
EndsAsShown (of_why file asked) counted form told before now first second end = (second ≡ [])
    × EndsOne (told file) model_limit before now first [] (IsShown (of_why file asked) counted form) end
EndsAsShown (of_replay model report) counted form told before now first second end =
    EndsTwo (told model) (told report) model_limit report_limit before now first second
    (IsShown (of_replay model report) counted form) end

-- the answer to a question as one of all; a failure to load stays one
abbrev pub done_as : Result (Done Viewed) LoadError → Result (Done Answer) LoadError
done_as (Ok done) = Ok (record { answer = answer.Viewed done.answer; said = done.said })
done_as (Err why) = Err why
