-- The one page that names every command: whose answer is whose, and what is due.
use Rattle.std.specs.Prelude.{◌≡◌, ℕ, List, map, Option, Some, None, Result, Ok, Err, String, string_bytes}
use Rattle.rml_bytes.specs.declared.outside.LoadError.{LoadError}
use Rattle.rml_bytes.specs.Outside.{Told}
use Rattle.commands.specs.Ends.{EndsNone, EndsOne, EndsTwo}
use Rattle.commands.specs.Due.{Due, Passage, stop_due, IsWritten}
use Rattle.command_line.specs.Lines.{Line, line_of, check, houdini, bmc, lrat, replay, emit, sample}
use Rattle.command_line.specs.declared.request.Asked.{Asked}
use Rattle.command_line.specs.declared.request.Bound.{Bound}
use Rattle.command_line.specs.declared.request.Emission.{Emission}
use Rattle.command_parts.specs.ModelTexts.{model_limit}
use Rattle.ivy_run.specs.Usage.{usage_due}
use Rattle.command_parts.specs.Limits.{ceilings_of}
use Rattle.model_commands.specs.Check.{IsCheckAnswer, check_due}
use Rattle.clause_commands.specs.Lrat.{IsRefutation, clause_limit, lrat_due}
use Rattle.clause_commands.specs.Emit.{IsEmitAnswer, emit_due}
use Rattle.model_commands.specs.Houdini.{IsHoudiniAnswer, houdini_due}
use Rattle.model_commands.specs.Bmc.{IsBmcAnswer, bmc_due}
use Rattle.model_commands.specs.Sample.{IsSampleAnswer, sample_due}
use Rattle.replay_command.specs.Replay.{IsReplayAnswer, report_limit, replay_due}
use Rattle.replay_command.specs.declared.replay.ReplayAnswer.{ReplayAnswer}
use Rattle.model_commands.specs.declared.check.CheckAnswer.{CheckAnswer}
use Rattle.clause_commands.specs.declared.lrat.LratAnswer.{LratAnswer}
use Rattle.clause_commands.specs.declared.emit.EmitAnswer.{EmitAnswer}
use Rattle.model_commands.specs.declared.houdini.HoudiniAnswer.{HoudiniAnswer}
use Rattle.model_commands.specs.declared.bmc.BmcAnswer.{BmcAnswer}
use Rattle.model_commands.specs.declared.sample.SampleAnswer.{SampleAnswer}
use Rattle.ivy_run.specs.declared.ended.Answer.{Answer}
use Rattle.ivy_run.specs.declared.ended.Answer.TheVariants as answer
use Rattle.ivy_run.specs.declared.ended.Ended.{Ended}
use Rattle.lean_decide.specs.declared.settling.Counted.TheVariants.{Whole}

-- the answer to words that are no command line
abbrev pub IsUsage : Answer → Type 0
IsUsage a = a ≡ answer.Usage

-- an answer of `check` of which P holds
abbrev pub OfCheck : (CheckAnswer → Type 0) → Answer → Type 0
OfCheck P (answer.Check a) = P a
OfCheck P _ = ⊥

-- an answer of `lrat` of which P holds
abbrev pub OfLrat : (LratAnswer → Type 0) → Answer → Type 0
OfLrat P (answer.Lrat a) = P a
OfLrat P _ = ⊥

-- an answer of `emit` of which P holds
abbrev pub OfEmit : (EmitAnswer → Type 0) → Answer → Type 0
OfEmit P (answer.Emit a) = P a
OfEmit P _ = ⊥

-- an answer of `houdini` of which P holds
abbrev pub OfHoudini : (HoudiniAnswer → Type 0) → Answer → Type 0
OfHoudini P (answer.Houdini a) = P a
OfHoudini P _ = ⊥

-- an answer of `bmc` of which P holds
abbrev pub OfBmc : (BmcAnswer → Type 0) → Answer → Type 0
OfBmc P (answer.Bmc a) = P a
OfBmc P _ = ⊥

-- an answer of `replay` of which P holds
abbrev pub OfReplay : (ReplayAnswer → Type 0) → Answer → Type 0
OfReplay P (answer.Replay a) = P a
OfReplay P _ = ⊥

-- an answer of `sample` of which P holds
abbrev pub OfSample : (SampleAnswer → Type 0) → Answer → Type 0
OfSample P (answer.Sample a) = P a
OfSample P _ = ⊥

-- How each command line ends: a field for each command. Private contracts alone cite this; the clauses of `run` are its
-- fields.
pub record Does (line : Option Line) (told : List ℕ → Told) (before now : ℕ) (first second : List ℕ)
    (end : Result Answer LoadError) : Type 0 where
  pub of_none : line ≡ None → EndsNone before now first second (λ text other a. IsUsage a) end
  pub of_check : (file : List ℕ) (asked : Asked) → line ≡ Some (check file asked)
      → EndsOne (told file) model_limit before now first second
      (λ text other a. OfCheck (IsCheckAnswer Whole (ceilings_of asked) text) a) end
  pub of_lrat : (formula log : List ℕ) → line ≡ Some (lrat formula log)
      → EndsTwo (told formula) (told log) clause_limit clause_limit before now first second
      (λ text other a. OfLrat (IsRefutation text other) a) end
  pub of_emit : (file : List ℕ) (emission : Emission) → line ≡ Some (emit file emission)
      → EndsOne (told file) model_limit before now first second (λ text other a. OfEmit (IsEmitAnswer emission text) a)
      end
  pub of_houdini : (file : List ℕ) (asked : Asked) → line ≡ Some (houdini file asked)
      → EndsOne (told file) model_limit before now first second
      (λ text other a. OfHoudini (IsHoudiniAnswer Whole (ceilings_of asked) text) a) end
  pub of_bmc : (file : List ℕ) (bound : Bound) → line ≡ Some (bmc file bound)
      → EndsOne (told file) model_limit before now first second
      (λ text other a. OfBmc (IsBmcAnswer Whole bound text) a) end
  pub of_replay : (model report : List ℕ) → line ≡ Some (replay model report)
      → EndsTwo (told model) (told report) model_limit report_limit before now first second
      (λ text other a. OfReplay (IsReplayAnswer text other) a) end
  pub of_sample : (n : ℕ) → line ≡ Some (sample n)
      → EndsNone before now first second (λ text other a. OfSample (IsSampleAnswer n) a) end

-- the goal that is to be written
abbrev pub emitted_goal : Option Line → ℕ
emitted_goal (Some (emit file emission)) = emission.goal
emitted_goal _ = 0

-- the size of the sample
abbrev pub sample_size : Option Line → ℕ
sample_size (Some (sample n)) = n
sample_size _ = 0

-- what is due for an answer to this line, where these are the texts of its files
abbrev pub answer_due : Option Line → List ℕ → List ℕ → Answer → Due
answer_due line first second answer.Usage = usage_due
answer_due line first second (answer.Check a) = check_due first a
answer_due line first second (answer.Lrat a) = lrat_due first second a
answer_due line first second (answer.Emit a) = emit_due (emitted_goal line) first a
answer_due line first second (answer.Houdini a) = houdini_due first a
answer_due line first second (answer.Bmc a) = bmc_due first a
answer_due line first second (answer.Replay a) = replay_due first a
answer_due line first second (answer.Sample a) = sample_due (sample_size line) a

-- what is due, by the command line, the texts and the outcome
abbrev pub due_of : Option Line → List ℕ → List ℕ → Result Answer LoadError → Due
due_of line first second (Ok a) = answer_due line first second a
due_of line first second (Err why) = stop_due why

-- ---- the words of `run`

-- the command line that these words are, if they are one
abbrev pub asked : {A : Type 0} → List (String A) → Option Line
asked words = line_of (map (λ w. string_bytes w) words)

-- What a run did with the files: the count of their faults before it and behind it, the bytes that it was handed, and
-- its outcome.
pub record Course : Type 0 where
  pub faults : ℕ
  pub faults_then : ℕ
  pub ended : Ended

abbrev pub course : ℕ → ℕ → Ended → Course
course faults faults_then ended = record { faults = faults; faults_then = faults_then; ended = ended }

-- it loads no file, and P holds of the answer
abbrev pub EndsAlone : Course → (Answer → Type 0) → Type 0
EndsAlone c P =
    EndsNone c.faults c.faults_then c.ended.loaded.first c.ended.loaded.second (λ text other a. P a) c.ended.outcome

-- it loads one file of at most so many bytes, and P holds of its text and the answer
abbrev pub EndsOnFile : Course → Told → ℕ → (List ℕ → Answer → Type 0) → Type 0
EndsOnFile c told most P =
    EndsOne told most c.faults c.faults_then c.ended.loaded.first c.ended.loaded.second (λ text other a. P text a)
    c.ended.outcome

-- it loads two files of at most so many bytes each, and P holds of their texts and the answer
abbrev pub EndsOnFiles : Course → Told → ℕ → Told → ℕ → (List ℕ → List ℕ → Answer → Type 0) → Type 0
EndsOnFiles c told most other limit P =
    EndsTwo told other most limit c.faults c.faults_then c.ended.loaded.first c.ended.loaded.second P c.ended.outcome

-- what was due for this line was written to these sinks, with the status that the run ended with
abbrev pub WritesDue : Option Line → Ended → Passage → Passage → Type 0
WritesDue line end out err =
    IsWritten (due_of line end.loaded.first end.loaded.second end.outcome) end.written end.status out err
