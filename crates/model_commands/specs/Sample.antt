-- `sample N`: a model of size N is made and checked.
use Rattle.std.specs.Prelude.{◌≡◌, ◌-◌, ◌^◌, ℕ, min, List, ◌++◌, length, codes, decimal}
use Rattle.rml_command.specs.Models.{ModelTree}
use Rattle.rml_command.specs.Goals.{goals_of}
use Rattle.rml_report.specs.ReportText.{verdict_text}
use Rattle.rml_sample.specs.Sample.{sample_text}
use Rattle.commands.specs.Due.{Due}
use Rattle.command_line.specs.Asking.{default_asked}
use Rattle.command_parts.specs.Limits.{ceilings_of}
use Rattle.model_commands.specs.Check.{IsCheckedModel, verdict_status}
use Rattle.command_parts.specs.ModelTexts.{IsTheModel, IsTheFault}
use Rattle.command_parts.specs.Saying.{on_out}
use Rattle.command_parts.specs.Faults.{model_fault_due}
use Rattle.model_commands.specs.declared.sample.Sampled.{Sampled}
use Rattle.model_commands.specs.declared.sample.SampleAnswer.{SampleAnswer}
use Rattle.lean_decide.specs.declared.settling.Counted.TheVariants.{Whole}
use Rattle.model_commands.specs.declared.sample.SampleAnswer.TheVariants as answer

-- The report on the text's model, under the limits of a `check` without options, with the number of bytes and of goals.
pub record IsSampled (n : ℕ) (sampled : Sampled) : Type 0 where
  pub model : ModelTree
  pub is_model : IsTheModel (sample_text n) model
  pub checked : IsCheckedModel Whole (ceilings_of default_asked) model sampled.report
  pub bytes : sampled.bytes ≡ length (sample_text n)
  pub goals : sampled.goals ≡ min (length (goals_of model)) (2 ^ 64 - 1)

-- the sample was checked; or its text has this fault
abbrev pub IsSampleAnswer : ℕ → SampleAnswer → Type 0
IsSampleAnswer n (answer.Sampled sampled) = IsSampled n sampled
IsSampleAnswer n (answer.Fault fault) = IsTheFault (sample_text n) fault

-- `WORD N`
unfoldable pub count_line : List ℕ → ℕ → List ℕ
count_line word n = word ++ decimal n ++ codes "\n"

-- the sample's size, its counts and the verdict, each on a line
unfoldable pub sampled_text : ℕ → Sampled → List ℕ
sampled_text n sampled = count_line (codes "sample ") n ++ count_line (codes "bytes ") sampled.bytes
    ++ count_line (codes "groups ") (length sampled.report.groups) ++ count_line (codes "goals ") sampled.goals
    ++ verdict_text sampled.report.verdict

-- these lines, with the status of the verdict; or the line of the fault
abbrev pub sample_due : ℕ → SampleAnswer → Due
sample_due n (answer.Sampled sampled) = on_out (sampled_text n sampled) (verdict_status sampled.report.verdict)
sample_due n (answer.Fault fault) = model_fault_due (sample_text n) fault
