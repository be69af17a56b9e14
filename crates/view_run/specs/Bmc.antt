-- What is shown of the answer of `bmc`.
use Rattle.std.specs.Prelude.{ℕ, List, [], codes}
use Rattle.std.specs.List.{flat_map}
use Rattle.rml_command.specs.Models.{ModelTree}
use Rattle.rml_bmc.specs.Lengths.{verdict_of}
use Rattle.rml_bmc.specs.declared.answer.Length.{Length}
use Rattle.rml_bmc.specs.declared.answer.Length.TheVariants as answers
use Rattle.rml_bmc.specs.declared.answer.Bounded.{Bounded}
use Rattle.told_fault.specs.declared.reading.Reading.{Reading}
use Rattle.told_answers.specs.RunsText.{runs_text}
use Rattle.dot_graph.specs.AnswerGraphs.{run_graphs}
use Rattle.json_outcome.specs.BoundedData.{bounded_members}
use Rattle.commands.specs.Due.{Due}
use Rattle.command_parts.specs.Saying.{on_out}
use Rattle.model_commands.specs.Bmc.{bounded_status}
use Rattle.model_commands.specs.declared.bmc.BmcAnswer.{BmcAnswer}
use Rattle.model_commands.specs.declared.bmc.BmcAnswer.TheVariants.{Answered, Fault}
use Rattle.view_line.specs.declared.options.Form.{Form}
use Rattle.view_line.specs.declared.options.Form.TheVariants.{Told, Dot, Json}
use Rattle.view_run.specs.Views.{text_told, line_of, fault_view}

-- the states of a run that goes wrong
abbrev pub length_graphs : ModelTree → Length → List ℕ
length_graphs m answers.Safe = []
length_graphs m (answers.Undecided c) = []
length_graphs m (answers.Broken run) = run_graphs m run

-- the outcome as a JSON value, in a line
unfoldable pub bounded_line : List ℕ → ModelTree → Bounded → List ℕ
bounded_line file m b = line_of file (bounded_members m b)

-- a text, pictures, or a JSON value
abbrev pub bounded_view : Form → List ℕ → List ℕ → Reading → ModelTree → Bounded → List ℕ
bounded_view Told file text reading m b = runs_text m (text_told text reading) b
bounded_view Dot file text reading m b = flat_map (length_graphs m) b.lengths
bounded_view Json file text reading m b = bounded_line file m b

-- what is due on a sink, and the status: of an answer, or of the text's fault
abbrev pub bmc_view : Form → List ℕ → List ℕ → Reading → BmcAnswer → Due
bmc_view form file text reading (Answered m b) =
    on_out (bounded_view form file text reading m b) (bounded_status (verdict_of b.lengths))
bmc_view form file text reading (Fault fault) = fault_view form (codes "bmc") file text fault reading
