-- What is shown of the answer of `check`.
use Rattle.std.specs.Prelude.{ℕ, List, Option, codes}
use Rattle.rml_command.specs.Models.{ModelTree}
use Rattle.rml_report.specs.declared.report.Report.{Report}
use Rattle.branches.specs.Sources.{TextAndTree}
use Rattle.told_fault.specs.declared.reading.Reading.{Reading}
use Rattle.told_report.specs.ToldText.{told_text}
use Rattle.dot_graph.specs.AnswerGraphs.{group_graphs}
use Rattle.json_outcome.specs.ReportData.{report_members}
use Rattle.commands.specs.Due.{Due}
use Rattle.command_parts.specs.Saying.{on_out}
use Rattle.model_commands.specs.Check.{verdict_status}
use Rattle.model_commands.specs.declared.check.CheckAnswer.{CheckAnswer}
use Rattle.model_commands.specs.declared.check.CheckAnswer.TheVariants.{Checked, Fault}
use Rattle.view_line.specs.declared.options.Form.{Form}
use Rattle.view_line.specs.declared.options.Form.TheVariants.{Told, Dot, Json}
use Rattle.view_run.specs.Views.{source_of, text_told, line_of, fault_view}
use Rattle.view_run.specs.WayData.{group_ways}

-- the outcome as a JSON value, in a line; with branches where the text has a tree
unfoldable pub checked_line : List ℕ → Option TextAndTree → ModelTree → Report → List ℕ
checked_line file source m r = line_of file (report_members m r (group_ways source r.groups))

-- a text, pictures, or a JSON value
abbrev pub checked_text : Form → List ℕ → List ℕ → Reading → ModelTree → Report → List ℕ
checked_text Told file text reading m r = told_text m (text_told text reading) r
checked_text Dot file text reading m r = group_graphs 1 m r.groups
checked_text Json file text reading m r = checked_line file (source_of text reading) m r

-- what is due on a sink, and the status: of an answer, or of the text's fault
abbrev pub check_view : Form → List ℕ → List ℕ → Reading → CheckAnswer → Due
check_view form file text reading (Checked m r) =
    on_out (checked_text form file text reading m r) (verdict_status r.verdict)
check_view form file text reading (Fault fault) = fault_view form (codes "check") file text fault reading
