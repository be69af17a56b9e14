-- What is shown of the answer of `houdini`.
use Rattle.std.specs.Prelude.{ℕ, List, Option, codes}
use Rattle.rml_command.specs.Models.{ModelTree}
use Rattle.rml_houdini.specs.declared.houdini.Houdini.{Houdini}
use Rattle.branches.specs.Sources.{TextAndTree}
use Rattle.told_fault.specs.declared.reading.Reading.{Reading}
use Rattle.told_answers.specs.SubsetText.{subset_text}
use Rattle.dot_graph.specs.AnswerGraphs.{drop_graphs}
use Rattle.json_outcome.specs.HoudiniData.{houdini_members}
use Rattle.commands.specs.Due.{Due}
use Rattle.command_parts.specs.Saying.{on_out}
use Rattle.model_commands.specs.Houdini.{houdini_status}
use Rattle.model_commands.specs.declared.houdini.HoudiniAnswer.{HoudiniAnswer}
use Rattle.model_commands.specs.declared.houdini.HoudiniAnswer.TheVariants.{Found, Fault}
use Rattle.view_line.specs.declared.options.Form.{Form}
use Rattle.view_line.specs.declared.options.Form.TheVariants.{Told, Dot, Json}
use Rattle.view_run.specs.Views.{source_of, text_told, line_of, fault_view}
use Rattle.view_run.specs.WayData.{drop_ways}

-- the outcome as a JSON value, in a line; with branches where the text has a tree
unfoldable pub found_line : List ℕ → Option TextAndTree → ModelTree → Houdini → List ℕ
found_line file source m h = line_of file (houdini_members m h (drop_ways source h.dropped))

-- a text, pictures, or a JSON value
abbrev pub found_text : Form → List ℕ → List ℕ → Reading → ModelTree → Houdini → List ℕ
found_text Told file text reading m h = subset_text m (text_told text reading) h
found_text Dot file text reading m h = drop_graphs 1 m h.dropped
found_text Json file text reading m h = found_line file (source_of text reading) m h

-- what is due on a sink, and the status: of an answer, or of the text's fault
abbrev pub houdini_view : Form → List ℕ → List ℕ → Reading → HoudiniAnswer → Due
houdini_view form file text reading (Found m h) =
    on_out (found_text form file text reading m h) (houdini_status h.dropped h.unsettled)
houdini_view form file text reading (Fault fault) = fault_view form (codes "houdini") file text fault reading
