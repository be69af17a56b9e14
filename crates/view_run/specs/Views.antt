-- What all questions share: an answer with the text as far as it can be read, the branches of a path, what derived
-- relations are in a structure, and faults.
use Rattle.std.specs.Prelude.{ℕ, List, [], Option, Some, None, codes}
use Rattle.serde_json.specs.Data.{Members, object, string}
use Rattle.rml_lex.specs.declared.token.Fault.{Fault}
use Rattle.rml_syntax.specs.Tree.{file_tree}
use Rattle.rml_command.specs.declared.goal.Stage.{Stage}
use Rattle.branches.specs.Sources.{TextAndTree}
use Rattle.branches.specs.MarkText.{branch_lines}
use Rattle.json_values.specs.Values.{with_member, line_text}
use Rattle.json_outcome.specs.FaultData.{faulty_members}
use Rattle.commands.specs.Due.{Due}
use Rattle.command_parts.specs.Saying.{on_out, on_err}
use Rattle.told_fault.specs.declared.reading.Reading.{Reading}
use Rattle.told_fault.specs.declared.reading.Reading.TheVariants.{NoTokens, Unexpected, TooDeep, Parsed}
use Rattle.told_fault.specs.Readings.{IsReading, fault_text}
use Rattle.told_report.specs.InText.{TextTold}
use Rattle.told_derived.specs.Definitions.{Definitions, definitions_of, no_definitions}
use Rattle.told_derived.specs.DerivedText.{facts_text, changes_text}
use Rattle.view_line.specs.declared.options.Form.{Form}
use Rattle.view_line.specs.declared.options.Form.TheVariants.{Told, Dot, Json}
use Rattle.view_run.specs.declared.viewed.ModelAnswer.{ModelAnswer}
use Rattle.view_run.specs.declared.viewed.Viewed.{Viewed}

-- the answer is so, and the text is read as far as it can be
abbrev pub IsViewed : (ModelAnswer → Type 0) → List ℕ → Viewed → Type 0
IsViewed P text v = P v.answer × IsReading text v.reading

-- the source of a text that has a tree
abbrev pub source_of : List ℕ → Reading → Option TextAndTree
source_of text (NoTokens hint) = None
source_of text (Unexpected kinds hint) = None
source_of text TooDeep = None
source_of text (Parsed tree) = Some (record { text = text; tree = tree })

-- the lines of the branches that a path takes
abbrev pub ways_at : Option TextAndTree → Stage → ℕ → List ℕ
ways_at None s path = []
ways_at (Some source) s path = branch_lines source.text (file_tree source.tree).items s path

-- the derived relations of a text that has a tree
abbrev pub definitions_in : List ℕ → Reading → Definitions
definitions_in text (NoTokens hint) = no_definitions
definitions_in text (Unexpected kinds hint) = no_definitions
definitions_in text TooDeep = no_definitions
definitions_in text (Parsed tree) = definitions_of text (file_tree tree)

-- what is told by the text beside its model
abbrev pub told_by : Option TextAndTree → Definitions → TextTold
told_by source d = record { lines = ways_at source; facts = facts_text d; changes = changes_text d }

-- what a text tells beside its model, as far as it can be read
abbrev pub text_told : List ℕ → Reading → TextTold
text_told text reading = told_by (source_of text reading) (definitions_in text reading)

-- the line of a JSON value with the name of the file
unfoldable pub line_of : List ℕ → Members → List ℕ
line_of file members = line_text (object (with_member members (codes "file") (string file)))

-- a fault is told on the sink of complaints, or is a JSON value
abbrev pub fault_view : Form → List ℕ → List ℕ → List ℕ → Fault → Reading → Due
fault_view Told command file text fault reading = on_err (fault_text file text fault reading) 4
fault_view Dot command file text fault reading = on_err (fault_text file text fault reading) 4
fault_view Json command file text fault reading = on_out (line_of file (faulty_members command text fault)) 4
