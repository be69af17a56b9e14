-- The branches that paths take, as JSON.
use Rattle.std.specs.Prelude.{ℕ, true, false, List, [], ◌∷◌, map, Option, Some, None, codes}
use Rattle.serde_json.specs.Data.{Data, null, boolean, string}
use Rattle.rml_lex.specs.Place.{line_of, column_of}
use Rattle.rml_command.specs.declared.goal.Stage.{Stage}
use Rattle.rml_report.specs.declared.report.Answer.{Answer}
use Rattle.rml_report.specs.declared.report.Answer.TheVariants as answer
use Rattle.rml_report.specs.declared.report.Group.{Group}
use Rattle.rml_houdini.specs.declared.houdini.Dropped.{Dropped}
use Rattle.rml_syntax.specs.Tree.{file_tree}
use Rattle.branches.specs.Sources.{TextAndTree}
use Rattle.branches.specs.Stages.{marks_of}
use Rattle.branches.specs.declared.mark.Mark.{Mark}
use Rattle.branches.specs.declared.mark.Turn.{Turn}
use Rattle.branches.specs.declared.mark.Turn.TheVariants as turns
use Rattle.json_values.specs.Values.{number_data, list_data, object_of}

-- the word that stands there, and whether its condition is true, or which branch is taken of how many
abbrev pub turn_members : Turn → List (List ℕ × Data)
turn_members turns.AssertFails = (codes "at", string (codes "assert")) ∷ (codes "holds", boolean false) ∷ []
turn_members turns.AssertPasses = (codes "at", string (codes "assert")) ∷ (codes "passed", boolean true) ∷ []
turn_members turns.IfHolds = (codes "at", string (codes "if")) ∷ (codes "holds", boolean true) ∷ []
turn_members turns.IfFails = (codes "at", string (codes "if")) ∷ (codes "holds", boolean false) ∷ []
turn_members (turns.Takes b) =
    (codes "at", string (codes "choose")) ∷ (codes "branch", number_data b.number)
    ∷ (codes "of", number_data b.count) ∷ []

-- {"line":14,"column":5,"at":"choose","branch":2,"of":3}
unfoldable pub mark_data : List ℕ → Mark → Data
mark_data text k =
    object_of ((codes "line", number_data (line_of text k.at)) ∷ (codes "column", number_data (column_of text k.at))
    ∷ turn_members k.turn)

-- those of a path of a stage's block; none where no source is known
abbrev pub ways_data : Option TextAndTree → Stage → ℕ → Data
ways_data None s path = list_data []
ways_data (Some source) s path = list_data
    (map (mark_data source.text) (marks_of source.text (file_tree source.tree).items s path))

-- of a group that fails
abbrev pub answer_ways : Option TextAndTree → Stage → Answer → Data
answer_ways source s answer.Holds = null
answer_ways source s (answer.Fails paths least shown) = ways_data source s shown.trace.path
answer_ways source s (answer.Undecided path cause) = null

-- the branches of each group that fails, null for each other one
abbrev pub group_ways : Option TextAndTree → List Group → List Data
group_ways source groups = map (λ g. answer_ways source g.stage g.answer) groups

-- of the execution that drops a conjecture
abbrev pub drop_ways : Option TextAndTree → List Dropped → List Data
drop_ways source drops = map (λ d. ways_data source d.shown.goal.stage d.shown.trace.path) drops
