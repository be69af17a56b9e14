-- Marks, told line by line.
use Rattle.std.specs.Prelude.{ℕ, List, [], ◌∷◌, ◌++◌, codes}
use Rattle.std.specs.Fmt.{decimal}
use Rattle.rml_lex.specs.Place.{line_of, column_of}
use Rattle.rml_syntax.specs.Tree.{ItemTree}
use Rattle.rml_command.specs.declared.goal.Stage.{Stage}
use Rattle.branches.specs.declared.mark.Branch.{Branch}
use Rattle.branches.specs.declared.mark.Mark.{Mark}
use Rattle.branches.specs.declared.mark.Turn.{Turn}
use Rattle.branches.specs.declared.mark.Turn.TheVariants as turns
use Rattle.branches.specs.Stages.{marks_of}

-- at 14:5
unfoldable pub place_text : List ℕ → ℕ → List ℕ
place_text text at = codes "  at " ++ decimal (line_of text at) ++ codes ":" ++ decimal (column_of text at)

-- `choose` takes branch 2
unfoldable pub number_text : ℕ → List ℕ
number_text n = codes " `choose` takes branch " ++ decimal n

-- of 3
unfoldable pub count_text : ℕ → List ℕ
count_text n = codes " of " ++ decimal n ++ codes "\n"

-- the way of a `choose`, to the end of its line
abbrev pub branch_text : Branch → List ℕ
branch_text b = number_text b.number ++ count_text b.count

-- which way a path goes at a mark, to the end of the line
unfoldable pub turn_text : Turn → List ℕ
turn_text turns.AssertFails = codes " the `assert` fails\n"
turn_text turns.AssertPasses = codes " the `assert` is passed\n"
turn_text turns.IfHolds = codes " the condition of `if` is true\n"
turn_text turns.IfFails = codes " the condition of `if` is false\n"
turn_text (turns.Takes b) = branch_text b

-- a line: the line and the column of a mark in the text, and its way
abbrev pub mark_text : List ℕ → Mark → List ℕ
mark_text text k = place_text text k.at ++ turn_text k.turn

-- a line for each mark
abbrev pub marks_text : List ℕ → List Mark → List ℕ
marks_text text [] = []
marks_text text (k ∷ marks) = mark_text text k ++ marks_text text marks

-- the lines of a path of a stage's block, by its number from 1
abbrev pub branch_lines : List ℕ → List ItemTree → Stage → ℕ → List ℕ
branch_lines text items s path = marks_text text (marks_of text items s path)
