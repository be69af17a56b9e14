-- The text of a log: a line for each addition and deletion.
use Rattle.std.specs.Prelude.{ℕ, List, [], ◌∷◌, ◌++◌, codes, decimal}
use Rattle.cnf_base.specs.Writing.{literals_text}
use Rattle.lrat_log.specs.declared.line.Line.{Line}
use Rattle.lrat_log.specs.declared.line.Line.TheVariants.{Add, Delete}

-- 32 is a blank
abbrev pub ids_text : List ℕ → List ℕ
ids_text [] = []
ids_text (n ∷ ns) = decimal n ++ 32 ∷ ids_text ns

-- an addition is its id, its literals, 0, its hints and 0; a deletion its id, `d`, the ids to delete and 0
abbrev pub line_text : Line → List ℕ
line_text (Add id ls hints) = decimal id ++ 32 ∷ literals_text ls ++ codes "0 " ++ ids_text hints ++ codes "0\n"
line_text (Delete id ids) = decimal id ++ codes " d " ++ ids_text ids ++ codes "0\n"

-- the lines, one after another
abbrev pub text_of : List Line → List ℕ
text_of [] = []
text_of (line ∷ lines) = line_text line ++ text_of lines
