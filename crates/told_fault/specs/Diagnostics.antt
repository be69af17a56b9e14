-- A fault of a model's text, as compilers print one: the file, the line and the column, what is wrong, and below it the
-- line with a caret.
use Rattle.std.specs.Prelude.{ℕ, ◌-◌, ◌==◌, ◌||◌, nat_lt, if◌then◌else◌, List, [], ◌∷◌, ◌++◌, length, map, take, drop}
use Rattle.std.specs.Prelude.{replicate, codes}
use Rattle.std.specs.Fmt.{decimal}
use Rattle.std.specs.List.{after_last}
use Rattle.rml_lex.specs.Place.{line_of, column_of}
use Rattle.rml_lex.specs.FaultCodes.{number_of, text_of}
use Rattle.rml_lex.specs.declared.token.Fault.{Fault}

-- the bytes of a line in front of a place, and those from the place on
abbrev pub line_before : List ℕ → ℕ → List ℕ
line_before text at = after_last (λ b. b == 10) (take at text)

-- the bytes in front of the first line feed, or all where there is none
abbrev pub up_to_end : List ℕ → List ℕ
up_to_end [] = []
up_to_end (b ∷ bs) = if b == 10 then [] else b ∷ up_to_end bs

-- from a place to the end of its line; none where the place is at a line feed or behind the text
abbrev pub line_from : List ℕ → ℕ → List ℕ
line_from text at = up_to_end (drop at text)

-- A byte as it is shown: a blank for a control character, a question mark beyond ASCII. So each byte takes one column,
-- and the caret stands under its own.
abbrev pub shown : ℕ → ℕ
shown b = if nat_lt b 32 || b == 127 then 32 else (if nat_lt 127 b then 63 else b)

abbrev pub blanks : ℕ → List ℕ
blanks n = replicate n 32

-- `FILE:LINE:COLUMN: `
unfoldable pub place_text : List ℕ → ℕ → ℕ → List ℕ
place_text file line column = file ++ codes ":" ++ decimal line ++ codes ":" ++ decimal column ++ codes ": "

-- `FILE:LINE:COLUMN: F9 wrong sort`
unfoldable pub head_line : List ℕ → List ℕ → Fault → List ℕ
head_line file text fault =
    place_text file (line_of text fault.at) (column_of text fault.at) ++ codes "F" ++ decimal (number_of fault.code)
    ++ codes " " ++ text_of fault.code ++ codes "\n"

-- the line behind its number
unfoldable pub source_line : List ℕ → ℕ → List ℕ
source_line text at =
    decimal (line_of text at) ++ codes " | " ++ map shown (line_before text at) ++ map shown (line_from text at)
    ++ codes "\n"

-- a caret under the place, as far to the right
unfoldable pub caret_line : List ℕ → ℕ → List ℕ
caret_line text at =
    blanks (length (decimal (line_of text at))) ++ codes " | " ++ blanks (column_of text at - 1) ++ codes "^\n"

-- by the file's name and the model's text
unfoldable pub diagnostic_text : List ℕ → List ℕ → Fault → List ℕ
diagnostic_text file text fault =
    head_line file text fault ++ source_line text fault.at ++ caret_line text fault.at
