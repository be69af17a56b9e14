-- What the text of a log says, or its first fault. Its words are cut behind each 0. An addition is two pieces, its id
-- with its literals and its hints; a deletion is one, its id, a `d` and the ids to delete.
use Rattle.std.specs.Prelude.{ℕ, ◌==◌, Bool, false, nat_lt, nat_le, List, [], ◌∷◌, length, codes, Option, Some, None}
use Rattle.std.specs.Prelude.{Result, Ok, Err, if◌then◌else◌}
use Rattle.std.specs.Str.{bytes_eq}
use Rattle.cnf_base.specs.declared.text.Numeral.{Numeral}
use Rattle.cnf_base.specs.Words.{Word, words_of}
use Rattle.cnf_base.specs.Numerals.{number_of}
use Rattle.cnf_base.specs.Pieces.{value_in, numbers_in, literals_in, pieces_of, or_else, first_fault, unless}
use Rattle.lrat_log.specs.declared.fault_code.LogFaultCode.{LogFaultCode}
use Rattle.lrat_log.specs.declared.fault_code.LogFaultCode.TheVariants.{BadNumber, RatHint, Unended, IdNotAbove}
use Rattle.lrat_log.specs.declared.fault_code.LogFaultCode.TheVariants.{VariableOutOfRange}
use Rattle.lrat_log.specs.declared.line.Line.{Line}
use Rattle.lrat_log.specs.declared.line.Line.TheVariants.{Add, Delete}
use Rattle.lrat_log.specs.declared.text.LogFault.{LogFault}

-- a fault, and the place in the text where it is
abbrev pub fault_at : LogFaultCode → ℕ → LogFault
fault_at code at = record { code = code; at = at }

-- the id of a line is a number from 1 on
abbrev pub id_fault : ℕ → Option Numeral → Option LogFault
id_fault at None = Some (fault_at BadNumber at)
id_fault at (Some n) =
    if n.negative then Some (fault_at BadNumber at)
    else if n.value == 0 then Some (fault_at BadNumber at)
    else None

-- a literal is a number, of one of so many variables
abbrev pub literal_fault : ℕ → ℕ → Option Numeral → Option LogFault
literal_fault variables at None = Some (fault_at BadNumber at)
literal_fault variables at (Some n) = if nat_lt variables n.value then Some (fault_at VariableOutOfRange at) else None

-- a hint is a number without a sign
abbrev pub hint_fault : ℕ → Option Numeral → Option LogFault
hint_fault at None = Some (fault_at BadNumber at)
hint_fault at (Some n) = if n.negative then Some (fault_at RatHint at) else None

-- and so is an id to delete
abbrev pub deleted_fault : ℕ → Option Numeral → Option LogFault
deleted_fault at None = Some (fault_at BadNumber at)
deleted_fault at (Some n) = if n.negative then Some (fault_at BadNumber at) else None

-- the first fault of an addition's literals, over so many variables
abbrev pub literals_fault : ℕ → List Word → Option LogFault
literals_fault variables ws = first_fault (λ w. literal_fault variables w.at (number_of w.text)) ws

-- the first fault of an addition's hints
abbrev pub hints_fault : List Word → Option LogFault
hints_fault ws = first_fault (λ w. hint_fault w.at (number_of w.text)) ws

-- the first fault of the ids that a deletion deletes
abbrev pub deleted_ids_fault : List Word → Option LogFault
deleted_ids_fault ws = first_fault (λ w. deleted_fault w.at (number_of w.text)) ws

-- behind the id of a deletion stands a `d`
abbrev pub is_deletion : List Word → Bool
is_deletion [] = false
is_deletion (d ∷ ws) = bytes_eq d.text (codes "d")

-- the ids to delete, without the `d`
abbrev pub behind_d : List Word → List Word
behind_d [] = []
behind_d (d ∷ ws) = ws

-- an addition's id is above the last
abbrev pub order_fault : ℕ → ℕ → ℕ → Option LogFault
order_fault last id at = if nat_le id last then Some (fault_at IdNotAbove at) else None

-- the id that the first word of a line says
abbrev pub id_of : Word → ℕ
id_of w = value_in (number_of w.text)

-- the first fault of a line whose id is this word, in the words behind it
abbrev pub line_fault : ℕ → ℕ → Word → List Word → Option LogFault
line_fault variables last id ws =
    or_else (id_fault id.at (number_of id.text))
    (if is_deletion ws then deleted_ids_fault (behind_d ws)
    else or_else (order_fault last (id_of id) id.at) (literals_fault variables ws))

-- one more line in front, unless there is a fault
abbrev pub with_line : Line → Result (List Line) LogFault → Result (List Line) LogFault
with_line line (Ok lines) = Ok (line ∷ lines)
with_line line (Err fault) = Err fault

-- behind the last 0 there is nothing
abbrev pub open_line : ℕ → ℕ → List Word → ℕ → Result (List Line) LogFault
open_line variables last [] end = Ok []
open_line variables last (id ∷ ws) end = unless (line_fault variables last id ws) (Err (fault_at Unended end))

-- the deletion with this id and these words behind it
abbrev pub deletion : Word → List Word → Line
deletion id ws = Delete (id_of id) (numbers_in (behind_d ws))

-- the addition with this id, these words behind it, and these hints
abbrev pub addition : Word → List Word → List Word → Line
addition id ws hints = Add (id_of id) (literals_in ws) (numbers_in hints)

-- What these pieces say, behind lines whose greatest id is the last: the first fault of each line in turn, or the
-- lines. No piece is empty, since its 0 stands in it.
abbrev pub read_lines : ℕ → ℕ → List (List Word) → List Word → ℕ → Result (List Line) LogFault
read_lines variables last [] rest end = open_line variables last rest end
read_lines variables last ([] ∷ pieces) rest end = read_lines variables last pieces rest end
read_lines variables last ((id ∷ ws) ∷ []) rest end =
    unless (line_fault variables last id ws)
    (if is_deletion ws then with_line (deletion id ws) (open_line variables last rest end)
    else unless (hints_fault rest) (Err (fault_at Unended end)))
read_lines variables last ((id ∷ ws) ∷ (hints ∷ pieces)) rest end =
    unless (line_fault variables last id ws)
    (if is_deletion ws then with_line (deletion id ws) (read_lines variables last (hints ∷ pieces) rest end)
    else unless (hints_fault hints)
    (with_line (addition id ws hints) (read_lines variables (id_of id) pieces rest end)))

-- the lines of a text, for a formula of so many variables and clauses
unfoldable pub read_of : ℕ → ℕ → List ℕ → Result (List Line) LogFault
read_of variables clauses text =
    read_lines variables clauses (pieces_of (words_of text)).whole (pieces_of (words_of text)).rest (length text)
