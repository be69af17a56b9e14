-- How a reader takes one word after another. A reader by this state says what the text says.
use Rattle.std.specs.Prelude.{ℕ, ◌==◌, not, nat_lt, nat_le, List, [], ◌∷◌, ◌++◌, length, codes, Option, Some, None}
use Rattle.std.specs.Prelude.{Result, Ok, Err, if◌then◌else◌}
use Rattle.std.specs.Str.{bytes_eq}
use Rattle.cnf_base.specs.declared.text.Numeral.{Numeral}
use Rattle.cnf_base.specs.Literals.{literal_of}
use Rattle.cnf_base.specs.Words.{Word, words_of}
use Rattle.cnf_base.specs.Numerals.{number_of}
use Rattle.lrat_log.specs.declared.fault_code.LogFaultCode.{LogFaultCode}
use Rattle.lrat_log.specs.declared.fault_code.LogFaultCode.TheVariants.{BadNumber, RatHint, Unended, IdNotAbove}
use Rattle.lrat_log.specs.declared.fault_code.LogFaultCode.TheVariants.{VariableOutOfRange}
use Rattle.lrat_log.specs.declared.line.Line.{Line}
use Rattle.lrat_log.specs.declared.line.Line.TheVariants.{Add, Delete}
use Rattle.lrat_log.specs.declared.text.Stage.{Stage}
use Rattle.lrat_log.specs.declared.text.Stage.TheVariants.{Id, Second, Literals, Hints, Deleted}
use Rattle.lrat_log.specs.declared.text.LogFault.{LogFault}

-- what was read so far: the whole lines with the greatest id, and of the next line its id with the id's place, its
-- literals, and its hints or the ids that it deletes
pub record State : Type 0 where
  pub stage : Stage
  pub variables : ℕ
  pub last : ℕ
  pub lines : List Line
  pub id : ℕ
  pub place : ℕ
  pub lits : List ℕ
  pub ids : List ℕ

-- before the first word, for a formula of so many variables and clauses
abbrev pub at_start : ℕ → ℕ → State
at_start variables clauses = record {
  stage = Id;
  variables = variables;
  last = clauses;
  lines = [];
  id = 0;
  place = 0;
  lits = [];
  ids = [];
}

-- refused, with this fault at this place
abbrev pub fault : {A : Type 0} → LogFaultCode → ℕ → Result A LogFault
fault code at = Err (record { code = code; at = at })

-- the id of a line
abbrev pub take_id : State → Option Numeral → ℕ → Result State LogFault
take_id s None at = fault BadNumber at
take_id s (Some n) at =
    if n.negative then fault BadNumber at
    else if n.value == 0 then fault BadNumber at
    else Ok (record s { stage = Second; id = n.value; place = at })

-- a literal of an addition, or the 0 behind the literals
abbrev pub take_literal : State → Option Numeral → ℕ → Result State LogFault
take_literal s None at = fault BadNumber at
take_literal s (Some n) at =
    if nat_lt s.variables n.value then fault VariableOutOfRange at
    else if n.value == 0 then Ok (record s { stage = Hints })
    else Ok (record s { stage = Literals; lits = s.lits ++ literal_of (not n.negative) n.value ∷ [] })

-- the second word tells a deletion from an addition, whose id has to be above the last
abbrev pub take_second : State → Word → Result State LogFault
take_second s w =
    if bytes_eq w.text (codes "d") then Ok (record s { stage = Deleted })
    else if nat_le s.id s.last then fault IdNotAbove s.place
    else take_literal s (number_of w.text) w.at

-- the addition is whole, and stands behind the other lines
abbrev pub with_addition : State → State
with_addition s = record s {
  stage = Id;
  last = s.id;
  lines = s.lines ++ Add s.id s.lits s.ids ∷ [];
  lits = [];
  ids = [];
}

-- the deletion is whole, and stands behind the other lines
abbrev pub with_deletion : State → State
with_deletion s = record s { stage = Id; lines = s.lines ++ Delete s.id s.ids ∷ []; ids = [] }

-- a hint, or the 0 behind the hints
abbrev pub take_hint : State → Option Numeral → ℕ → Result State LogFault
take_hint s None at = fault BadNumber at
take_hint s (Some n) at =
    if n.negative then fault RatHint at
    else if n.value == 0 then Ok (with_addition s)
    else Ok (record s { ids = s.ids ++ n.value ∷ [] })

-- an id to delete, or the 0 behind them
abbrev pub take_deleted : State → Option Numeral → ℕ → Result State LogFault
take_deleted s None at = fault BadNumber at
take_deleted s (Some n) at =
    if n.negative then fault BadNumber at
    else if n.value == 0 then Ok (with_deletion s)
    else Ok (record s { ids = s.ids ++ n.value ∷ [] })

-- one more word, by what has to come
abbrev pub take_at : Stage → State → Word → Result State LogFault
take_at Id s w = take_id s (number_of w.text) w.at
take_at Second s w = take_second s w
take_at Literals s w = take_literal s (number_of w.text) w.at
take_at Hints s w = take_hint s (number_of w.text) w.at
take_at Deleted s w = take_deleted s (number_of w.text) w.at

-- the reader behind one more word, or why the word is refused
abbrev pub take_word : State → Word → Result State LogFault
take_word s w = take_at s.stage s w

-- at the end of the text; a line that ends behind its id is an addition
abbrev pub ended_at : Stage → State → ℕ → Result (List Line) LogFault
ended_at Id s end = Ok s.lines
ended_at Second s end = if nat_le s.id s.last then fault IdNotAbove s.place else fault Unended end
ended_at Literals s end = fault Unended end
ended_at Hints s end = fault Unended end
ended_at Deleted s end = fault Unended end

-- what a text says that ends here
abbrev pub ended : State → ℕ → Result (List Line) LogFault
ended s end = ended_at s.stage s end

-- the reader goes on, unless there is a fault
abbrev pub and_then : Result State LogFault → (State → Result (List Line) LogFault) → Result (List Line) LogFault
and_then (Ok s) go = go s
and_then (Err f) go = Err f

-- each word in turn; the first that is refused is the fault
abbrev pub read_words : State → List Word → ℕ → Result (List Line) LogFault
read_words s [] end = ended s end
read_words s (w ∷ ws) end = and_then (take_word s w) (λ s. read_words s ws end)

-- the lines of a text, read word by word, for a formula of so many variables and clauses
abbrev pub read_by_words : ℕ → ℕ → List ℕ → Result (List Line) LogFault
read_by_words variables clauses text = read_words (at_start variables clauses) (words_of text) (length text)
