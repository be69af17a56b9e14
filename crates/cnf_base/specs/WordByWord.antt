-- How a reader takes one word after another. A reader by this state says what the text says.
use Rattle.std.specs.Prelude.{ℕ, ◌==◌, not, nat_lt, List, [], ◌∷◌, ◌++◌, length, codes, Option, Some, None, Result}
use Rattle.std.specs.Prelude.{Ok, Err, if◌then◌else◌}
use Rattle.std.specs.Str.{bytes_eq}
use Rattle.cnf_base.specs.declared.fault_code.CnfFaultCode.{CnfFaultCode}
use Rattle.cnf_base.specs.declared.fault_code.CnfFaultCode.TheVariants.{BadHeader, BadNumber, VariableOutOfRange}
use Rattle.cnf_base.specs.declared.fault_code.CnfFaultCode.TheVariants.{WrongClauseCount, Unended}
use Rattle.cnf_base.specs.declared.cnf.Entry.{Entry}
use Rattle.cnf_base.specs.declared.text.Numeral.{Numeral}
use Rattle.cnf_base.specs.declared.text.Stage.{Stage}
use Rattle.cnf_base.specs.declared.text.Stage.TheVariants.{Problem, Format, Variables, Clauses, Body}
use Rattle.cnf_base.specs.declared.text.CnfFault.{CnfFault}
use Rattle.cnf_base.specs.Literals.{literal_of}
use Rattle.cnf_base.specs.Clauses.{entry_of}
use Rattle.cnf_base.specs.Formulas.{Formula}
use Rattle.cnf_base.specs.Words.{Word, words_of}
use Rattle.cnf_base.specs.Numerals.{number_of}

-- what was read so far: the header as far as the stage says, the clauses, and the literals of the next
pub record State : Type 0 where
  pub stage : Stage
  pub variables : ℕ
  pub count : ℕ
  pub entries : List Entry
  pub lits : List ℕ

-- before the first word
abbrev pub at_start : State
at_start = record { stage = Problem; variables = 0; count = 0; entries = []; lits = [] }

-- refused, with this fault at this place
abbrev pub fault : {A : Type 0} → CnfFaultCode → ℕ → Result A CnfFault
fault code at = Err (record { code = code; at = at })

-- a number of the header, which has no sign, and how the reader goes on with it
abbrev pub header_number : Option Numeral → (ℕ → State) → ℕ → Result State CnfFault
header_number None go at = fault BadHeader at
header_number (Some n) go at = if n.negative then fault BadHeader at else Ok (go n.value)

-- a literal, or the 0 that ends a clause
abbrev pub body_number : State → Option Numeral → ℕ → Result State CnfFault
body_number s None at = fault BadNumber at
body_number s (Some n) at =
    if nat_lt s.variables n.value then fault VariableOutOfRange at
    else if length s.entries == s.count then fault WrongClauseCount at
    else if n.value == 0 then Ok (record s { entries = s.entries ++ entry_of [] s.lits ∷ []; lits = [] })
    else Ok (record s { lits = s.lits ++ literal_of (not n.negative) n.value ∷ [] })

-- the header is `p cnf`, the number of variables and that of clauses
abbrev pub take_at : Stage → State → Word → Result State CnfFault
take_at Problem s w = if bytes_eq w.text (codes "p") then Ok (record s { stage = Format }) else fault BadHeader w.at
take_at Format s w = if bytes_eq w.text (codes "cnf") then Ok (record s { stage = Variables }) else fault BadHeader w.at
take_at Variables s w = header_number (number_of w.text) (λ n. record s { stage = Clauses; variables = n }) w.at
take_at Clauses s w = header_number (number_of w.text) (λ n. record s { stage = Body; count = n }) w.at
take_at Body s w = body_number s (number_of w.text) w.at

-- the reader behind one more word, or why the word is refused
abbrev pub take_word : State → Word → Result State CnfFault
take_word s w = take_at s.stage s w

-- at the end of the text
abbrev pub ended_body : State → List ℕ → ℕ → Result Formula CnfFault
ended_body s (l ∷ ls) end = fault Unended end
ended_body s [] end =
    if length s.entries == s.count then Ok (record { variables = s.variables; clauses = s.entries })
    else fault WrongClauseCount end

-- a text that ends in its header has a bad header
abbrev pub ended_at : Stage → State → ℕ → Result Formula CnfFault
ended_at Body s end = ended_body s s.lits end
ended_at Problem s end = fault BadHeader end
ended_at Format s end = fault BadHeader end
ended_at Variables s end = fault BadHeader end
ended_at Clauses s end = fault BadHeader end

-- what a text says that ends here
abbrev pub ended : State → ℕ → Result Formula CnfFault
ended s end = ended_at s.stage s end

-- the reader goes on, unless there is a fault
abbrev pub and_then : Result State CnfFault → (State → Result Formula CnfFault) → Result Formula CnfFault
and_then (Ok s) go = go s
and_then (Err f) go = Err f

-- each word in turn; the first that is refused is the fault
abbrev pub read_words : State → List Word → ℕ → Result Formula CnfFault
read_words s [] end = ended s end
read_words s (w ∷ ws) end = and_then (take_word s w) (λ s. read_words s ws end)

-- what a text says, read word by word
abbrev pub read_by_words : List ℕ → Result Formula CnfFault
read_by_words text = read_words at_start (words_of text) (length text)
