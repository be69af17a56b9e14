-- What a text in the format DIMACS CNF says, or its first fault. Its words are a header, which is `p`, `cnf`, the
-- number of variables and that of clauses, and numbers; each piece of these up to a 0 is a clause.
use Rattle.std.specs.Prelude.{ℕ, ◌+◌, ◌==◌, Bool, false, not, nat_lt, List, [], ◌∷◌, length, codes, Option, Some}
use Rattle.std.specs.Prelude.{None, Result, Ok, Err, if◌then◌else◌}
use Rattle.std.specs.Str.{bytes_eq}
use Rattle.cnf_base.specs.declared.fault_code.CnfFaultCode.{CnfFaultCode}
use Rattle.cnf_base.specs.declared.fault_code.CnfFaultCode.TheVariants.{BadHeader, BadNumber, VariableOutOfRange}
use Rattle.cnf_base.specs.declared.fault_code.CnfFaultCode.TheVariants.{WrongClauseCount, Unended}
use Rattle.cnf_base.specs.declared.cnf.Entry.{Entry}
use Rattle.cnf_base.specs.declared.text.Numeral.{Numeral}
use Rattle.cnf_base.specs.declared.text.CnfFault.{CnfFault}
use Rattle.cnf_base.specs.Clauses.{entry_of}
use Rattle.cnf_base.specs.Formulas.{Formula}
use Rattle.cnf_base.specs.Words.{Word, words_of}
use Rattle.cnf_base.specs.Numerals.{number_of}
use Rattle.cnf_base.specs.Pieces.{value_in, literals_in, pieces_of, first_fault, unless}

-- a fault, and the place in the text where it is
abbrev pub fault_at : CnfFaultCode → ℕ → CnfFault
fault_at code at = record { code = code; at = at }

-- a number without a sign
abbrev pub is_count : Option Numeral → Bool
is_count None = false
is_count (Some n) = not n.negative

-- the number that a word of the header says
abbrev pub count_in : Word → ℕ
count_in w = value_in (number_of w.text)

-- the tests of the four words of a header
abbrev pub header_words : List (List ℕ → Bool)
header_words =
    (λ w. bytes_eq w (codes "p")) ∷ (λ w. bytes_eq w (codes "cnf"))
    ∷ (λ w. is_count (number_of w)) ∷ (λ w. is_count (number_of w)) ∷ []

-- the first word that is not the one wanted, or the end of the text where it is missing
abbrev pub header_fault : List (List ℕ → Bool) → List Word → ℕ → Option CnfFault
header_fault [] ws end = None
header_fault (is_wanted ∷ wanted) [] end = Some (fault_at BadHeader end)
header_fault (is_wanted ∷ wanted) (w ∷ ws) end =
    if is_wanted w.text then header_fault wanted ws end else Some (fault_at BadHeader w.at)

-- how many variables and clauses the header says
pub record Header : Type 0 where
  pub variables : ℕ
  pub clauses : ℕ

-- what is wrong with a number of a clause, behind so many clauses
abbrev pub fault_of_number : Header → ℕ → ℕ → Option Numeral → Option CnfFault
fault_of_number h done at None = Some (fault_at BadNumber at)
fault_of_number h done at (Some n) =
    if nat_lt h.variables n.value then Some (fault_at VariableOutOfRange at)
    else if done == h.clauses then Some (fault_at WrongClauseCount at)
    else None

-- what is wrong with a word of a clause, behind so many clauses
abbrev pub fault_of : Header → ℕ → Word → Option CnfFault
fault_of h done w = fault_of_number h done w.at (number_of w.text)

-- behind the last 0 there is nothing, and all clauses have come
abbrev pub ended : Header → ℕ → List Word → ℕ → Result (List Entry) CnfFault
ended h done (w ∷ ws) end = Err (fault_at Unended end)
ended h done [] end = if done == h.clauses then Ok [] else Err (fault_at WrongClauseCount end)

-- one more clause in front, unless there is a fault
abbrev pub with_clause : Entry → Result (List Entry) CnfFault → Result (List Entry) CnfFault
with_clause e (Ok es) = Ok (e ∷ es)
with_clause e (Err fault) = Err fault

-- each piece in turn, behind so many clauses: its first fault, or its clause
abbrev pub read_clauses : Header → ℕ → List (List Word) → List Word → ℕ → Result (List Entry) CnfFault
read_clauses h done [] rest end = unless (first_fault (fault_of h done) rest) (ended h done rest end)
read_clauses h done (piece ∷ pieces) rest end =
    unless (first_fault (fault_of h done) piece)
    (with_clause (entry_of [] (literals_in piece)) (read_clauses h (done + 1) pieces rest end))

-- the formula of these clauses, unless there is a fault
abbrev pub formula_of : ℕ → Result (List Entry) CnfFault → Result Formula CnfFault
formula_of variables (Ok es) = Ok (record { variables = variables; clauses = es })
formula_of variables (Err fault) = Err fault

-- what the words behind a header say
abbrev pub read_body : Header → List Word → ℕ → Result Formula CnfFault
read_body h ws end = formula_of h.variables (read_clauses h 0 (pieces_of ws).whole (pieces_of ws).rest end)

-- what the words say whose header is in order
abbrev pub behind_header : List Word → ℕ → Result Formula CnfFault
behind_header (p ∷ (cnf ∷ (variables ∷ (clauses ∷ body)))) end =
    read_body (record { variables = count_in variables; clauses = count_in clauses }) body end
behind_header _ end = Err (fault_at BadHeader end)

-- what the words of a text say whose end is at this place
abbrev pub read_text : List Word → ℕ → Result Formula CnfFault
read_text ws end = unless (header_fault header_words ws end) (behind_header ws end)

-- the formula that a text says, or its first fault
unfoldable pub read_of : List ℕ → Result Formula CnfFault
read_of text = read_text (words_of text) (length text)
