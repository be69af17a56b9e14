-- Words are cut behind each 0, and the first fault of some words is that of the first word that has one. Formulas and
-- logs are both read so.
use Rattle.std.specs.Prelude.{ℕ, ◌==◌, Bool, false, not, List, [], ◌∷◌, Option, Some, None, Result, Err, if◌then◌else◌}
use Rattle.cnf_base.specs.declared.text.Numeral.{Numeral}
use Rattle.cnf_base.specs.Literals.{literal_of}
use Rattle.cnf_base.specs.Words.{Word}
use Rattle.cnf_base.specs.Numerals.{number_of}

-- whether a word that says this is a 0; one that is no number is not
abbrev pub says_zero : Option Numeral → Bool
says_zero None = false
says_zero (Some n) = n.value == 0

-- the number without its sign, or 0 where there is none
abbrev pub value_in : Option Numeral → ℕ
value_in None = 0
value_in (Some n) = n.value

-- the literal that the number writes: the variable, with a `-` where it is false
abbrev pub literal_in : Option Numeral → ℕ
literal_in None = 0
literal_in (Some n) = literal_of (not n.negative) n.value

-- whether the word is a 0
abbrev pub is_zero : Word → Bool
is_zero w = says_zero (number_of w.text)

-- the pieces that end with a 0, and the words behind the last 0
pub record Pieces : Type 0 where
  pub whole : List (List Word)
  pub rest : List Word

-- one more word in front of the first piece
abbrev pub put : Word → List (List Word) → List Word → Pieces
put w [] rest = record { whole = []; rest = w ∷ rest }
put w (piece ∷ pieces) rest = record { whole = (w ∷ piece) ∷ pieces; rest = rest }

-- one more word in front, which is a piece of its own where it is a 0
abbrev pub cut_behind : Bool → Word → Pieces → Pieces
cut_behind zero w p = if zero then record { whole = (w ∷ []) ∷ p.whole; rest = p.rest } else put w p.whole p.rest

-- the pieces into which words are cut
abbrev pub pieces_of : List Word → Pieces
pieces_of [] = record { whole = []; rest = [] }
pieces_of (w ∷ ws) = cut_behind (is_zero w) w (pieces_of ws)

-- what the words of a piece stand for, up to its 0
abbrev pub values_in : (Option Numeral → ℕ) → List Word → List ℕ
values_in value_of [] = []
values_in value_of (w ∷ ws) = if is_zero w then [] else value_of (number_of w.text) ∷ values_in value_of ws

-- the numbers of a piece without their signs, up to its 0
abbrev pub numbers_in : List Word → List ℕ
numbers_in ws = values_in value_in ws

-- the literals of a piece, up to its 0
abbrev pub literals_in : List Word → List ℕ
literals_in ws = values_in literal_in ws

-- the first of two faults
abbrev pub or_else : {F : Type 0} → Option F → Option F → Option F
or_else (Some fault) other = Some fault
or_else None other = other

-- the first fault that one of the words has
abbrev pub first_fault : {F : Type 0} → (Word → Option F) → List Word → Option F
first_fault fault_of [] = None
first_fault fault_of (w ∷ ws) = or_else (fault_of w) (first_fault fault_of ws)

-- the fault, or what is said where there is none
abbrev pub unless : {A F : Type 0} → Option F → Result A F → Result A F
unless (Some fault) said = Err fault
unless None said = said
