-- The tokens of a text, and its first fault.
use Rattle.std.specs.Prelude.{
  ◌≡◌,
  ℕ,
  ◌+◌,
  ◌-◌,
  false,
  ◌||◌,
  nat_lt,
  ◌<◌,
  ◌≤◌,
  List,
  [],
  ◌∷◌,
  Option,
  Some,
  None,
  length,
  take,
  drop,
  if◌then◌else◌,
}
use Rattle.std.specs.List.{prefix_len}
use Rattle.rml_lex.specs.declared.token.Token.{Token}
use Rattle.rml_lex.specs.declared.token.Kind.{Kind}
use Rattle.rml_lex.specs.declared.token.Kind.TheVariants as kind
use Rattle.rml_lex.specs.declared.token.Word.{Word}
use Rattle.rml_lex.specs.declared.token.Sign.{Sign}
use Rattle.rml_lex.specs.declared.token.Fault.{Fault}
use Rattle.rml_lex.specs.declared.fault_code.FaultCode.TheVariants as fault_code
use Rattle.rml_lex.specs.declared.token.Front.{Front}
use Rattle.rml_lex.specs.declared.token.Front.TheVariants as front
use Rattle.rml_lex.specs.Bytes.{is_letter, goes_on, gap_len}
use Rattle.base.specs.Bytes.{is_digit}
use Rattle.rml_lex.specs.Spelling.{reserved, sign_at}

-- what isn't a reserved word is a name
abbrev pub word_kind : Option Word → Kind
word_kind (Some w) = kind.Word w
word_kind None = kind.Name

-- n bytes of a letter and what goes on with it: a reserved word or a name, of at most 64
abbrev pub word_front : List ℕ → ℕ → Front
word_front bytes n =
    if nat_lt 64 n then front.Fault fault_code.LongName
    else front.Token (word_kind (reserved (take n bytes))) n

-- n digits, among bytes of which m go on as a name does: at most 9, and no letter behind them
abbrev pub number_front : ℕ → ℕ → Front
number_front n m =
    if nat_lt 9 n || nat_lt n m then front.Fault fault_code.BadNumber
    else front.Token kind.Number n

-- the sign that stands there, as long as its spelling; a byte that begins no token is a fault
abbrev pub sign_front : Option (List ℕ × Sign) → Front
sign_front (Some row) = front.Token (kind.Sign row.1) (length row.0)
sign_front None = front.Fault fault_code.BadByte

-- what stands at the front of bytes that begin with no blank and no comment
abbrev pub front_of : List ℕ → Front
front_of [] = front.End
front_of (b ∷ bytes) =
    if is_letter b then word_front (b ∷ bytes) (prefix_len goes_on (b ∷ bytes))
    else if is_digit b then number_front (prefix_len is_digit (b ∷ bytes)) (prefix_len goes_on (b ∷ bytes))
    else sign_front (sign_at (b ∷ bytes))

-- a token has at least one byte, and no more than there are
abbrev pub IsWithin : List ℕ → Front → Type 0
IsWithin bytes (front.Token kind n) = (0 < n) × (n ≤ length bytes)
IsWithin bytes front.End = Unit {0}
IsWithin bytes (front.Fault code) = Unit {0}

-- From the place `at` on the bytes are these tokens, with blanks and comments before each, and then, behind
-- blanks and comments, the rest at the place `end`.
abbrev pub Reads : List ℕ → ℕ → List Token → List ℕ → ℕ → Type 0
Reads bytes at [] rest end = (rest ≡ drop (gap_len false bytes) bytes) × (end ≡ at + gap_len false bytes)
Reads bytes at (t ∷ tokens) rest end = (n : ℕ) × (front_of (drop (gap_len false bytes) bytes) ≡ front.Token t.kind n)
    × (t.start ≡ at + gap_len false bytes) × (t.end ≡ t.start + n)
    × Reads (drop n (drop (gap_len false bytes) bytes)) t.end tokens rest end

-- the tokens of a text: nothing is left behind them
abbrev pub AreTokens : List ℕ → List Token → Type 0
AreTokens text tokens = (end : ℕ) × Reads text 0 tokens [] end

-- the text's first fault: a byte, word or number that is none, behind tokens
abbrev pub IsFault : List ℕ → Fault → Type 0
IsFault text fault =
    (tokens : List Token) × (rest : List ℕ) × Reads text 0 tokens rest fault.at
    × (front_of rest ≡ front.Fault fault.code)

-- a token's bytes are among n
abbrev pub EndsBy : ℕ → Token → Type 0
EndsBy n token = (token.start ≤ token.end) × (token.end ≤ n)

-- the bytes of a token
abbrev pub word_of : List ℕ → Token → List ℕ
word_of text token = take (token.end - token.start) (drop token.start text)

-- the fault stands among n bytes, or at their end
abbrev pub StandsBy : ℕ → Fault → Type 0
StandsBy n fault = fault.at ≤ n
