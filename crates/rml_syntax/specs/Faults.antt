-- The tree of a text's tokens, and their first fault.
use Rattle.std.specs.Prelude.{
  ◌≡◌,
  ◌==◌,
  ◌&&◌,
  ℕ,
  List,
  [],
  ◌∷◌,
  ◌++◌,
  ◌⊎◌,
  Option,
  Some,
  None,
  length,
  Result,
  Ok,
  Err,
  if◌then◌else◌,
}
use Rattle.base.specs.declared.refused.Refused.{Refused}
use Rattle.base.specs.declared.refused.Refused.TheVariants.{For, NoMemory}
use Rattle.rml_lex.specs.declared.token.Kind.TheVariants.{Word, Number}
use Rattle.rml_lex.specs.declared.token.Word.TheVariants.{Rml}
use Rattle.rml_lex.specs.declared.token.Fault.{Fault}
use Rattle.rml_lex.specs.declared.fault_code.FaultCode.TheVariants as fault_code
use Rattle.rml_lex.specs.Tokens.{word_of}
use Rattle.rml_phrases.specs.Language.{Tokens, Begins}
use Rattle.rml_phrases.specs.Reading.{number}
use Rattle.rml_syntax.specs.declared.tree.Format.{Format}
use Rattle.rml_syntax.specs.declared.tree.Format.TheVariants.{One, Two}
use Rattle.rml_syntax.specs.declared.tree.Tree.{Tree}
use Rattle.rml_syntax.specs.Tree.{ItemTree, FileTree, file_tree}
use Rattle.rml_syntax.specs.Grammar.{file, max_levels}

-- the format of one digit
abbrev pub format_of_digit : ℕ → Option Format
format_of_digit d = if d == 49 then Some One else if d == 50 then Some Two else None

-- zeros may stand before the one digit; no other number is that of a format
abbrev pub format_of_digits : List ℕ → Option Format
format_of_digits [] = None
format_of_digits (d ∷ digits) =
    if d == 48 then format_of_digits digits else if length digits == 0 then format_of_digit d else None

-- The format of tokens: what the number behind `rml` says, where both come first, and else the first. Other numbers are
-- of no format.
abbrev pub format_of : List ℕ → Tokens → Option Format
format_of text [] = Some One
format_of text (t ∷ []) = Some One
format_of text (t ∷ u ∷ ts) =
    if (number (Word Rml) == number t.kind) && (number Number == number u.kind) then format_of_digits (word_of text u)
    else Some One

-- the tokens are of this format; with a number other than 1 and 2 they are of none
abbrev pub IsFormat : List ℕ → Tokens → Format → Type 0
IsFormat text ts format = format_of text ts ≡ Some format

-- the tokens of a text are this tree's
abbrev pub IsTree : List ℕ → Tokens → FileTree → Type 0
IsTree text ts tree = IsFormat text ts tree.format × (file tree.format max_levels).whole ts tree.items

-- these tokens begin a file of this format, of however many levels
abbrev pub BeginsFile : Format → Tokens → Type 0
BeginsFile format front = (levels : ℕ) × Begins (file format levels).whole front

-- these tokens are a file of this format, of however many levels
abbrev pub IsFile : Format → Tokens → Type 0
IsFile format ts = (levels : ℕ) × (items : List ItemTree) × (file format levels).whole ts items

-- with the next token these begin no file of their format; where there is none, they are no whole one
abbrev pub IsUnexpected : List ℕ → Tokens → Tokens → Type 0
IsUnexpected text front [] = (format : Format) → IsFormat text front format → IsFile format front → ⊥
IsUnexpected text front (token ∷ rest) =
    (format : Format) → IsFormat text (front ++ token ∷ []) format → BeginsFile format (front ++ token ∷ []) → ⊥

-- the next token goes on, but lies inside as many others as may be
abbrev pub IsTooDeep : List ℕ → Tokens → Tokens → Type 0
IsTooDeep text front [] = ⊥
IsTooDeep text front (token ∷ rest) =
    (format : Format) × IsFormat text (front ++ token ∷ []) format × BeginsFile format (front ++ token ∷ [])
    × ((file format max_levels).front (front ++ token ∷ []) → ⊥)

-- where the first of these tokens stands; behind the last one the text ends
abbrev pub place_at : List ℕ → Tokens → ℕ
place_at text [] = length text
place_at text (t ∷ ts) = t.start

-- The tokens up to `rest` begin a file of their format, and no more levels open in them than may; and the next token is
-- unexpected, or opens one level too many.
pub record IsFault (text : List ℕ) (tokens : Tokens) (fault : Fault) : Type 0 where
  pub front : Tokens
  pub rest : Tokens
  pub parts : tokens ≡ front ++ rest
  pub format : Format
  pub is_format : IsFormat text front format
  pub begins : BeginsFile format front
  pub within : (file format max_levels).front front
  pub place : fault.at ≡ place_at text rest
  pub cause : ((fault.code ≡ fault_code.UnexpectedToken) × IsUnexpected text front rest)
      ⊎ ((fault.code ≡ fault_code.DeepNesting) × IsTooDeep text front rest)

-- ---- answers

-- this tree was answered, or memory ran out
abbrev pub AnswersTree : Result Tree (Refused Fault) → FileTree → Type 0
AnswersTree (Ok answer) tree = file_tree answer ≡ tree
AnswersTree (Err (For fault)) tree = ⊥
AnswersTree (Err NoMemory) tree = Unit {0}

-- this fault was answered, or memory ran out
abbrev pub AnswersFault : Result Tree (Refused Fault) → Fault → Type 0
AnswersFault (Ok answer) fault = ⊥
AnswersFault (Err (For answer)) fault = answer ≡ fault
AnswersFault (Err NoMemory) fault = Unit {0}
