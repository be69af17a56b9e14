-- What newcomers write, and what is written in its place: a table for bytes that are none of the language's, one for
-- tokens that no file goes on with, and one for what is wrong with names, sorts and formulas.
use Rattle.std.specs.Prelude.{ℕ, ◌-◌, Bool, true, false, ◌||◌, ◌&&◌, nat_lt, nat_eq, if◌then◌else◌, List, [], ◌∷◌}
use Rattle.std.specs.Prelude.{Option, Some, None, drop, codes}
use Rattle.std.specs.List.{starts_with}
use Rattle.std.specs.Option.{option_or}
use Rattle.std.specs.Str.{bytes_eq}
use Rattle.rml_lex.specs.declared.token.Token.{Token}
use Rattle.rml_lex.specs.declared.token.Kind.{Kind}
use Rattle.rml_lex.specs.declared.token.Kind.TheVariants as kind
use Rattle.rml_lex.specs.declared.token.Word.{Word}
use Rattle.rml_lex.specs.declared.token.Word.TheVariants as word
use Rattle.rml_lex.specs.declared.token.Sign.{Sign}
use Rattle.rml_lex.specs.declared.token.Sign.TheVariants as sign
use Rattle.rml_lex.specs.Tokens.{word_of}
use Rattle.rml_lex.specs.declared.fault_code.FaultCode.{FaultCode}
use Rattle.rml_lex.specs.declared.fault_code.FaultCode.TheVariants as code
use Rattle.told_fault.specs.declared.hint.Hint.{Hint}
use Rattle.told_fault.specs.declared.hint.Hint.TheVariants as hint

-- ---- the tables

-- what stands at a bad byte
abbrev pub byte_rows : List (List ℕ × Hint)
byte_rows =
    (codes "!=", hint.NotEqual)
    ∷ (codes "!", hint.Not)
    ∷ (codes "/\\", hint.And)
    ∷ (codes "\\/", hint.Or)
    ∷ (codes "\\A", hint.Quantifier)
    ∷ (codes "\\E", hint.Quantifier)
    ∷ (codes "\\in", hint.Member)
    ∷ (codes "\\notin", hint.Member)
    ∷ (codes "\\*", hint.Comment)
    ∷ (codes "\\", hint.Set)
    ∷ (codes "//", hint.Comment)
    ∷ (codes "/=", hint.NotEqual)
    ∷ (codes "<=>", hint.Equivalent)
    ∷ (codes "<<", hint.Member)
    ∷ (codes "<", hint.Order)
    ∷ (codes ">", hint.Order)
    ∷ (codes "'", hint.Prime)
    ∷ (codes "[]", hint.Always)
    ∷ (codes "[", hint.Apply)
    ∷ (codes "---", hint.Header)
    ∷ []

-- what stands at a bad byte and the one in front of it
abbrev pub pair_rows : List (List ℕ × Hint)
pair_rows = (codes "=>", hint.Implies) ∷ []

-- the token before the one in front of the fault, the one in front, and the one at the fault; where nothing is written,
-- any token, or none
abbrev pub token_rows : List (List ℕ × List ℕ × List ℕ × Hint)
token_rows =
    ([], codes "else", codes "if", hint.ElseIf)
    ∷ ([], codes "=", codes "=", hint.Equal)
    ∷ ([], codes "&", codes "&", hint.And)
    ∷ ([], codes "|", codes "|", hint.Or)
    ∷ (codes "forall", [], codes ",", hint.Sorts)
    ∷ (codes "exists", [], codes ",", hint.Sorts)
    ∷ (codes "forall", [], codes ".", hint.Sorts)
    ∷ (codes "exists", [], codes ".", hint.Sorts)
    ∷ (codes ",", [], codes ".", hint.Sorts)
    ∷ ([], codes "~", codes "forall", hint.Parentheses)
    ∷ ([], codes "&", codes "forall", hint.Parentheses)
    ∷ ([], codes "|", codes "forall", hint.Parentheses)
    ∷ ([], codes "->", codes "forall", hint.Parentheses)
    ∷ ([], codes "<->", codes "forall", hint.Parentheses)
    ∷ ([], codes "=", codes "forall", hint.Parentheses)
    ∷ ([], codes "~=", codes "forall", hint.Parentheses)
    ∷ ([], codes "~", codes "exists", hint.Parentheses)
    ∷ ([], codes "&", codes "exists", hint.Parentheses)
    ∷ ([], codes "|", codes "exists", hint.Parentheses)
    ∷ ([], codes "->", codes "exists", hint.Parentheses)
    ∷ ([], codes "<->", codes "exists", hint.Parentheses)
    ∷ ([], codes "=", codes "exists", hint.Parentheses)
    ∷ ([], codes "~=", codes "exists", hint.Parentheses)
    ∷ ([], [], codes "and", hint.And)
    ∷ ([], codes "not", [], hint.Not)
    ∷ ([], [], codes "invariant", hint.Conjecture)
    ∷ ([], [], codes "type", hint.Sort)
    ∷ ([], [], codes "individual", hint.Variable)
    ∷ ([], codes "require", [], hint.Assume)
    ∷ ([], codes "ensure", [], hint.Assert)
    ∷ (codes "{", [], codes "=", hint.Becomes)
    ∷ (codes ";", [], codes "=", hint.Becomes)
    ∷ ([], [], codes "safety", hint.Conjecture)
    ∷ ([], codes "havoc", [], hint.Havoc)
    ∷ (codes "action", [], codes "(", hint.Parameters)
    ∷ ([], codes "rml", [], hint.Format)
    ∷ ([], codes "UNCHANGED", [], hint.Unchanged)
    ∷ ([], codes "IF", [], hint.If)
    ∷ ([], [], codes "VARIABLE", hint.Variable)
    ∷ ([], [], codes "VARIABLES", hint.Variable)
    ∷ ([], [], codes "CONSTANT", hint.Constant)
    ∷ ([], [], codes "CONSTANTS", hint.Constant)
    ∷ ([], [], codes "Init", hint.Init)
    ∷ ([], [], codes "Next", hint.Action)
    ∷ ([], codes ")", codes "=", hint.Becomes)
    ∷ []

-- what stands at a name that nothing declares
abbrev pub name_rows : List (List ℕ × Hint)
name_rows = (codes "TRUE", hint.Truth) ∷ (codes "FALSE", hint.Truth) ∷ []

-- what is wrong with names, sorts and formulas
abbrev pub code_hint : FaultCode → Option Hint
code_hint code.NotATerm = Some hint.Formulas
code_hint code.BadTarget = Some hint.Becomes
code_hint code.TakenName = Some hint.NewName
code_hint code.FunctionCycle = Some hint.Cycle
code_hint code.NotExistsForall = Some hint.Witness
code_hint code.NotUniversal = Some hint.Witness
code_hint code.TooManyPaths = Some hint.Paths
code_hint _ = None

-- the words of a hint
abbrev pub words_of : Hint → List ℕ
words_of hint.NotEqual = codes "unequal is written `~=`"
words_of hint.Not = codes "`not` is written `~`"
words_of hint.And = codes "`and` is written `&`, and commands stand one behind another, with a `;` between"
words_of hint.Or = codes "`or` is written `|`"
words_of hint.Implies = codes "implication is written `->`"
words_of hint.Equivalent = codes "equivalence is written `<->`"
words_of hint.Equal = codes "equality is written `=`"
words_of hint.Order = codes "there is no order but a relation that is declared"
words_of hint.Comment = codes "a comment begins with `#`"
words_of hint.ElseIf = codes "`else` takes a block: `else { if .. { .. } }`"
words_of hint.Semicolon = codes "between two commands stands a `;`"
words_of hint.Sorts = codes "a name has its sort: `forall X:s, Y:s. ..`"
words_of hint.Parentheses = codes "a quantifier among other formulas stands in parentheses: `(forall X:s. ..)`"
words_of hint.Conjecture = codes "an invariant is declared as `conjecture NAME : ..`"
words_of hint.Sort = codes "a type is declared as `sort NAME`"
words_of hint.Variable = codes "an individual is declared as `variable NAME : s`"
words_of hint.Assume = codes "what is required is written `assume ..`"
words_of hint.Assert = codes "what is ensured is written `assert ..`"
words_of hint.Becomes = codes "an update is written `x := ..`, `insert r(x)`, `remove r(x)` or `put f(x) = ..`"
words_of hint.Havoc = codes "to set x to any element is written `x := *`"
words_of hint.Parameters = codes "an action has no parameters: declare `variable x : s`, and begin with `x := *`"
words_of hint.Format = codes "a file begins with `rml 1`, with `rml 2`, or with neither"
words_of hint.Quantifier = codes "a quantifier is written `forall X:s. ..` or `exists X:s. ..`"
words_of hint.Member = codes "what is in a set is told by a relation: `r(x)`, `r(x, y)`"
words_of hint.Set = codes "a set is a relation: `insert r(x)`, `remove r(x)`, `r(X) := ..`"
words_of hint.Prime = codes "there are no primes: behind `x := ..` the variable is new"
words_of hint.Apply = codes "a function is applied as `f(x)`, and changed by `put f(x) = ..`"
words_of hint.Always = codes "a conjecture is said of every state, without `[]`"
words_of hint.Header = codes "a file has no header: sorts, relations and actions stand one behind another"
words_of hint.Unchanged = codes "what no command names stays as it is"
words_of hint.If = codes "a branch is written `if c { .. } else { .. }`"
words_of hint.Constant = codes "a constant is a `variable` that no command sets"
words_of hint.Init = codes "the beginning is written `init { .. }`"
words_of hint.Action = codes "each way to go on is an `action NAME { .. }`"
words_of hint.Truth = codes "truth is written `true` or `false`"
words_of hint.Formulas = codes "formulas are compared by `<->`, and a relation is no term"
words_of hint.NewName = codes "a name that is bound is new: for one element, `insert r(x)` or `put f(x) = ..`"
words_of hint.Cycle = codes "functions may not lead round: a relation in the place of one, or a sort of its own"
words_of hint.Witness = codes "what exists for each element is given by a function: `r(N, f(N))`"
words_of hint.Paths = codes "each `if` and `choose` multiplies the paths: several actions in the place of one"

-- ---- how they are read

-- the hint of the first row with which the bytes begin
abbrev pub first_begun : List (List ℕ × Hint) → List ℕ → Option Hint
first_begun [] bytes = None
first_begun (row ∷ rows) bytes = if starts_with nat_eq bytes row.0 then Some row.1 else first_begun rows bytes

-- a pattern without bytes, which fits every word
abbrev pub is_any : List ℕ → Bool
is_any [] = true
is_any (b ∷ bytes) = false

-- the word is the row's, or the row has none
abbrev pub fits : List ℕ → List ℕ → Bool
fits pattern spelled = is_any pattern || bytes_eq pattern spelled

-- the words that a command begins with
abbrev pub begins_with : Word → Bool
begins_with word.Skip = true
begins_with word.Abort = true
begins_with word.Assume = true
begins_with word.Assert = true
begins_with word.If = true
begins_with word.Choose = true
begins_with word.Insert = true
begins_with word.Remove = true
begins_with word.Put = true
begins_with _ = false

-- a command begins with a name or with one of these words
abbrev pub begins_command : Kind → Bool
begins_command kind.Name = true
begins_command (kind.Word w) = begins_with w
begins_command _ = false

-- the words at a place, and in front of it, and whether a command may begin with the token that is there
pub record Round : Type 0 where
  pub earlier : List ℕ
  pub before : List ℕ
  pub here : List ℕ
  pub begins : Bool

-- the hint of the first row that fits
abbrev pub first_fitting : List (List ℕ × List ℕ × List ℕ × Hint) → Round → Option Hint
first_fitting [] round = None
first_fitting (row ∷ rows) round =
    if fits row.0 round.earlier && (fits row.1 round.before && fits row.2 round.here) then Some row.3
    else first_fitting rows round

-- the first of the tokens that does not begin in front of the place, and the two before it, behind two words
abbrev pub round_at : List ℕ → ℕ → List ℕ → List ℕ → List Token → Round
round_at text at earlier before [] = record { earlier = earlier; before = before; here = []; begins = false }
round_at text at earlier before (t ∷ ts) =
    if nat_lt t.start at then round_at text at before (word_of text t) ts
    else record { earlier = earlier; before = before; here = word_of text t; begins = begins_command t.kind }

-- the sign that stands between two commands
abbrev pub is_separator : Sign → Bool
is_separator sign.Semicolon = true
is_separator _ = false

abbrev pub is_semicolon : Kind → Bool
is_semicolon (kind.Sign s) = is_separator s
is_semicolon _ = false

-- whether a `;` is among these kinds
abbrev pub may_separate : List Kind → Bool
may_separate [] = false
may_separate (k ∷ ks) = is_semicolon k || may_separate ks

-- the hint that is there; or, where there is none and a `;` is missing, that one
abbrev pub or_semicolon : Option Hint → Bool → Option Hint
or_semicolon (Some h) missing = Some h
or_semicolon None missing = if missing then Some hint.Semicolon else None

-- ---- the hints

-- of what stands at a bad byte
abbrev pub byte_hint : List ℕ → ℕ → Option Hint
byte_hint text at = option_or (first_begun pair_rows (drop (at - 1) text)) (first_begun byte_rows (drop at text))

-- Of what stands round an unexpected token, where these kinds may stand: by the rows; or, where a command begins and a
-- `;` may stand, that it is missing.
abbrev pub hint_of : Round → List Kind → Option Hint
hint_of round kinds = or_semicolon (first_fitting token_rows round) (round.begins && may_separate kinds)

-- of what stands round the place of an unexpected token, where these kinds may stand
abbrev pub token_hint : List ℕ → List Token → ℕ → List Kind → Option Hint
token_hint text tokens at kinds = hint_of (round_at text at [] [] tokens) kinds

-- of what stands at a name that nothing declares, or of what is wrong otherwise
abbrev pub fault_hint : List ℕ → ℕ → FaultCode → Option Hint
fault_hint text at code.UnknownName = first_begun name_rows (drop at text)
fault_hint text at c = code_hint c
