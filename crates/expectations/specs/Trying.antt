-- How a kind is tried: the parser's answer to the tokens in front with one token more, behind the text with a 1. No
-- public contract cites it.
use Rattle.std.specs.Prelude.{◌≡◌, ℕ, Bool, true, false, List, [], ◌∷◌, ◌++◌, ◌⊎◌, length}
use Rattle.std.specs.List.{AllByRecursion}
use Rattle.rml_lex.specs.declared.token.Fault.{Fault}
use Rattle.rml_lex.specs.declared.fault_code.FaultCode.TheVariants as fault_code
use Rattle.rml_lex.specs.Tokens.{EndsBy}
use Rattle.rml_phrases.specs.Language.{Tokens}
use Rattle.rml_syntax.specs.Tree.{FileTree}
use Rattle.rml_syntax.specs.Faults.{IsTree, IsFault}
use Rattle.expectations.specs.Expectations.{in_front}

-- the text with the number of a format behind it
abbrev pub longer : List ℕ → List ℕ
longer text = text ++ 49 ∷ []

-- a token is unexpected, and stands there
abbrev pub IsUnexpectedAt : ℕ → Fault → Type 0
IsUnexpectedAt last fault = (fault.code ≡ fault_code.UnexpectedToken) × (fault.at ≡ last)

-- what the parser said of the tokens, the last of which stands there: a tree, or a fault that is not this token
abbrev pub Says : List ℕ → Tokens → ℕ → Bool → Type 0
Says text tried last true = ((tree : FileTree) × IsTree text tried tree)
    ⊎ ((fault : Fault) × IsFault text tried fault × (IsUnexpectedAt last fault → ⊥))
Says text tried last false = (fault : Fault) × IsFault text tried fault × IsUnexpectedAt last fault

-- these are the tokens in front of the fault of some tokens of this text
abbrev pub IsFront : List ℕ → Tokens → Type 0
IsFront text front = (tokens : Tokens) × (fault : Fault) × AllByRecursion (EndsBy (length text)) tokens
    × IsFault text tokens fault × (front ≡ in_front fault.at tokens)
