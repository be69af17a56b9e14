-- What is told beside a fault: what can be said of a text without its names and sorts.
use Rattle.std.specs.Prelude.{◌≡◌, ℕ, List, [], ◌++◌, length, Option, Some, None, codes}
use Rattle.rml_lex.specs.declared.token.Token.{Token}
use Rattle.rml_lex.specs.declared.token.Fault.{Fault}
use Rattle.rml_lex.specs.declared.fault_code.FaultCode.{FaultCode}
use Rattle.rml_lex.specs.declared.fault_code.FaultCode.TheVariants as code
use Rattle.rml_lex.specs.Tokens.{AreTokens}
use Rattle.rml_lex.specs.Tokens as bytes
use Rattle.rml_syntax.specs.Tree.{file_tree}
use Rattle.rml_syntax.specs.Within.{TreeWithin}
use Rattle.rml_syntax.specs.Shape.{IsShaped}
use Rattle.rml_syntax.specs.Faults.{IsTree}
use Rattle.rml_syntax.specs.Faults as grammar
use Rattle.told_fault.specs.Diagnostics.{diagnostic_text}
use Rattle.expectations.specs.Expectations.{AreExpected}
use Rattle.expectations.specs.Text.{expected_text}
use Rattle.told_fault.specs.Hints.{byte_hint, token_hint, fault_hint, words_of}
use Rattle.told_fault.specs.declared.hint.Hint.{Hint}
use Rattle.told_fault.specs.declared.reading.Reading.{Reading}
use Rattle.told_fault.specs.declared.reading.Reading.TheVariants.{NoTokens, Unexpected, TooDeep, Parsed}

-- only of a bad byte is a hint known
abbrev pub advice_at : FaultCode → List ℕ → ℕ → Option Hint
advice_at code.BadByte text at = byte_hint text at
advice_at _ text at = None

-- the hint for a fault of a text's bytes
abbrev pub byte_advice : List ℕ → Fault → Option Hint
byte_advice text fault = advice_at fault.code text fault.at

-- The bytes have this fault; or they are tokens, and these have this fault, where these kinds may stand; or the tokens
-- are this tree's, whose names and words stand within the text, and which nests as far as a tree may.
abbrev pub IsReading : List ℕ → Reading → Type 0
IsReading text (NoTokens hint) = (fault : Fault) × bytes.IsFault text fault × (hint ≡ byte_advice text fault)
IsReading text (Unexpected kinds hint) =
    (tokens : List Token) × (fault : Fault) × AreTokens text tokens × grammar.IsFault text tokens fault
    × (fault.code ≡ code.UnexpectedToken) × AreExpected text tokens fault.at kinds
    × (hint ≡ token_hint text tokens fault.at kinds)
IsReading text TooDeep =
    (tokens : List Token) × (fault : Fault) × AreTokens text tokens × grammar.IsFault text tokens fault
    × (fault.code ≡ code.DeepNesting)
IsReading text (Parsed tree) =
    (tokens : List Token) × AreTokens text tokens × IsTree text tokens (file_tree tree)
    × TreeWithin (length text) (file_tree tree) × IsShaped (file_tree tree)

-- `  = hint: ..`, and nothing without one
abbrev pub hint_line : Option Hint → List ℕ
hint_line None = []
hint_line (Some hint) = codes "  = hint: " ++ words_of hint ++ codes "\n"

-- which kinds of token may stand at the fault, where one is unexpected, and a hint
abbrev pub advice_text : List ℕ → Fault → Reading → List ℕ
advice_text text fault (NoTokens hint) = hint_line hint
advice_text text fault (Unexpected kinds hint) = expected_text kinds ++ hint_line hint
advice_text text fault TooDeep = []
advice_text text fault (Parsed tree) = hint_line (fault_hint text fault.at fault.code)

-- the place and the words, the line, the caret, and what is told beside
unfoldable pub fault_text : List ℕ → List ℕ → Fault → Reading → List ℕ
fault_text file text fault reading = diagnostic_text file text fault ++ advice_text text fault reading
