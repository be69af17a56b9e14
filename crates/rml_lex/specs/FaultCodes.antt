-- The numbers of the faults and their words.
use Rattle.std.specs.Prelude.{ℕ, List, codes}
use Rattle.rml_lex.specs.declared.fault_code.FaultCode.{FaultCode}
use Rattle.rml_lex.specs.declared.fault_code.FaultCode.TheVariants as fault

-- the number by which a fault is told; no fault has 21
abbrev pub number_of : FaultCode → ℕ
number_of fault.BadByte = 1
number_of fault.LongName = 2
number_of fault.BadNumber = 3
number_of fault.UnexpectedToken = 4
number_of fault.DeepNesting = 5
number_of fault.DeclaredTwice = 6
number_of fault.UnknownName = 7
number_of fault.WrongArgumentCount = 8
number_of fault.WrongSort = 9
number_of fault.NotAFormula = 10
number_of fault.NotATerm = 11
number_of fault.BadTarget = 12
number_of fault.TakenName = 13
number_of fault.TooManyNames = 14
number_of fault.FunctionCycle = 15
number_of fault.NotExistsForall = 16
number_of fault.NotUniversal = 17
number_of fault.NotQuantifierFree = 18
number_of fault.NotAlternationFree = 19
number_of fault.TooManyPaths = 20
number_of fault.LargeDefinition = 22

-- the words in which a fault is told
abbrev pub text_of : FaultCode → List ℕ
text_of fault.BadByte = codes "bad byte"
text_of fault.LongName = codes "name too long"
text_of fault.BadNumber = codes "bad number"
text_of fault.UnexpectedToken = codes "unexpected token"
text_of fault.DeepNesting = codes "nested too deep"
text_of fault.DeclaredTwice = codes "declared twice"
text_of fault.UnknownName = codes "unknown name"
text_of fault.WrongArgumentCount = codes "wrong number of arguments"
text_of fault.WrongSort = codes "wrong sort"
text_of fault.NotAFormula = codes "not a formula"
text_of fault.NotATerm = codes "not a term"
text_of fault.BadTarget = codes "bad target"
text_of fault.TakenName = codes "name taken by a symbol"
text_of fault.TooManyNames = codes "too many names"
text_of fault.FunctionCycle = codes "functions form a cycle"
text_of fault.NotExistsForall = codes "not exists-forall"
text_of fault.NotUniversal = codes "not universal"
text_of fault.NotQuantifierFree = codes "not quantifier-free"
text_of fault.NotAlternationFree = codes "not alternation-free"
text_of fault.TooManyPaths = codes "too many paths"
text_of fault.LargeDefinition = codes "definition too large"
