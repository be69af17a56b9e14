-- The numbers of the faults of a formula's text, and their words.
use Rattle.std.specs.Prelude.{ℕ, List, codes}
use Rattle.cnf_base.specs.declared.fault_code.CnfFaultCode.{CnfFaultCode}
use Rattle.cnf_base.specs.declared.fault_code.CnfFaultCode.TheVariants as code

abbrev pub number_of : CnfFaultCode → ℕ
number_of code.BadHeader = 1
number_of code.BadNumber = 2
number_of code.VariableOutOfRange = 3
number_of code.WrongClauseCount = 4
number_of code.Unended = 5

abbrev pub text_of : CnfFaultCode → List ℕ
text_of code.BadHeader = codes "bad header"
text_of code.BadNumber = codes "bad number"
text_of code.VariableOutOfRange = codes "variable out of range"
text_of code.WrongClauseCount = codes "wrong number of clauses"
text_of code.Unended = codes "unended"
