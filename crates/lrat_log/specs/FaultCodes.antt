-- The numbers of the faults of a log's text, and their words.
use Rattle.std.specs.Prelude.{ℕ, List, codes}
use Rattle.lrat_log.specs.declared.fault_code.LogFaultCode.{LogFaultCode}
use Rattle.lrat_log.specs.declared.fault_code.LogFaultCode.TheVariants as code

abbrev pub number_of : LogFaultCode → ℕ
number_of code.BadNumber = 1
number_of code.RatHint = 2
number_of code.Unended = 3
number_of code.IdNotAbove = 4
number_of code.VariableOutOfRange = 5

abbrev pub text_of : LogFaultCode → List ℕ
text_of code.BadNumber = codes "bad number"
text_of code.RatHint = codes "RAT hint"
text_of code.Unended = codes "unended"
text_of code.IdNotAbove = codes "id not above the last"
text_of code.VariableOutOfRange = codes "variable out of range"
