-- The numbers of refusals, and their words.
use Rattle.std.specs.Prelude.{ℕ, List, codes}
use Rattle.lrat_log.specs.declared.refusal_code.RefusalCode.{RefusalCode}
use Rattle.lrat_log.specs.declared.refusal_code.RefusalCode.TheVariants as code

abbrev pub number_of : RefusalCode → ℕ
number_of code.UnknownId = 1
number_of code.HintNotUnit = 2
number_of code.NoConflict = 3

abbrev pub text_of : RefusalCode → List ℕ
text_of code.UnknownId = codes "unknown id"
text_of code.HintNotUnit = codes "hint is neither unit nor false"
text_of code.NoConflict = codes "no conflict"
