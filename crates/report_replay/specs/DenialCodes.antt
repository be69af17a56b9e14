-- The numbers of denials and their words.
use Rattle.std.specs.Prelude.{ℕ, List, codes}
use Rattle.report_replay.specs.declared.denial.DenialCode.{DenialCode}
use Rattle.report_replay.specs.declared.denial.DenialCode.TheVariants as denial

-- the number behind the letter P; 1 is that of an unexpected line
abbrev pub number_of : DenialCode → ℕ
number_of denial.AxiomIsFalse = 2
number_of denial.ConjectureIsFalse = 3
number_of denial.Blocked = 4
number_of denial.WrongEnd = 5
number_of denial.NotBroken = 6
number_of denial.WrongVerdict = 7

-- the words behind the place
abbrev pub text_of : DenialCode → List ℕ
text_of denial.AxiomIsFalse = codes "axiom is false"
text_of denial.ConjectureIsFalse = codes "conjecture is false"
text_of denial.Blocked = codes "blocked"
text_of denial.WrongEnd = codes "wrong end"
text_of denial.NotBroken = codes "not broken"
text_of denial.WrongVerdict = codes "wrong verdict"
