use Rattle.std.proofs.Common.{◌≡◌, ◌++◌, length}
use Rattle.rml_report.specs.Words.{numbers_text}
use Rattle.rml_report.proofs.words.push_numbers.Given as goal

abbrev pub invariant-loop-rest : goal.invariant-loop-rest
invariant-loop-rest l = l.out.items ++ numbers_text l.rest ≡ l.fn.out.items ++ numbers_text l.numbers

abbrev pub decreases-loop-rest : goal.decreases-loop-rest
decreases-loop-rest l = length l.rest
