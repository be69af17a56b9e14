use Rattle.std.proofs.Common.{◌≡◌, ◌++◌, length}
use Rattle.rml_report.specs.TableText.{more_text}
use Rattle.rml_report.proofs.structures.push_more.Given as goal

abbrev pub invariant-loop-rest : goal.invariant-loop-rest
invariant-loop-rest l = l.out.items ++ more_text l.rest ≡ l.fn.out.items ++ more_text l.elements

abbrev pub decreases-loop-rest : goal.decreases-loop-rest
decreases-loop-rest l = length l.rest
