-- What is written so far, and behind it the text of the rest.
use Rattle.std.proofs.Common.{◌≡◌, ◌++◌, length}
use Rattle.std.specs.Prelude.{IsTrue}
use Rattle.told_answers.specs.ReasonsText.{more_names}
use Rattle.told_answers.proofs.reasons.push_more_names.Given as goal

abbrev pub invariant-loop-rest : goal.invariant-loop-rest
invariant-loop-rest l = IsTrue l.out.whole → IsTrue l.fn.out.whole
    × (l.out.text ++ more_names l.names l.rest ≡ l.fn.out.text ++ more_names l.names l.conjectures)

abbrev pub decreases-loop-rest : goal.decreases-loop-rest
decreases-loop-rest l = length l.rest
