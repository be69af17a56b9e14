-- What is written so far, and behind it the text of the rest.
use Rattle.std.proofs.Common.{◌≡◌, ◌++◌, length}
use Rattle.std.specs.Prelude.{IsTrue}
use Rattle.told_answers.specs.ReasonsText.{more_needs}
use Rattle.told_answers.proofs.reasons.push_more_needs.Given as goal

abbrev pub invariant-loop-rest : goal.invariant-loop-rest
invariant-loop-rest l = IsTrue l.out.whole → IsTrue l.fn.out.whole
    × (l.out.text ++ more_needs l.names l.rest ≡ l.fn.out.text ++ more_needs l.names l.needs)

abbrev pub decreases-loop-rest : goal.decreases-loop-rest
decreases-loop-rest l = length l.rest
