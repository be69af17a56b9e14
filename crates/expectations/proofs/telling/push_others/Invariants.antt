use Rattle.std.proofs.Common.{◌≡◌, ◌++◌, length}
use Rattle.std.specs.Prelude.{IsTrue}
use Rattle.expectations.specs.Text.{others_text}
use Rattle.expectations.proofs.telling.push_others.Given as goal

abbrev pub invariant-loop-rest : goal.invariant-loop-rest
invariant-loop-rest l =
    IsTrue l.out.whole → IsTrue l.fn.out.whole × (l.out.text ++ others_text l.rest ≡ l.fn.out.text ++ others_text l.kinds)

abbrev pub decreases-loop-rest : goal.decreases-loop-rest
decreases-loop-rest l = length l.rest
