use Rattle.std.proofs.Common.{◌≡◌, ◌++◌}
use Rattle.std.specs.Prelude.{IsTrue}
use Rattle.told_fault.specs.Diagnostics.{blanks}
use Rattle.told_fault.proofs.source.push_blanks.Given as goal

abbrev pub invariant-loop-left : goal.invariant-loop-left
invariant-loop-left l =
    IsTrue l.out.whole → IsTrue l.fn.out.whole × (l.out.text ++ blanks l.left ≡ l.fn.out.text ++ blanks l.fn.count)

abbrev pub decreases-loop-left : goal.decreases-loop-left
decreases-loop-left l = l.left
