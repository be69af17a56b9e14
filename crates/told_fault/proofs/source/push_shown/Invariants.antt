use Rattle.std.proofs.Common.{◌≡◌, ◌++◌, map, length}
use Rattle.std.specs.Prelude.{IsTrue}
use Rattle.told_fault.specs.Diagnostics.{shown}
use Rattle.told_fault.proofs.source.push_shown.Given as goal

abbrev pub invariant-loop-rest : goal.invariant-loop-rest
invariant-loop-rest l =
    IsTrue l.out.whole → IsTrue l.fn.out.whole × (l.out.text ++ map shown l.rest ≡ l.fn.out.text ++ map shown l.bytes)

abbrev pub decreases-loop-rest : goal.decreases-loop-rest
decreases-loop-rest l = length l.rest
