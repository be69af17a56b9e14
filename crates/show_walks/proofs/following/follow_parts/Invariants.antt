use Rattle.std.proofs.Common.{length}
use Rattle.fol_sig.specs.Symbols.{symbols}
use Rattle.rml_exec.specs.Followed.{EndFits}
use Rattle.show_walks.proofs.following.follow_parts.Given as goal

abbrev pub invariant-loop-rest : goal.invariant-loop-rest
invariant-loop-rest l = EndFits (symbols l.checked.signature) l.now

abbrev pub decreases-loop-rest : goal.decreases-loop-rest
decreases-loop-rest l = length l.rest
