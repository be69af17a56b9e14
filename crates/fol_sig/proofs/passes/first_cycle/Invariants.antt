use Rattle.std.proofs.Common.{◌-◌}
use Rattle.fol_sig.specs.Symbols.{symbols}
use Rattle.fol_sig.proofs.Cycles.{Between}
use Rattle.fol_sig.proofs.passes.first_cycle.Given as goal

abbrev pub invariant-loop-ordered : goal.invariant-loop-ordered
invariant-loop-ordered l = Between (symbols l.signature) l.ordered l.cyclic

abbrev pub decreases-loop-ordered : goal.decreases-loop-ordered
decreases-loop-ordered l = l.cyclic - l.ordered
