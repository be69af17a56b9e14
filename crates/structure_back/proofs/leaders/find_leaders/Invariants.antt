use Rattle.std.proofs.Common.{drop}
use Rattle.ground_terms.specs.Same.{holds_in}
use Rattle.structure_back.proofs.Lowering.{AreLeading}
use Rattle.structure_back.proofs.leaders.find_leaders.Given as goal

abbrev pub invariant-loop-atom : goal.invariant-loop-atom
invariant-loop-atom l = AreLeading l.counts (holds_in l.assignment) (drop l.atom-index l.atom-items) l.leaders
