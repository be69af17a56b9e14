use Rattle.structure_back.proofs.Lowering.{AreOwnTo}
use Rattle.structure_back.proofs.leaders.own_leaders.Given as goal

abbrev pub invariant-loop-k : goal.invariant-loop-k
invariant-loop-k l = AreOwnTo l.counts l.k l.leaders
