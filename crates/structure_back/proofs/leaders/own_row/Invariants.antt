use Rattle.structure_back.specs.Leaders.{IsOwn}
use Rattle.structure_back.proofs.leaders.own_row.Given as goal

abbrev pub invariant-loop-x : goal.invariant-loop-x
invariant-loop-x l = IsOwn l.x l.row.items
