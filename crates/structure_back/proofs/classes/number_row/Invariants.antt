use Rattle.structure_back.specs.Classes.{IsNumbered}
use Rattle.structure_back.proofs.classes.number_row.Given as goal

abbrev pub invariant-loop-x : goal.invariant-loop-x
invariant-loop-x l = IsNumbered l.leaders l.x l.numbers.items l.members.items
