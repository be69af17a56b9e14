use Rattle.structure_back.specs.Classes.{AreNumbered}
use Rattle.structure_back.proofs.classes.number_classes.Given as goal

abbrev pub invariant-loop-k : goal.invariant-loop-k
invariant-loop-k l = AreNumbered l.leaders l.k l.sizes.items l.numbers l.members
