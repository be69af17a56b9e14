use Rattle.renumbering.proofs.Lists.{rising_wider}
use Rattle.renumbering.proofs.laws.variable_laws.Goals as goal

pub returns : goal.returns
returns c n m last names h r = rising_wider n m last names h r
