use Rattle.obligation_decide.proofs.Restricting.{parts_are_true, restricted_is}
use Rattle.obligation_decide.proofs.laws.parts_law.Goals as goal

pub returns-clause-added : goal.returns-clause-added
returns-clause-added c = restricted_is

pub returns-clause-truth : goal.returns-clause-truth
returns-clause-truth c = parts_are_true
