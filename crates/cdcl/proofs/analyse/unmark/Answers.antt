use Rattle.cdcl.proofs.Marking.{unmarked}
use Rattle.cdcl.proofs.analyse.unmark.Goals as goal

pub returns : goal.returns
returns c = rw c.code.ensures.code (unmarked c.args.marks.now c.args.literal c.requires)
