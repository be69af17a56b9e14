use Rattle.told_answers.proofs.Told.{told}
use Rattle.told_answers.proofs.laws.telling_law.Goals as goal

pub returns : goal.returns
returns c = told c.rendering_law.ensures c.end_law.ensures
