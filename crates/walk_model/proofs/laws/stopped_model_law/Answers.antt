use Rattle.walk_model.proofs.Stopped.{stopped_models_tell}
use Rattle.walk_model.proofs.laws.stopped_model_law.Goals as goal

pub returns : goal.returns
returns c = stopped_models_tell c.path_law.ensures.last c.path_law.ensures.followed c.path_law.ensures.kind
