use Rattle.bounded_text.proofs.Shown.{renderable}
use Rattle.bounded_text.proofs.laws.rendering_law.Goals as goal

pub returns : goal.returns
returns c = renderable c.update_law.ensures c.path_law.ensures.followed c.goal_law.ensures.fit
