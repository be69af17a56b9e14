use Rattle.rml_report.proofs.Right.{renderable}
use Rattle.rml_report.proofs.laws.rendering_law.Goals as goal

pub returns : goal.returns
returns c = renderable
