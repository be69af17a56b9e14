use Rattle.ground_size.proofs.OfParts.{of_parts}
use Rattle.ground_size.proofs.laws.existential_laws.Goals as goal

pub returns : goal.returns
returns c = of_parts
