use Rattle.std.proofs.Common.{arith}
use Rattle.ground_size.specs.Conjoined.{and_of}
use Rattle.ground_size.proofs.parts.ground_size_of_parts.Goals as goal

pub returns : goal.returns
returns c = λ terms is.
    c.with_axioms.ensures terms (and_of c.args.parts.now) is
    (omega (arith, c.nodes_of_parts.ensures, c.saturating_add-nodes.ensures))
