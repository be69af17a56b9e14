use Rattle.rml_sample.specs.Sample.{conjecture_text}
use Rattle.rml_sample.proofs.Pieces.{three}
use Rattle.rml_sample.proofs.pushing.push_conjecture.Goals as goal

pub returns : goal.returns
unfolding conjecture_text
returns c =
    three _ _ _ _ _ _ _ c.in_ok-push_numbered.ensures c.in_ok-push_numbered-2.ensures c.in_ok-push_numbered-3.ensures
