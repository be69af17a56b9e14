use Rattle.rml_elaborate.proofs.Tuples.{parameters_turn}
use Rattle.rml_elaborate.proofs.updates.parameters.Goals as goal

pub loop-left-preserved : goal.loop-left-preserved
loop-left-preserved c =
    parameters_turn c.lists.ensures.terms c.loop-left.left c.loop-left.all.items c.push.new.self.items
    c.parameter.result _ c.loop-left-test.true c.in_ok-push.ensures.items c.parameter.ensures c.loop-left.invariant
