use Rattle.std.proofs.Common.{ap, length}
use Rattle.cdcl.specs.TrailValue.{TrailValue}
use Rattle.cdcl.proofs.Trails.{step_small}
use Rattle.cdcl.proofs.trail.Trail.step.Goals as goal

pub returns-clause-small : goal.returns-clause-small
returns-clause-small c =
    step_small c.args.self.now c.self.inside.steps.items c.args.place (length c.self.inside.values.items)
    (length c.self.inside.places.items) c.index.result.now
    (ap (λ (t : TrailValue). t.steps) c.self.view_is) (ap (λ (t : TrailValue). t.size) c.self.view_is)
    c.self.invariant.halves c.self.invariant.small c.requires c.index.ensures
