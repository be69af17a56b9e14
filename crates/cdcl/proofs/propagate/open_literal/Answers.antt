use Rattle.cdcl.specs.Trail.{is_set}
use Rattle.cdcl.proofs.Members.{open_behind, found_before}
use Rattle.cdcl.proofs.propagate.open_literal.Goals as goal

pub returns-in-Some : goal.returns-in-Some
returns-in-Some c =
    open_behind (is_set c.args.trail.now.steps) c.args.clause.now c.split_at.result.0.now c.split_at.result.1.now
    c.min.result c.args.one c.args.other c.split_at.ensures.front c.split_at.ensures.back c.in-Some.open.literal
    c.in-Some.ensures

pub returns-in-None : goal.returns-in-None
returns-in-None c =
    found_before (is_set c.args.trail.now.steps) c.args.clause.now c.split_at.result.0.now c.split_at.result.1.now
    c.min.result c.args.one c.args.other c.split_at.ensures.front c.split_at.ensures.back c.first_open-in-None.result
    c.in-None.ensures c.first_open-in-None.ensures
