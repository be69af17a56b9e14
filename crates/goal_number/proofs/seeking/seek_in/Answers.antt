use Rattle.std.proofs.Common.{◌∙◌, sym, ap}
use Rattle.rml_command.specs.Goals.{goals_among}
use Rattle.rml_command.specs.declared.goal.Head.{Head}
use Rattle.goal_number.specs.Seeking.{seek}
use Rattle.goal_number.proofs.Counting.{passed, met, counted}
use Rattle.goal_number.proofs.seeking.seek_in.Goals as goal

pub loop-i-preserved-then-not-is_for : goal.loop-i-preserved-then-not-is_for
loop-i-preserved-then-not-is_for c =
    let group : Head = record { stage = c.args.stage; about = c.args.about } in
    passed group c.stage_paths-paths.result.now c.loop-i.i c.loop-i.left c.path.result
    (seek c.args.most (goals_among group 1 c.stage_paths-paths.result.now)) c.path.ensures
    (sym c.is_for.ensures ∙ c.if-not-is_for.true) c.loop-i.invariant

pub returns-then-left-eq0-clause-place : goal.returns-then-left-eq0-clause-place
returns-then-left-eq0-clause-place c =
    let group : Head = record { stage = c.args.stage; about = c.args.about } in
    met group c.stage_paths-paths.result.now c.loop-i.i c.loop-i.left c.path.result
    (seek c.args.most (goals_among group 1 c.stage_paths-paths.result.now)) c.path.ensures
    (sym c.is_for.ensures ∙ c.if-not-is_for.false) c.if-left-eq0.true c.loop-i.invariant
    ∙ ap (λ ps. seek c.args.most (goals_among group 1 ps)) c.stage_paths-paths.ensures.paths

pub loop-i-preserved : goal.loop-i-preserved
loop-i-preserved c =
    let group : Head = record { stage = c.args.stage; about = c.args.about } in
    counted group c.stage_paths-paths.result.now c.loop-i.i c.loop-i.left c.path.result
    (seek c.args.most (goals_among group 1 c.stage_paths-paths.result.now)) c.path.ensures
    (sym c.is_for.ensures ∙ c.if-not-is_for.false) c.if-left-eq0.false c.loop-i.invariant
