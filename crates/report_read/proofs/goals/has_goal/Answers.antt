use Rattle.std.proofs.Common.{◌+◌, Bool, true, sym, ap, ◌∙◌, cond, drop}
use Rattle.report_read.specs.LineReading.{has_goal_among}
use Rattle.report_read.proofs.Turns.{among_turn}
use Rattle.report_read.proofs.goals.has_goal.Goals as goal

pub returns-then-is_for : goal.returns-then-is_for
returns-then-is_for c =
    sym (among_turn c.args.about c.stage_paths-paths.result.now c.loop-i.i _ c.is_for.result c.path.ensures
    c.is_for.ensures ∙ ap (λ (t : Bool). cond t true
    (has_goal_among c.args.about (drop (c.loop-i.i + 1) c.stage_paths-paths.result.now))) c.if-is_for.true)
    ∙ c.loop-i.invariant

pub loop-i-preserved : goal.loop-i-preserved
loop-i-preserved c =
    sym (among_turn c.args.about c.stage_paths-paths.result.now c.loop-i.i _ c.is_for.result c.path.ensures
    c.is_for.ensures ∙ ap (λ (t : Bool). cond t true
    (has_goal_among c.args.about (drop (c.loop-i.i + 1) c.stage_paths-paths.result.now))) c.if-is_for.false)
    ∙ c.loop-i.invariant
