use Rattle.std.proofs.Common.{◌∙◌, sym}
use Rattle.rml_command.specs.Goals.{goals_among}
use Rattle.verdicts.proofs.GoalLists.{passed, listed}
use Rattle.verdicts.proofs.listing.goals_among.Goals as goal

pub loop-i-preserved-then-not-is_for : goal.loop-i-preserved-then-not-is_for
loop-i-preserved-then-not-is_for c =
    passed c.args.head c.args.paths.now c.loop-i.i c.path.result c.loop-i.goals.items
    (goals_among c.args.head 1 c.args.paths.now) c.path.ensures
    (sym c.is_for.ensures ∙ c.if-not-is_for.true) c.loop-i.invariant

pub loop-i-preserved : goal.loop-i-preserved
loop-i-preserved c =
    listed c.args.head c.args.paths.now c.loop-i.i c.path.result c.loop-i.goals.items c.push.new.self.items
    (goals_among c.args.head 1 c.args.paths.now) c.path.ensures (sym c.is_for.ensures ∙ c.if-not-is_for.false)
    c.in_ok-push.ensures.items c.loop-i.invariant
