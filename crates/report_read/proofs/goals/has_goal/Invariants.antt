use Rattle.std.proofs.Common.{◌≡◌, drop}
use Rattle.report_read.specs.LineReading.{has_goal, has_goal_among}
use Rattle.report_read.proofs.goals.has_goal.Given as goal

abbrev pub invariant-loop-i : goal.invariant-loop-i
invariant-loop-i l =
    has_goal_among l.about (drop l.i l.paths) ≡ has_goal l.checked (record { stage = l.fn.stage; about = l.about })
