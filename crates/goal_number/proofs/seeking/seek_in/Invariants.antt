-- The goals of the paths that are left give what all of them give.
use Rattle.std.proofs.Common.{◌≡◌, ◌+◌, drop}
use Rattle.rml_command.specs.Goals.{goals_among}
use Rattle.goal_number.specs.Seeking.{seek}
use Rattle.goal_number.proofs.seeking.seek_in.Given as goal

abbrev pub invariant-loop-i : goal.invariant-loop-i
invariant-loop-i l =
    seek l.left (goals_among (record { stage = l.fn.stage; about = l.fn.about }) (l.i + 1) (drop l.i l.paths))
    ≡ seek l.fn.most (goals_among (record { stage = l.fn.stage; about = l.fn.about }) 1 l.paths)
