use Rattle.std.proofs.Common.{◌≡◌, ◌+◌, ◌++◌, drop}
use Rattle.rml_command.specs.Goals.{goals_among}
use Rattle.verdicts.proofs.listing.goals_among.Given as goal

abbrev pub invariant-loop-i : goal.invariant-loop-i
invariant-loop-i l =
    l.goals.items ++ goals_among l.fn.head (l.i + 1) (drop l.i l.paths) ≡ goals_among l.fn.head 1 l.paths
