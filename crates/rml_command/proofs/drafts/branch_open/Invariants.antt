use Rattle.std.proofs.Common.{◌≡◌, ◌++◌, drop, map}
use Rattle.rml_command.specs.Spans.{joined}
use Rattle.rml_command.proofs.drafts.branch_open.Given as goal

abbrev pub invariant-loop-one : goal.invariant-loop-one
invariant-loop-one l =
    l.into.items ++ map (joined l.route) (drop l.one-index l.next) ≡ l.fn.into.items ++ map (joined l.route) l.next
