use Rattle.std.proofs.Common.{◌≡◌, length}
use Rattle.report_read.specs.LineReading.{stops_at_some}
use Rattle.report_read.proofs.opening.stops_at_some.Given as goal

abbrev pub invariant-loop-rest : goal.invariant-loop-rest
invariant-loop-rest l = stops_at_some l.most l.rest l.scan ≡ stops_at_some l.most l.names l.scan

abbrev pub decreases-loop-rest : goal.decreases-loop-rest
decreases-loop-rest l = length l.rest
