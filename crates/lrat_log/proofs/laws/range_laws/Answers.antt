use Rattle.lrat_log.proofs.Ranges.{log_wider}
use Rattle.std.proofs.Common.{◌≤◌, arith}
use Rattle.lrat_log.proofs.laws.range_laws.Goals as goal

pub returns : goal.returns
returns c n last lines few over = let least : 0 ≤ last = omega arith in log_wider n 2147483647 last 0 lines few least
    over
