use Rattle.std.proofs.Common.{◌+◌, ◌*◌}
use Rattle.pool_nnf.proofs.normals.Normals.+plain.Given as goal

-- a part has a smaller number, and what looks a term up stands above what looks into it
abbrev pub decreases-is_plain_term : goal.decreases-is_plain_term
decreases-is_plain_term l = 2 * l.at.0 + 1

abbrev pub decreases-is_found_plain : goal.decreases-is_found_plain
decreases-is_found_plain l = 2 * l.at.0

abbrev pub decreases-is_plain_row : goal.decreases-is_plain_row
decreases-is_plain_row l = 2 * l.row.0
