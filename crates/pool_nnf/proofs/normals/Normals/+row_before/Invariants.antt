use Rattle.pool_nnf.proofs.normals.Normals.+row_before.Given as goal

-- what is left of the first row has a smaller number
abbrev pub decreases-row_before : goal.decreases-row_before
decreases-row_before l = l.front.0
