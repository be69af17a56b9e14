-- An expression under at most 8 names.
use Rattle.std.proofs.Common.{◌≤◌, ◌-◌, ℕ, arith}
use Rattle.fol_sig.specs.Arguments.{max_arguments}
use Rattle.rml_terms.specs.Tree.{ExprTree, ExprTrees}
use Rattle.rml_terms.specs.Shape.{ExprNests, ExprsNest, max_nesting}
use Rattle.rml_names.specs.Nesting.{nests_more, nest_more}
use Rattle.rml_names.specs.Scopes.{max_bound}

-- under at most 8 names a hundred binders may stand
pub nests_below : (k : ℕ) (e : ExprTree) → k ≤ max_arguments → ExprNests max_nesting e → ExprNests (max_bound - k) e
nests_below k e few h = nests_more e max_nesting (max_bound - k) (omega arith) h

pub nest_below : (k : ℕ) (es : ExprTrees) → k ≤ max_arguments → ExprsNest max_nesting es → ExprsNest (max_bound - k) es
nest_below k es few h = nest_more es max_nesting (max_bound - k) (omega arith) h
