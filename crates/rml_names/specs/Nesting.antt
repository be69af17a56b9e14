-- How deep the binders of an expression lie inside one another: the rule that whoever walks under binders needs stands
-- here, since it is an induction over trees that no clause speaks of.
use Rattle.std.specs.Prelude.{◌≤◌, ℕ, zero, suc}
use Rattle.std.proofs.Common.{arith}
use Rattle.rml_terms.specs.Tree.{ExprTree, ExprTrees, True, False, Apply, Ite, Equal, Not, And, Or, Implies, Iff}
use Rattle.rml_terms.specs.Tree.{Quantified, no_expr, and_expr}
use Rattle.rml_terms.specs.Shape.{ExprNests, ExprsNest}

-- an expression that nests at most n binders nests at most so many
mutual
  pub nests_more : (e : ExprTree) (n m : ℕ) → n ≤ m → ExprNests n e → ExprNests m e
  nests_more (True at) n m le h = tt
  nests_more (False at) n m le h = tt
  nests_more (Apply name args) n m le h = nest_more args n m le h
  nests_more (Ite at c a b) n m le h = (nests_more c n m le h.0, nests_more a n m le h.1, nests_more b n m le h.2)
  nests_more (Equal at a b) n m le h = (nests_more a n m le h.0, nests_more b n m le h.1)
  nests_more (Not at a) n m le h = nests_more a n m le h
  nests_more (And at args) n m le h = nest_more args n m le h
  nests_more (Or at args) n m le h = nest_more args n m le h
  nests_more (Implies at a b) n m le h = (nests_more a n m le h.0, nests_more b n m le h.1)
  nests_more (Iff at a b) n m le h = (nests_more a n m le h.0, nests_more b n m le h.1)
  nests_more (Quantified q at b a) zero m le h = absurd h
  nests_more (Quantified q at b a) (suc n) zero le h = absurd (omega arith)
  nests_more (Quantified q at b a) (suc n) (suc m) le h = nests_more a n m (omega arith) h

  pub nest_more : (es : ExprTrees) (n m : ℕ) → n ≤ m → ExprsNest n es → ExprsNest m es
  nest_more no_expr n m le h = tt
  nest_more (and_expr e es) n m le h = (nests_more e n m le h.0, nest_more es n m le h.1)
