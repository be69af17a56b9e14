-- How deep the binders of an expression lie inside one another.
use Rattle.std.specs.Prelude.{ℕ, zero, suc}
use Rattle.rml_terms.specs.Tree.{ExprTree, ExprTrees, True, False, Apply, Ite, Equal, Not, And, Or, Implies, Iff}
use Rattle.rml_terms.specs.Tree.{Quantified, no_expr, and_expr}

-- how many binders of a sentence may lie inside one another; each opens a level of the text
abbrev pub max_nesting : ℕ
max_nesting = 100

-- at most n binders of an expression lie inside one another
abbrev mutual
  pub ExprNests : ℕ → ExprTree → Type 0
  ExprNests n (True at) = Unit {0}
  ExprNests n (False at) = Unit {0}
  ExprNests n (Apply name args) = ExprsNest n args
  ExprNests n (Ite at c a b) = ExprNests n c × ExprNests n a × ExprNests n b
  ExprNests n (Equal at a b) = ExprNests n a × ExprNests n b
  ExprNests n (Not at a) = ExprNests n a
  ExprNests n (And at args) = ExprsNest n args
  ExprNests n (Or at args) = ExprsNest n args
  ExprNests n (Implies at a b) = ExprNests n a × ExprNests n b
  ExprNests n (Iff at a b) = ExprNests n a × ExprNests n b
  ExprNests zero (Quantified q at b a) = ⊥
  ExprNests (suc n) (Quantified q at b a) = ExprNests n a

  pub ExprsNest : ℕ → ExprTrees → Type 0
  ExprsNest n no_expr = Unit {0}
  ExprsNest n (and_expr e es) = ExprNests n e × ExprsNest n es
