-- Where the names and the nodes of an expression stand.
use Rattle.std.specs.Prelude.{ℕ, ◌≤◌, List}
use Rattle.std.specs.List.{AllByRecursion}
use Rattle.rml_terms.specs.declared.tree.Name.{Name}
use Rattle.rml_terms.specs.declared.tree.Binder.{Binder}
use Rattle.rml_terms.specs.Tree.{ExprTree, ExprTrees, True, False, Apply, Ite, Equal, Not, And, Or, Implies, Iff}
use Rattle.rml_terms.specs.Tree.{Quantified, no_expr, and_expr}

-- a name's bytes are among n
abbrev pub NameWithin : ℕ → Name → Type 0
NameWithin n name = (name.start ≤ name.end) × (name.end ≤ n)

abbrev pub NamesWithin : ℕ → List Name → Type 0
NamesWithin n names = AllByRecursion (NameWithin n) names

-- the bytes of a binder's name and of its sort's are among n
abbrev pub BinderWithin : ℕ → Binder → Type 0
BinderWithin n b = NameWithin n b.name × NameWithin n b.sort

-- the names of an expression are among n bytes, and its nodes stand there
abbrev mutual
  pub ExprWithin : ℕ → ExprTree → Type 0
  ExprWithin n (True at) = at ≤ n
  ExprWithin n (False at) = at ≤ n
  ExprWithin n (Apply name args) = NameWithin n name × ExprsWithin n args
  ExprWithin n (Ite at c a b) = (at ≤ n) × ExprWithin n c × ExprWithin n a × ExprWithin n b
  ExprWithin n (Equal at a b) = (at ≤ n) × ExprWithin n a × ExprWithin n b
  ExprWithin n (Not at a) = (at ≤ n) × ExprWithin n a
  ExprWithin n (And at args) = (at ≤ n) × ExprsWithin n args
  ExprWithin n (Or at args) = (at ≤ n) × ExprsWithin n args
  ExprWithin n (Implies at a b) = (at ≤ n) × ExprWithin n a × ExprWithin n b
  ExprWithin n (Iff at a b) = (at ≤ n) × ExprWithin n a × ExprWithin n b
  ExprWithin n (Quantified q at b a) = (at ≤ n) × BinderWithin n b × ExprWithin n a

  pub ExprsWithin : ℕ → ExprTrees → Type 0
  ExprsWithin n no_expr = Unit {0}
  ExprsWithin n (and_expr e es) = ExprWithin n e × ExprsWithin n es
