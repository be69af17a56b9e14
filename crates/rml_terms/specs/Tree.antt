-- The trees of expressions. A node keeps its place: where its first token begins. Parentheses around an expression are
-- none of its tokens, those around its left operand are. A node that begins with a name keeps the name, which has its
-- place.
use Rattle.std.specs.Prelude.{ℕ, Bool, true, false, List, [], ◌∷◌, map, Option, Some, None}
use Rattle.rml_lex.specs.declared.token.Token.{Token}
use Rattle.rml_terms.specs.declared.tree.Name.{Name}
use Rattle.rml_terms.specs.declared.tree.Binder.{Binder}
use Rattle.rml_terms.specs.declared.tree.Quantifier.{Quantifier}
use Rattle.rml_terms.specs.declared.tree.Expr.{Expr}
use Rattle.rml_terms.specs.declared.tree.Expr.TheOpen as exprs
use Rattle.rml_terms.specs.declared.tree.Expr.TheFolds.{fold-Expr}

mutual
  pub data ExprTree : Type 0 where
    True : ℕ → ExprTree
    False : ℕ → ExprTree
    Apply : Name → ExprTrees → ExprTree
    Ite : ℕ → ExprTree → ExprTree → ExprTree → ExprTree
    Equal : ℕ → ExprTree → ExprTree → ExprTree
    Not : ℕ → ExprTree → ExprTree
    And : ℕ → ExprTrees → ExprTree
    Or : ℕ → ExprTrees → ExprTree
    Implies : ℕ → ExprTree → ExprTree → ExprTree
    Iff : ℕ → ExprTree → ExprTree → ExprTree
    Quantified : Quantifier → ℕ → Binder → ExprTree → ExprTree

  pub data ExprTrees : Type 0 where
    no_expr : ExprTrees
    and_expr : ExprTree → ExprTrees → ExprTrees

-- the expressions as a node keeps them
abbrev pub exprs_of : List ExprTree → ExprTrees
exprs_of [] = no_expr
exprs_of (e ∷ es) = and_expr e (exprs_of es)

-- ---- the nodes that productions make

-- a name is where its token stands in the text
abbrev pub name_of : Token → Name
name_of t = record { start = t.start; end = t.end }

-- the use of a name; a name alone has no arguments
abbrev pub applied : Name × List ExprTree → ExprTree
applied (name, args) = Apply name (exprs_of args)

-- an `ite`, at its word
abbrev pub conditional : Token × ((ExprTree × ExprTree) × ExprTree) → ExprTree
conditional (t, ((c, a), b)) = Ite t.start c a b

-- an equation, or with false its opposite; one side alone makes no node
abbrev pub compared : ℕ × (ExprTree × Option (Bool × ExprTree)) → ExprTree
compared (at, (left, None)) = left
compared (at, (left, Some (true, right))) = Equal at left right
compared (at, (left, Some (false, right))) = Not at (Equal at left right)

-- a negation, at its sign
abbrev pub negated : Token × ExprTree → ExprTree
negated (t, e) = Not t.start e

-- one operand alone makes no node
abbrev pub joined : (ℕ → ExprTrees → ExprTree) → ℕ × List ExprTree → ExprTree
joined node (at, []) = node at no_expr
joined node (at, one ∷ []) = one
joined node (at, one ∷ two ∷ more) = node at (exprs_of (one ∷ two ∷ more))

-- an implication; one side alone makes no node
abbrev pub implied : ℕ × (ExprTree × Option (Token × ExprTree)) → ExprTree
implied (at, (left, None)) = left
implied (at, (left, Some (arrow, right))) = Implies at left right

-- an equivalence; one side alone makes no node
abbrev pub equivalent : ℕ × (ExprTree × Option ExprTree) → ExprTree
equivalent (at, (left, None)) = left
equivalent (at, (left, Some right)) = Iff at left right

-- a name with the name of its sort
abbrev pub binder_of : Name × Name → Binder
binder_of (name, sort) = record { name = name; sort = sort }

-- the binders of one list are nested quantifiers, all at the place of the list's word
abbrev pub nested : Quantifier → ℕ → List Binder × ExprTree → ExprTree
nested q at ([], body) = body
nested q at (b ∷ more, body) = Quantified q at b (nested q at (more, body))

-- the quantifiers of one list over its body, all at the list's word
abbrev pub quantified : Quantifier → Token × (List Binder × ExprTree) → ExprTree
quantified q (t, bound) = nested q t.start bound

-- ---- the trees of the parser's values

-- one level, with the tree of each part in its place
abbrev pub expr_step : exprs.Expr-F ExprTree → ExprTree
expr_step (exprs.True at) = True at
expr_step (exprs.False at) = False at
expr_step (exprs.Apply name args) = Apply name (exprs_of args.items)
expr_step (exprs.Ite at c a b) = Ite at c.value a.value b.value
expr_step (exprs.Equal at a b) = Equal at a.value b.value
expr_step (exprs.Not at a) = Not at a.value
expr_step (exprs.And at args) = And at (exprs_of args.items)
expr_step (exprs.Or at args) = Or at (exprs_of args.items)
expr_step (exprs.Implies at a b) = Implies at a.value b.value
expr_step (exprs.Iff at a b) = Iff at a.value b.value
expr_step (exprs.Quantified q at b a) = Quantified q at b a.value

-- the tree that an expression of the parser stands for
abbrev pub expr_tree : Expr → ExprTree
expr_tree = fold-Expr ExprTree expr_step

abbrev pub expr_trees : List Expr → List ExprTree
expr_trees es = map expr_tree es
