-- A term's binders nest no deeper than its levels.
use Rattle.std.proofs.Common.{ℕ, zero, suc, Bool, true, false, List, [], ◌∷◌, Option, Some, None}
use Rattle.rml_lex.specs.declared.token.Token.{Token}
use Rattle.rml_phrases.specs.Carries.{Span}
use Rattle.rml_phrases.proofs.Walk.{OfToken, Both, Maybe, Each, Placed, Taken, no_rules}
use Rattle.rml_terms.specs.declared.tree.Name.{Name}
use Rattle.rml_terms.specs.declared.tree.Binder.{Binder}
use Rattle.rml_terms.specs.declared.tree.Quantifier.{Quantifier}
use Rattle.rml_terms.specs.Tree as node
use Rattle.rml_terms.specs.Tree.{ExprTree, ExprTrees, True, False, Apply, Ite, Equal, Not, And, Or, Implies, Iff}
use Rattle.rml_terms.specs.Tree.{Quantified, no_expr, and_expr, exprs_of, compared, joined, implied, equivalent, nested}
use Rattle.rml_terms.specs.Shape.{ExprNests, ExprsNest}
use Rattle.rml_terms.specs.Grammar.{level}
use Rattle.rml_terms.specs.Laws.{TermsNest}
use Rattle.rml_terms.proofs.Walk.{Trees, Deepens, enclosed_walks}
use Rattle.rml_terms.proofs.Walk.{arguments_walk, expr_walks, level_walks}

-- ---- what nests so deep nests one deeper

mutual
  pub expr_more : (n : ℕ) (e : ExprTree) → ExprNests n e → ExprNests (suc n) e
  expr_more n (True at) h = tt
  expr_more n (False at) h = tt
  expr_more n (Apply name args) h = exprs_more n args h
  expr_more n (Ite at c a b) h = (expr_more n c h.0, expr_more n a h.1, expr_more n b h.2)
  expr_more n (Equal at a b) h = (expr_more n a h.0, expr_more n b h.1)
  expr_more n (Not at a) h = expr_more n a h
  expr_more n (And at args) h = exprs_more n args h
  expr_more n (Or at args) h = exprs_more n args h
  expr_more n (Implies at a b) h = (expr_more n a h.0, expr_more n b h.1)
  expr_more n (Iff at a b) h = (expr_more n a h.0, expr_more n b h.1)
  expr_more zero (Quantified q at b a) h = absurd h
  expr_more (suc n) (Quantified q at b a) h = expr_more n a h

  pub exprs_more : (n : ℕ) (es : ExprTrees) → ExprsNest n es → ExprsNest (suc n) es
  exprs_more n no_expr h = tt
  exprs_more n (and_expr e es) h = (expr_more n e h.0, exprs_more n es h.1)

-- ---- what holds of trees

abbrev OfName : Span Name
OfName lo hi x = Unit {0}

abbrev OfBinder : Span Binder
OfBinder lo hi x = Unit {0}

abbrev OfExpr : ℕ → Span ExprTree
OfExpr n lo hi x = ExprNests n x

-- the binders of a list, and those of the body, nest at most n deep
abbrev BoundNests : ℕ → List Binder → ExprTree → Type 0
BoundNests n [] body = ExprNests n body
BoundNests zero (b ∷ bs) body = ⊥
BoundNests (suc n) (b ∷ bs) body = BoundNests n bs body

abbrev OfBound : ℕ → Span (List Binder × ExprTree)
OfBound n lo hi x = BoundNests n x.0 x.1

-- ---- lists

exprs_nest : (n lo hi : ℕ) (es : List ExprTree) → Each no_rules (OfExpr n) lo hi es → ExprsNest n (exprs_of es)
exprs_nest n lo hi [] h = tt
exprs_nest n lo hi (e ∷ es) h = (h.1, exprs_nest n h.0 hi es h.2)

-- ---- nodes

compared_nests : (n lo hi : ℕ) (x : ℕ × (ExprTree × Option (Bool × ExprTree)))
    → Placed no_rules (Both no_rules (OfExpr n) (Maybe no_rules (Both no_rules (Taken no_rules) (OfExpr n)))) lo hi x
    → ExprNests n (compared x)
compared_nests n lo hi (at, (left, None)) h = h.1.1
compared_nests n lo hi (at, (left, Some (true, right))) h = (h.1.1, h.1.2.2)
compared_nests n lo hi (at, (left, Some (false, right))) h = (h.1.1, h.1.2.2)

joined_nests : (n : ℕ) (make : ℕ → ExprTrees → ExprTree)
    → ((at : ℕ) (es : ExprTrees) → ExprsNest n es → ExprNests n (make at es)) → (lo hi : ℕ) (x : ℕ × List ExprTree)
    → Placed no_rules (Each no_rules (OfExpr n)) lo hi x → ExprNests n (joined make x)
joined_nests n make so lo hi (at, []) h = so at no_expr tt
joined_nests n make so lo hi (at, one ∷ []) h = h.1.1
joined_nests n make so lo hi (at, one ∷ two ∷ others) h =
    so at (exprs_of (one ∷ two ∷ others)) (exprs_nest n at hi (one ∷ two ∷ others) h.1)

implied_nests : (n lo hi : ℕ) (x : ℕ × (ExprTree × Option (Token × ExprTree)))
    → Placed no_rules (Both no_rules (OfExpr n) (Maybe no_rules (Both no_rules (OfToken no_rules) (OfExpr n)))) lo hi x
    → ExprNests n (implied x)
implied_nests n lo hi (at, (left, None)) h = h.1.1
implied_nests n lo hi (at, (left, Some (arrow, right))) h = (h.1.1, h.1.2.2)

equivalent_nests : (n lo hi : ℕ) (x : ℕ × (ExprTree × Option ExprTree))
    → Placed no_rules (Both no_rules (OfExpr n) (Maybe no_rules (OfExpr n))) lo hi x → ExprNests n (equivalent x)
equivalent_nests n lo hi (at, (left, None)) h = h.1.1
equivalent_nests n lo hi (at, (left, Some right)) h = (h.1.1, h.1.2)

nested_nests : (n : ℕ) (q : Quantifier) (at : ℕ) (bs : List Binder) (body : ExprTree) → BoundNests n bs body
    → ExprNests n (nested q at (bs, body))
nested_nests n q at [] body h = h
nested_nests zero q at (b ∷ bs) body h = absurd h
nested_nests (suc n) q at (b ∷ bs) body h = nested_nests n q at bs body h

-- ---- the productions, where at most n levels are open

abbrev trees : ℕ → Trees no_rules
trees n = record {
  OfName = OfName;
  OfBinder = OfBinder;
  OfExpr = OfExpr n;
  OfBound = OfBound n;
  OfLonger = OfBound (suc n);
  name = λ lo hi t h. tt;
  truth = λ lo hi t h. tt;
  falsity = λ lo hi t h. tt;
  application = λ lo hi x h. exprs_nest n h.0 hi x.1 h.2;
  condition = λ lo hi x h. (h.2.1.1, h.2.1.2, h.2.2);
  comparison = compared_nests n;
  negation = λ lo hi x h. h.2;
  conjunction = joined_nests n node.And (λ at es p. p);
  disjunction = joined_nests n node.Or (λ at es p. p);
  implication = implied_nests n;
  equivalence = equivalent_nests n;
  binder = λ lo hi x h. tt;
  body = λ lo hi e h. h;
  longer = λ lo hi x h. h.2;
  quantifier = λ q lo hi x h. nested_nests n q x.0.start x.1.0 x.1.1 h.2;
}

deeper : (n : ℕ) → Deepens no_rules (trees n) (trees (suc n))
deeper n = record {
  name = λ lo hi x h. tt;
  expr = λ lo hi x h. expr_more n x h;
  bound = λ lo hi x h. h;
}

pub terms_nest : TermsNest
terms_nest =
    let inner = λ (m : ℕ). level_walks no_rules trees deeper m in
    record {
      name = λ lo hi ts x h all. tt;
      names = λ lo hi ts x h all. tt;
      parameters = λ m lo hi ts x h all. tt;
      enclosed =
          λ m lo hi ts x h all. exprs_nest m lo hi x
          ((enclosed_walks no_rules (trees m) (level m) (inner m)).holds lo hi ts x h all);
      arguments =
          λ m lo hi ts x h all. exprs_nest m lo hi x
          ((arguments_walk no_rules (trees m) (level m) (inner m)).holds lo hi ts x h all);
      expr = λ m. (expr_walks no_rules (trees m) (level m) (inner m)).holds;
    }
