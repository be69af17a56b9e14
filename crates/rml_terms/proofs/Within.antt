-- The names and nodes of a term stand where its tokens do.
use Rattle.std.proofs.Common.{ℕ, ◌≤◌, Bool, true, false, List, [], ◌∷◌, Option, Some, None}
use Rattle.std.specs.List.{AllByRecursion}
use Rattle.rml_lex.specs.declared.token.Token.{Token}
use Rattle.rml_phrases.specs.Carries.{Span}
use Rattle.rml_phrases.proofs.Walk.{OfToken, Both, Maybe, Each, Placed, Taken, all_of_each}
use Rattle.rml_phrases.proofs.Standing.{rules, start_within}
use Rattle.rml_terms.specs.declared.tree.Name.{Name}
use Rattle.rml_terms.specs.declared.tree.Binder.{Binder}
use Rattle.rml_terms.specs.declared.tree.Quantifier.{Quantifier}
use Rattle.rml_terms.specs.Tree as node
use Rattle.rml_terms.specs.Tree.{ExprTree, ExprTrees, exprs_of, compared, joined, implied, equivalent, nested}
use Rattle.rml_terms.specs.Within.{NameWithin, NamesWithin, BinderWithin, ExprWithin, ExprsWithin}
use Rattle.rml_terms.specs.Grammar.{level}
use Rattle.rml_terms.specs.Laws.{TermsStand}
use Rattle.rml_terms.proofs.Walk.{Trees, Deepens, name_walks, names_walk, parameters_walk, enclosed_walks}
use Rattle.rml_terms.proofs.Walk.{arguments_walk, expr_walks, level_walks}

module _ (n : ℕ) where
  -- ---- what holds of trees

  abbrev OfName : Span Name
  OfName lo hi x = NameWithin n x

  abbrev OfBinder : Span Binder
  OfBinder lo hi x = BinderWithin n x

  abbrev OfExpr : Span ExprTree
  OfExpr lo hi x = ExprWithin n x

  abbrev OfBound : Span (List Binder × ExprTree)
  OfBound lo hi x = AllByRecursion (BinderWithin n) x.0 × ExprWithin n x.1

  -- ---- lists

  exprs_within : (lo hi : ℕ) (es : List ExprTree) → Each (rules n) OfExpr lo hi es → ExprsWithin n (exprs_of es)
  exprs_within lo hi [] h = tt
  exprs_within lo hi (e ∷ es) h = (h.1, exprs_within h.0 hi es h.2)

  -- ---- nodes

  compared_within : (lo hi : ℕ) (x : ℕ × (ExprTree × Option (Bool × ExprTree)))
      → Placed (rules n) (Both (rules n) OfExpr (Maybe (rules n) (Both (rules n) (Taken (rules n)) OfExpr))) lo hi x
      → ExprWithin n (compared x)
  compared_within lo hi (at, (left, None)) h = h.1.1
  compared_within lo hi (at, (left, Some (true, right))) h = (h.0, h.1.1, h.1.2.2)
  compared_within lo hi (at, (left, Some (false, right))) h = (h.0, (h.0, h.1.1, h.1.2.2))

  joined_within : (make : ℕ → ExprTrees → ExprTree)
      → ((at : ℕ) (es : ExprTrees) → at ≤ n → ExprsWithin n es → ExprWithin n (make at es))
      → (lo hi : ℕ) (x : ℕ × List ExprTree)
      → Placed (rules n) (Each (rules n) OfExpr) lo hi x → ExprWithin n (joined make x)
  joined_within make so lo hi (at, []) h = so at node.no_expr h.0 tt
  joined_within make so lo hi (at, one ∷ []) h = h.1.1
  joined_within make so lo hi (at, one ∷ two ∷ others) h =
      so at (exprs_of (one ∷ two ∷ others)) h.0 (exprs_within at hi (one ∷ two ∷ others) h.1)

  implied_within : (lo hi : ℕ) (x : ℕ × (ExprTree × Option (Token × ExprTree)))
      → Placed (rules n) (Both (rules n) OfExpr (Maybe (rules n) (Both (rules n) (OfToken (rules n)) OfExpr))) lo hi x
      → ExprWithin n (implied x)
  implied_within lo hi (at, (left, None)) h = h.1.1
  implied_within lo hi (at, (left, Some (arrow, right))) h = (h.0, h.1.1, h.1.2.2)

  equivalent_within : (lo hi : ℕ) (x : ℕ × (ExprTree × Option ExprTree))
      → Placed (rules n) (Both (rules n) OfExpr (Maybe (rules n) OfExpr)) lo hi x → ExprWithin n (equivalent x)
  equivalent_within lo hi (at, (left, None)) h = h.1.1
  equivalent_within lo hi (at, (left, Some right)) h = (h.0, h.1.1, h.1.2)

  nested_within : (q : Quantifier) (at : ℕ) → at ≤ n → (bs : List Binder) (body : ExprTree)
      → AllByRecursion (BinderWithin n) bs → ExprWithin n body → ExprWithin n (nested q at (bs, body))
  nested_within q at le [] body h k = k
  nested_within q at le (b ∷ bs) body h k = (le, h.0, nested_within q at le bs body h.1 k)

  -- ---- the productions

  abbrev trees : Trees (rules n)
  trees = record {
    OfName = OfName;
    OfBinder = OfBinder;
    OfExpr = OfExpr;
    OfBound = OfBound;
    OfLonger = OfBound;
    name = λ lo hi t h. h.0;
    truth = λ lo hi t h. start_within n t h;
    falsity = λ lo hi t h. start_within n t h;
    application = λ lo hi x h. (h.1, exprs_within h.0 hi x.1 h.2);
    condition = λ lo hi x h. (start_within n x.0 h.1, h.2.1.1, h.2.1.2, h.2.2);
    comparison = compared_within;
    negation = λ lo hi x h. (start_within n x.0 h.1, h.2);
    conjunction = joined_within node.And (λ at es p q. (p, q));
    disjunction = joined_within node.Or (λ at es p q. (p, q));
    implication = implied_within;
    equivalence = equivalent_within;
    binder = λ lo hi x h. (h.1, h.2);
    body = λ lo hi e h. (tt, h);
    longer = λ lo hi x h. ((h.1, h.2.0), h.2.1);
    quantifier =
        λ q lo hi x h. nested_within q x.0.start (start_within n x.0 h.1) x.1.0 x.1.1 h.2.0 h.2.1;
  }

  same : Deepens (rules n) trees trees
  same = record {
    name = λ lo hi x h. h;
    expr = λ lo hi x h. h;
    bound = λ lo hi x h. h;
  }

  names_within : (lo hi : ℕ) (xs : List Name) → Each (rules n) OfName lo hi xs → NamesWithin n xs
  names_within lo hi xs h = all_of_each (rules n) (NameWithin n) lo hi xs h

  pub terms_stand : TermsStand n
  terms_stand =
      let inner = λ (m : ℕ). level_walks (rules n) (λ m. trees) (λ m. same) m in
      record {
        name = (name_walks (rules n) trees).holds;
        names = λ lo hi ts x h all. names_within lo hi x ((names_walk (rules n) trees).holds lo hi ts x h all);
        parameters =
            λ m lo hi ts x h all. names_within lo hi x
            ((parameters_walk (rules n) trees (level m) (inner m)).holds lo hi ts x h all);
        enclosed =
            λ m lo hi ts x h all. exprs_within lo hi x
            ((enclosed_walks (rules n) trees (level m) (inner m)).holds lo hi ts x h all);
        arguments =
            λ m lo hi ts x h all. exprs_within lo hi x
            ((arguments_walk (rules n) trees (level m) (inner m)).holds lo hi ts x h all);
        expr = λ m. (expr_walks (rules n) trees (level m) (inner m)).holds;
      }
