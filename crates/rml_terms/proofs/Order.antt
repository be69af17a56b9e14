-- The places of a term ascend as those of its tokens do.
use Rattle.std.proofs.Common.{ℕ, ◌≤◌, Bool, true, false, List, [], ◌∷◌, ◌++◌, Option, Some, None, arith}
use Rattle.rml_lex.specs.declared.token.Token.{Token}
use Rattle.rml_phrases.specs.Carries.{Span}
use Rattle.rml_phrases.specs.Ascending.{AscendBetween}
use Rattle.rml_phrases.proofs.Walk.{OfToken, Both, Maybe, Each, Placed, Taken}
use Rattle.rml_phrases.proofs.Ascending.{in_order, earlier, behind, later, join, lead, pair, rules}
use Rattle.rml_terms.specs.declared.tree.Name.{Name}
use Rattle.rml_terms.specs.declared.tree.Binder.{Binder}
use Rattle.rml_terms.specs.declared.tree.Quantifier.{Quantifier}
use Rattle.rml_terms.specs.Tree as node
use Rattle.rml_terms.specs.Tree.{ExprTree, ExprTrees, exprs_of, compared, joined, implied, equivalent, nested}
use Rattle.rml_terms.specs.Places.{name_places, places_in, places_of_exprs, places_of_expr}
use Rattle.rml_terms.specs.Grammar.{level}
use Rattle.rml_terms.specs.Laws.{TermsAscend}
use Rattle.rml_terms.proofs.Walk.{Trees, Deepens, name_walks, names_walk, parameters_walk, enclosed_walks}
use Rattle.rml_terms.proofs.Walk.{arguments_walk, expr_walks, level_walks}

-- ---- what holds of trees

abbrev OfName : Span Name
OfName lo hi n = AscendBetween lo hi (n.start ∷ [])

abbrev OfBinder : Span Binder
OfBinder lo hi b = AscendBetween lo hi (b.name.start ∷ b.sort.start ∷ [])

abbrev OfExpr : Span ExprTree
OfExpr lo hi e = AscendBetween lo hi (places_of_expr e)

-- the binders of a list with their body, behind the word before the list, and as the body of another
abbrev OfBound : Span (List Binder × ExprTree)
OfBound lo hi x = (q : Quantifier) (at : ℕ) → at ≤ lo → AscendBetween at hi (places_in false (nested q at x))
    × AscendBetween lo hi (places_in true (nested q at x))

-- ---- lists

names_ascend : (lo hi : ℕ) (ns : List Name) → Each rules OfName lo hi ns → AscendBetween lo hi (name_places ns)
names_ascend lo hi [] h = h
names_ascend lo hi (n ∷ ns) h = (h.1.0, earlier n.start h.0 hi (name_places ns) h.1.1 (names_ascend h.0 hi ns h.2))

exprs_ascend : (lo hi : ℕ) (es : List ExprTree) → Each rules OfExpr lo hi es
    → AscendBetween lo hi (places_of_exprs (exprs_of es))
exprs_ascend lo hi [] h = h
exprs_ascend lo hi (e ∷ es) h = join lo h.0 hi _ _ h.1 (exprs_ascend h.0 hi es h.2)

-- ---- nodes

compared_ascends : (lo hi : ℕ) (x : ℕ × (ExprTree × Option (Bool × ExprTree)))
    → Placed rules (Both rules OfExpr (Maybe rules (Both rules (Taken rules) OfExpr))) lo hi x
    → OfExpr lo hi (compared x)
compared_ascends lo hi (at, (left, None)) h = earlier lo at hi _ h.0 (later at h.1.0 hi _ h.1.1 h.1.2)
compared_ascends lo hi (at, (left, Some (true, right))) h =
    (h.0, pair at h.1.0 h.1.2.0 hi h.1.2.1.0.start _ _ h.1.1 h.1.2.1.1 h.1.2.2)
compared_ascends lo hi (at, (left, Some (false, right))) h =
    (h.0, (omega arith, pair at h.1.0 h.1.2.0 hi h.1.2.1.0.start _ _ h.1.1 h.1.2.1.1 h.1.2.2))

joined_ascends : (make : ℕ → ExprTrees → ExprTree)
    → ((lo hi at : ℕ) (es : ExprTrees) → AscendBetween lo hi (at ∷ places_of_exprs es) → OfExpr lo hi (make at es))
    → (lo hi : ℕ) (x : ℕ × List ExprTree) → Placed rules (Each rules OfExpr) lo hi x → OfExpr lo hi (joined make x)
joined_ascends make so lo hi (at, []) h = so lo hi at node.no_expr h
joined_ascends make so lo hi (at, one ∷ []) h = earlier lo at hi _ h.0 (later at h.1.0 hi _ h.1.1 h.1.2)
joined_ascends make so lo hi (at, one ∷ two ∷ others) h =
    so lo hi at (exprs_of (one ∷ two ∷ others)) (h.0, exprs_ascend at hi (one ∷ two ∷ others) h.1)

implied_ascends : (lo hi : ℕ) (x : ℕ × (ExprTree × Option (Token × ExprTree)))
    → Placed rules (Both rules OfExpr (Maybe rules (Both rules (OfToken rules) OfExpr))) lo hi x
    → OfExpr lo hi (implied x)
implied_ascends lo hi (at, (left, None)) h = earlier lo at hi _ h.0 (later at h.1.0 hi _ h.1.1 h.1.2)
implied_ascends lo hi (at, (left, Some (arrow, right))) h =
    (h.0, pair at h.1.0 h.1.2.0 hi arrow.start _ _ h.1.1 h.1.2.1 h.1.2.2)

equivalent_ascends : (lo hi : ℕ) (x : ℕ × (ExprTree × Option ExprTree))
    → Placed rules (Both rules OfExpr (Maybe rules OfExpr)) lo hi x → OfExpr lo hi (equivalent x)
equivalent_ascends lo hi (at, (left, None)) h = earlier lo at hi _ h.0 (later at h.1.0 hi _ h.1.1 h.1.2)
equivalent_ascends lo hi (at, (left, Some right)) h = (h.0, join at h.1.0 hi _ _ h.1.1 h.1.2)

-- without the word before its binders, a quantifier has one place less
bare : (lo hi : ℕ) (e : ExprTree) → AscendBetween lo hi (places_in false e) → AscendBetween lo hi (places_in true e)
bare lo hi (node.True at) h = h
bare lo hi (node.False at) h = h
bare lo hi (node.Apply name args) h = h
bare lo hi (node.Ite at c a b) h = h
bare lo hi (node.Equal at a b) h = h
bare lo hi (node.Not at a) h = h
bare lo hi (node.And at args) h = h
bare lo hi (node.Or at args) h = h
bare lo hi (node.Implies at a b) h = h
bare lo hi (node.Iff at a b) h = h
bare lo hi (node.Quantified q at b a) h =
    behind lo hi at (b.name.start ∷ b.sort.start ∷ places_in true a) h

longer_ascends : (lo hi : ℕ) (x : Binder × (List Binder × ExprTree)) → Both rules OfBinder OfBound lo hi x
    → OfBound lo hi (x.0 ∷ x.1.0, x.1.1)
longer_ascends lo hi x h q at le =
    let binder : List ℕ = x.0.name.start ∷ x.0.sort.start ∷ [] in
    let others : List ℕ = places_in true (nested q at x.1) in
    let inside : lo ≤ h.0 = in_order lo h.0 binder h.1 in
    let whole : AscendBetween lo hi (binder ++ others) =
    join lo h.0 hi binder others h.1 (h.2 q at (omega (arith, le, inside))).1 in
    ((omega arith, earlier at lo hi (binder ++ others) le whole), whole)

-- ---- the productions

abbrev trees : Trees rules
trees = record {
  OfName = OfName;
  OfBinder = OfBinder;
  OfExpr = OfExpr;
  OfBound = OfBound;
  OfLonger = OfBound;
  name = λ lo hi t h. h;
  truth = λ lo hi t h. h;
  falsity = λ lo hi t h. h;
  application = λ lo hi x h. lead lo h.0 hi x.0.start _ h.1 (exprs_ascend h.0 hi x.1 h.2);
  condition =
      λ lo hi x h. lead lo h.0 hi x.0.start _ h.1
      (join h.0 h.2.1.0 hi _ _ h.2.1.1 (join h.2.1.0 h.2.0 hi _ _ h.2.1.2 h.2.2));
  comparison = compared_ascends;
  negation = λ lo hi x h. lead lo h.0 hi x.0.start _ h.1 h.2;
  conjunction = joined_ascends node.And (λ lo hi at es h. h);
  disjunction = joined_ascends node.Or (λ lo hi at es h. h);
  implication = implied_ascends;
  equivalence = equivalent_ascends;
  binder = λ lo hi x h. join lo h.0 hi (x.0.start ∷ []) (x.1.start ∷ []) h.1 h.2;
  body = λ lo hi e h q at le. (earlier at lo hi _ le h, bare lo hi e h);
  longer = longer_ascends;
  quantifier = λ q lo hi x h. earlier lo x.0.start hi _ h.1.0 (h.2 q x.0.start h.1.1).0;
}

same : Deepens rules trees trees
same = record {
  name = λ lo hi x h. h;
  expr = λ lo hi x h. h;
  bound = λ lo hi x h. h;
}

pub terms_ascend : TermsAscend
terms_ascend =
    let inner = λ (m : ℕ). level_walks rules (λ m. trees) (λ m. same) m in
    record {
      name = (name_walks rules trees).holds;
      names = λ lo hi ts x h all. names_ascend lo hi x ((names_walk rules trees).holds lo hi ts x h all);
      parameters =
          λ m lo hi ts x h all. names_ascend lo hi x
          ((parameters_walk rules trees (level m) (inner m)).holds lo hi ts x h all);
      enclosed =
          λ m lo hi ts x h all. exprs_ascend lo hi x
          ((enclosed_walks rules trees (level m) (inner m)).holds lo hi ts x h all);
      arguments =
          λ m lo hi ts x h all. exprs_ascend lo hi x
          ((arguments_walk rules trees (level m) (inner m)).holds lo hi ts x h all);
      expr = λ m. (expr_walks rules trees (level m) (inner m)).holds;
    }
