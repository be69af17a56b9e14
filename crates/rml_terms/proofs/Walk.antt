-- A walk along the grammar, production by production: what holds of the tokens of a term holds of the value that they
-- spell. What is to hold of names and of expressions is given by `Trees`, with one rule for each production. The walk
-- itself is the same for all of them.
use Rattle.std.proofs.Common.{ℕ, zero, suc, Bool, List, [], ◌∷◌, Option}
use Rattle.rml_lex.specs.declared.token.Token.{Token}
use Rattle.rml_lex.specs.declared.token.Kind.{Kind}
use Rattle.rml_lex.specs.declared.token.Kind.TheVariants.{Sign}
use Rattle.rml_lex.specs.declared.token.Kind.TheVariants as kind
use Rattle.rml_lex.specs.declared.token.Sign.TheVariants.{OpenParen, CloseParen, Not as Tilde}
use Rattle.rml_phrases.specs.Piece.{opens, ◌⇒◌, between}
use Rattle.rml_phrases.specs.Carries.{Span}
use Rattle.rml_phrases.proofs.Walk.{IsFilled, terminal_filled, opens_filled, both_filled, made_filled, either_filled}
use Rattle.rml_phrases.proofs.Walk.{placed_filled, between_filled, separated_filled, Rules}
use Rattle.rml_phrases.proofs.Walk.{OfToken, Both, Maybe, Each, Placed, Three, Walks, Taken, terminal_walks}
use Rattle.rml_phrases.proofs.Walk.{nothing_walks, both_walks, opens_walks, made_walks, either_walks, optional_walks}
use Rattle.rml_phrases.proofs.Walk.{placed_walks, inside_walks, after_walks, between_walks, separated_walks}
use Rattle.rml_phrases.proofs.Walk.{or_none_walks, more, each_more}
use Rattle.rml_terms.specs.declared.tree.Name.{Name}
use Rattle.rml_terms.specs.declared.tree.Binder.{Binder}
use Rattle.rml_terms.specs.declared.tree.Quantifier.{Quantifier}
use Rattle.rml_terms.specs.Tree as node
use Rattle.rml_terms.specs.Tree.{ExprTree, name_of, applied, conditional, compared, negated, joined, implied}
use Rattle.rml_terms.specs.Tree.{equivalent, binder_of, quantified}
use Rattle.rml_terms.specs.Grammar as g
use Rattle.rml_terms.specs.Grammar.{Inner, level}

-- ---- phrases that are not empty

prim_filled : (I : Inner) → IsFilled (g.prim I)
prim_filled I =
    either_filled (made_filled _ (terminal_filled _)) (either_filled (made_filled _ (terminal_filled _))
    (either_filled (made_filled _ (both_filled (g.arguments I) (made_filled _ (terminal_filled _))))
    (either_filled (made_filled _ (both_filled (between (Sign OpenParen) I.three (Sign CloseParen))
    (terminal_filled _))) (between_filled (Sign OpenParen) I.expr (Sign CloseParen)))))

unary_filled : (I : Inner) → IsFilled (g.unary I)
unary_filled I = either_filled (made_filled _ (opens_filled (Sign Tilde) I.unary))
    (made_filled _ (placed_filled (both_filled _ (prim_filled I))))

and_filled : (I : Inner) → IsFilled (g.and I)
and_filled I = made_filled _ (placed_filled (separated_filled _ (unary_filled I)))

or_filled : (I : Inner) → IsFilled (g.or I)
or_filled I = made_filled _ (placed_filled (separated_filled _ (and_filled I)))

imp_filled : (I : Inner) → IsFilled (g.imp I)
imp_filled I = made_filled _ (placed_filled (both_filled _ (or_filled I)))

-- ---- the productions

module _ (R : Rules) where
  pub record Trees : Type 1 where
    pub OfName : Span Name
    pub OfBinder : Span Binder
    pub OfExpr : Span ExprTree
    -- of the binders of a list with their body: those that are left, and one more
    pub OfBound : Span (List Binder × ExprTree)
    pub OfLonger : Span (List Binder × ExprTree)
    pub name : (lo hi : ℕ) (t : Token) → (OfToken R) lo hi t → OfName lo hi (name_of t)
    pub truth : (lo hi : ℕ) (t : Token) → (OfToken R) lo hi t → OfExpr lo hi (node.True t.start)
    pub falsity : (lo hi : ℕ) (t : Token) → (OfToken R) lo hi t → OfExpr lo hi (node.False t.start)
    pub application : (lo hi : ℕ) (x : Name × List ExprTree) → Both R OfName (Each R OfExpr) lo hi x
        → OfExpr lo hi (applied x)
    pub condition : (lo hi : ℕ) (x : Token × ((ExprTree × ExprTree) × ExprTree))
        → Both R (OfToken R) (Three R OfExpr) lo hi x → OfExpr lo hi (conditional x)
    pub comparison : (lo hi : ℕ) (x : ℕ × (ExprTree × Option (Bool × ExprTree)))
        → Placed R (Both R OfExpr (Maybe R (Both R (Taken R) OfExpr))) lo hi x → OfExpr lo hi (compared x)
    pub negation : (lo hi : ℕ) (x : Token × ExprTree) → Both R (OfToken R) OfExpr lo hi x → OfExpr lo hi (negated x)
    pub conjunction : (lo hi : ℕ) (x : ℕ × List ExprTree) → Placed R (Each R OfExpr) lo hi x
        → OfExpr lo hi (joined node.And x)
    pub disjunction : (lo hi : ℕ) (x : ℕ × List ExprTree) → Placed R (Each R OfExpr) lo hi x
        → OfExpr lo hi (joined node.Or x)
    pub implication : (lo hi : ℕ) (x : ℕ × (ExprTree × Option (Token × ExprTree)))
        → Placed R (Both R OfExpr (Maybe R (Both R (OfToken R) OfExpr))) lo hi x → OfExpr lo hi (implied x)
    pub equivalence : (lo hi : ℕ) (x : ℕ × (ExprTree × Option ExprTree))
        → Placed R (Both R OfExpr (Maybe R OfExpr)) lo hi x → OfExpr lo hi (equivalent x)
    pub binder : (lo hi : ℕ) (x : Name × Name) → Both R OfName OfName lo hi x → OfBinder lo hi (binder_of x)
    pub body : (lo hi : ℕ) (e : ExprTree) → OfExpr lo hi e → OfBound lo hi ([], e)
    pub longer : (lo hi : ℕ) (x : Binder × (List Binder × ExprTree)) → Both R OfBinder OfBound lo hi x
        → OfLonger lo hi (x.0 ∷ x.1.0, x.1.1)
    pub quantifier : (q : Quantifier) (lo hi : ℕ) (x : Token × (List Binder × ExprTree))
        → Both R (OfToken R) OfBound lo hi x → OfExpr lo hi (quantified q x)

  pub comparison_walks : Walks R g.comparison (Taken R {A = Bool})
  comparison_walks =
      either_walks R (made_walks R {W = Taken R {A = Bool}} _ (λ lo hi t h. (t, h)) (terminal_walks R _))
      (made_walks R {W = Taken R {A = Bool}} _ (λ lo hi t h. (t, h)) (terminal_walks R _))

  module _ (T : Trees) where
    pub name_walks : Walks R g.name T.OfName
    name_walks = made_walks R name_of T.name (terminal_walks R kind.Name)

    pub names_walk : Walks R g.names (Each R T.OfName)
    names_walk = separated_walks R _ name_walks

    binder_walks : Walks R g.binder T.OfBinder
    binder_walks = made_walks R binder_of T.binder (both_walks R name_walks (after_walks R _ name_walks))

    pub record InnerWalks (I : Inner) : Type 0 where
      pub expr : Walks R I.expr T.OfExpr
      pub three : Walks R I.three (Three R T.OfExpr)
      pub imp : Walks R I.imp T.OfExpr
      pub unary : Walks R I.unary T.OfExpr
      pub bound : Walks R I.bound T.OfBound
      pub names : Walks R I.names (Each R T.OfName)
      pub exprs : Walks R I.exprs (Each R T.OfExpr)

    pub no_inner_walks : InnerWalks g.no_inner
    no_inner_walks = record {
      expr = nothing_walks R _;
      three = nothing_walks R _;
      imp = nothing_walks R _;
      unary = nothing_walks R _;
      bound = nothing_walks R _;
      names = nothing_walks R _;
      exprs = nothing_walks R _;
    }

    module _ (I : Inner) (d : InnerWalks I) where
      pub parameters_walk : Walks R (g.parameters I) (Each R T.OfName)
      parameters_walk = or_none_walks R (between_walks R _ _ d.names)

      pub enclosed_walks : Walks R (g.enclosed I) (Each R T.OfExpr)
      enclosed_walks = between_walks R _ _ d.exprs

      pub arguments_walk : Walks R (g.arguments I) (Each R T.OfExpr)
      arguments_walk = or_none_walks R enclosed_walks

      prim_walks : Walks R (g.prim I) T.OfExpr
      prim_walks =
          either_walks R (made_walks R _ T.truth (terminal_walks R _))
          (either_walks R (made_walks R _ T.falsity (terminal_walks R _))
          (either_walks R (made_walks R applied T.application (both_walks R name_walks arguments_walk))
          (either_walks R (made_walks R conditional T.condition (both_walks R (terminal_walks R _)
          (between_walks R _ _ d.three))) (between_walks R _ _ d.expr))))

      cmp_walks : Walks R (g.cmp I) T.OfExpr
      cmp_walks =
          made_walks R compared T.comparison (placed_walks R (both_filled _ (prim_filled I))
          (both_walks R prim_walks (optional_walks R (both_walks R comparison_walks prim_walks))))

      pub unary_walks : Walks R (g.unary I) T.OfExpr
      unary_walks = either_walks R (made_walks R negated T.negation (opens_walks R _ d.unary)) cmp_walks

      and_walks : Walks R (g.and I) T.OfExpr
      and_walks = made_walks R (joined node.And) T.conjunction
          (placed_walks R (separated_filled _ (unary_filled I)) (separated_walks R _ unary_walks))

      or_walks : Walks R (g.or I) T.OfExpr
      or_walks = made_walks R (joined node.Or) T.disjunction
          (placed_walks R (separated_filled _ (and_filled I)) (separated_walks R _ and_walks))

      pub imp_walks : Walks R (g.imp I) T.OfExpr
      imp_walks =
          made_walks R implied T.implication (placed_walks R (both_filled _ (or_filled I))
          (both_walks R or_walks (optional_walks R (opens_walks R _ d.imp))))

      iff_walks : Walks R (g.iff I) T.OfExpr
      iff_walks =
          made_walks R equivalent T.equivalence (placed_walks R (both_filled _ (imp_filled I))
          (both_walks R imp_walks (optional_walks R (after_walks R _ imp_walks))))

      quantified_walks : (q : Quantifier) (k : Kind) → Walks R (opens k I.bound ⇒ quantified q) T.OfExpr
      quantified_walks q k = made_walks R (quantified q) (T.quantifier q) (opens_walks R k d.bound)

      pub expr_walks : Walks R (g.expr I) T.OfExpr
      expr_walks = either_walks R (quantified_walks _ _) (either_walks R (quantified_walks _ _) iff_walks)

      pub bound_walks : Walks R (g.bound I) T.OfLonger
      bound_walks =
          made_walks R {W = T.OfLonger} (λ x. (x.0 ∷ x.1.0, x.1.1)) T.longer (both_walks R binder_walks
          (either_walks R (made_walks R {W = T.OfBound} (λ body. ([], body)) T.body (after_walks R _ expr_walks))
          (made_walks R {W = T.OfBound} (λ x. x.1) (λ lo hi x h. h) (inside_walks R _ d.bound))))

      pub exprs_walk : Walks R (g.exprs I) (Each R T.OfExpr)
      exprs_walk = separated_walks R _ expr_walks

      pub three_walk : Walks R (g.three I) (Three R T.OfExpr)
      three_walk = both_walks R (both_walks R expr_walks (after_walks R _ expr_walks)) (after_walks R _ expr_walks)

  -- ---- every level

  -- what holds inside one token more that opens a level
  pub record Deepens (T U : Trees) : Type 0 where
    pub name : (lo hi : ℕ) (x : Name) → T.OfName lo hi x → U.OfName lo hi x
    pub expr : (lo hi : ℕ) (x : ExprTree) → T.OfExpr lo hi x → U.OfExpr lo hi x
    pub bound : (lo hi : ℕ) (x : List Binder × ExprTree) → T.OfLonger lo hi x → U.OfBound lo hi x

  module _ (T : ℕ → Trees) (G : (m : ℕ) → Deepens (T m) (T (suc m))) where
    pub level_walks : (m : ℕ) → InnerWalks (T m) (level m)
    level_walks zero = no_inner_walks (T 0)
    level_walks (suc m) =
        let d = level_walks m in
        let g = G m in
        record {
          expr = more R g.expr (expr_walks (T m) (level m) d);
          three = more R (λ lo hi x h.
              (h.0, (h.1.0, g.expr lo h.1.0 x.0.0 h.1.1, g.expr h.1.0 h.0 x.0.1 h.1.2), g.expr h.0 hi x.1 h.2))
              (three_walk (T m) (level m) d);
          imp = more R g.expr (imp_walks (T m) (level m) d);
          unary = more R g.expr (unary_walks (T m) (level m) d);
          bound = more R g.bound (bound_walks (T m) (level m) d);
          names = more R (each_more R (T m).OfName (T (suc m)).OfName g.name) (names_walk (T m));
          exprs = more R (each_more R (T m).OfExpr (T (suc m)).OfExpr g.expr) (exprs_walk (T m) (level m) d);
        }
