-- A walk along the grammar, production by production: what holds of the tokens of a phrase holds of the value that they
-- spell. What is to hold of names, of expressions, of commands and of items is given by `Trees`, with one rule for each
-- production; that it holds of the terms is a premise. The walk itself is the same for all of them.
use Rattle.std.proofs.Common.{ℕ, zero, suc, List, [], ◌∷◌, Option, Some, None}
use Rattle.rml_lex.specs.declared.token.Token.{Token}
use Rattle.rml_phrases.specs.Language.{or_none}
use Rattle.rml_phrases.specs.Piece.{Piece}
use Rattle.rml_phrases.specs.Carries.{Span, Carries}
use Rattle.rml_phrases.proofs.Walk.{Rules, OfToken, Both, Maybe, Each, EachOfSome, Walks, terminal_walks, nothing_walks}
use Rattle.rml_phrases.proofs.Walk.{both_walks, made_walks, either_walks, optional_walks, many_walks, listed_walks}
use Rattle.rml_phrases.proofs.Walk.{behind_walks, after_walks, between_walks, some_walk, separated_walks}
use Rattle.rml_phrases.proofs.Walk.{or_none_walks, more, each_more}
use Rattle.rml_terms.specs.declared.tree.Name.{Name}
use Rattle.rml_terms.specs.declared.tree.Binder.{Binder}
use Rattle.rml_terms.specs.Tree.{ExprTree, binder_of}
use Rattle.rml_terms.specs.Grammar as terms
use Rattle.rml_terms.specs.Grammar.{name, names, parameters, enclosed, arguments, expr, binder}
use Rattle.rml_syntax.specs.Tree as node
use Rattle.rml_syntax.specs.Tree.{CommandTree, ItemTree, assumed, asserted, branched, choice, inserted, removed}
use Rattle.rml_syntax.specs.Tree.{putting, assigned}
use Rattle.rml_syntax.specs.Grammar as g
use Rattle.rml_syntax.specs.declared.tree.Format.{Format}
use Rattle.rml_syntax.specs.declared.tree.Format.TheVariants.{One, Two}
use Rattle.rml_syntax.specs.Grammar.{Inner, named, inside, binders_inside, level, file}

module _ (R : Rules) where
  pub record Trees : Type 1 where
    pub OfName : Span Name
    pub OfNames : Span (List Name)
    pub OfExpr : Span ExprTree
    pub OfExprs : Span (List ExprTree)
    pub OfBinder : Span Binder
    pub OfCommand : Span CommandTree
    pub OfItem : Span ItemTree
    pub no_names : (lo hi : ℕ) → R.OfTokens lo hi [] → OfNames lo hi []
    pub skip : (lo hi : ℕ) (t : Token) → (OfToken R) lo hi t → OfCommand lo hi (node.Skip t.start)
    pub abort : (lo hi : ℕ) (t : Token) → (OfToken R) lo hi t → OfCommand lo hi (node.Abort t.start)
    pub assumption : (lo hi : ℕ) (x : Token × ExprTree) → Both R (OfToken R) OfExpr lo hi x
        → OfCommand lo hi (assumed x)
    pub assertion : (lo hi : ℕ) (x : Token × ExprTree) → Both R (OfToken R) OfExpr lo hi x
        → OfCommand lo hi (asserted x)
    pub branching : (lo hi : ℕ) (x : Token × ((ExprTree × List CommandTree) × List CommandTree))
        → Both R (OfToken R) (Both R (Both R OfExpr (Each R OfCommand)) (Each R OfCommand)) lo hi x
        → OfCommand lo hi (branched x)
    pub choosing : (lo hi : ℕ) (x : Token × List (List CommandTree))
        → Both R (OfToken R) (EachOfSome R (Each R OfCommand)) lo hi x → OfCommand lo hi (choice x)
    pub insertion : (lo hi : ℕ) (x : Token × (Name × List ExprTree))
        → Both R (OfToken R) (Both R OfName OfExprs) lo hi x → OfCommand lo hi (inserted x)
    pub removal : (lo hi : ℕ) (x : Token × (Name × List ExprTree))
        → Both R (OfToken R) (Both R OfName OfExprs) lo hi x → OfCommand lo hi (removed x)
    pub placement : (lo hi : ℕ) (x : Token × ((Name × List ExprTree) × ExprTree))
        → Both R (OfToken R) (Both R (Both R OfName OfExprs) OfExpr) lo hi x → OfCommand lo hi (putting x)
    pub assignment : (lo hi : ℕ) (x : (Name × List Name) × Option ExprTree)
        → Both R (Both R OfName OfNames) (Maybe R OfExpr) lo hi x → OfCommand lo hi (assigned x)
    pub binder : (lo hi : ℕ) (x : Name × Name) → Both R OfName OfName lo hi x → OfBinder lo hi (binder_of x)
    pub plain_sort : (lo hi : ℕ) (n : Name) → OfName lo hi n → OfItem lo hi (node.Sort n [])
    pub sort : (lo hi : ℕ) (x : Name × List Name) → Both R OfName OfNames lo hi x → OfItem lo hi (node.Sort x.0 x.1)
    pub relation : (lo hi : ℕ) (x : Name × List Name) → Both R OfName OfNames lo hi x
        → OfItem lo hi (node.Relation x.0 x.1)
    pub function : (lo hi : ℕ) (x : (Name × List Name) × Name) → Both R (Both R OfName OfNames) OfName lo hi x
        → OfItem lo hi (node.Function x.0.0 x.0.1 x.1)
    pub variable : (lo hi : ℕ) (x : Name × Name) → Both R OfName OfName lo hi x → OfItem lo hi (node.Variable x.0 x.1)
    pub premise : (lo hi : ℕ) (x : Name × ExprTree) → Both R OfName OfExpr lo hi x → OfItem lo hi (node.Axiom x.0 x.1)
    pub conjecture : (lo hi : ℕ) (x : Name × ExprTree) → Both R OfName OfExpr lo hi x
        → OfItem lo hi (node.Conjecture x.0 x.1)
    pub first : (lo hi : ℕ) (x : Token × List CommandTree) → Both R (OfToken R) (Each R OfCommand) lo hi x
        → OfItem lo hi (node.Init x.0.start x.1)
    pub action : (lo hi : ℕ) (x : Name × List CommandTree) → Both R OfName (Each R OfCommand) lo hi x
        → OfItem lo hi (node.Action x.0 x.1)
    pub last : (lo hi : ℕ) (x : Token × List CommandTree) → Both R (OfToken R) (Each R OfCommand) lo hi x
        → OfItem lo hi (node.Final x.0.start x.1)
    pub definition : (lo hi : ℕ) (x : (Name × List Binder) × ExprTree)
        → Both R (Both R OfName (Each R OfBinder)) OfExpr lo hi x → OfItem lo hi (node.Define x.0.0 x.0.1 x.1)

  -- so it is of the terms at so many levels
  pub record OfLevel (T : Trees) (m : ℕ) : Type 0 where
    pub name : Carries R.OfTokens name T.OfName
    pub names : Carries R.OfTokens names T.OfNames
    pub parameters : Carries R.OfTokens (parameters (terms.level m)) T.OfNames
    pub enclosed : Carries R.OfTokens (enclosed (terms.level m)) T.OfExprs
    pub arguments : Carries R.OfTokens (arguments (terms.level m)) T.OfExprs
    pub expr : Carries R.OfTokens (expr (terms.level m)) T.OfExpr

  pub record InnerWalks (T : Trees) (I : Inner) : Type 0 where
    pub name : Walks R name T.OfName
    pub names : Walks R names T.OfNames
    pub parameters : Walks R (parameters I.terms) T.OfNames
    pub enclosed : Walks R (enclosed I.terms) T.OfExprs
    pub arguments : Walks R (arguments I.terms) T.OfExprs
    pub expr : Walks R (expr I.terms) T.OfExpr
    pub cmds : Walks R I.cmds (Each R T.OfCommand)
    pub inner_names : Walks R I.terms.names T.OfNames
    pub binders : Walks R I.binders (Each R T.OfBinder)

  module _ (T : Trees) (I : Inner) (d : InnerWalks T I) where
    named_walks : {A : Type 0} {a : Piece A} {V : Span A} → Walks R a V → Walks R (named a) (Both R T.OfName V)
    named_walks P = both_walks R d.name (after_walks R _ P)

    block_walks : Walks R (g.block I) (Each R T.OfCommand)
    block_walks = between_walks R _ _ d.cmds

    else_block_walks : Walks R (g.else_block I) (Each R T.OfCommand)
    else_block_walks = or_none_walks R (after_walks R _ block_walks)

    value_walks : Walks R (g.value I) (Maybe R T.OfExpr)
    value_walks =
        either_walks R (made_walks R {W = Maybe R T.OfExpr} (λ t. None) (λ lo hi t h. R.front lo hi [] (t ∷ []) h)
        (terminal_walks R _)) (made_walks R {W = Maybe R T.OfExpr} (λ e. Some e) (λ lo hi e h. h) d.expr)

    cmd_walks : Walks R (g.cmd I) T.OfCommand
    cmd_walks =
        either_walks R (made_walks R _ T.skip (terminal_walks R _))
        (either_walks R (made_walks R _ T.abort (terminal_walks R _))
        (either_walks R (made_walks R assumed T.assumption (both_walks R (terminal_walks R _) d.expr))
        (either_walks R (made_walks R asserted T.assertion (both_walks R (terminal_walks R _) d.expr))
        (either_walks R (made_walks R branched T.branching (both_walks R (terminal_walks R _)
        (both_walks R (both_walks R d.expr block_walks) else_block_walks)))
        (either_walks R (made_walks R choice T.choosing (both_walks R (terminal_walks R _) (some_walk R _ block_walks)))
        (either_walks R (made_walks R inserted T.insertion (both_walks R (terminal_walks R _)
        (both_walks R d.name d.arguments)))
        (either_walks R (made_walks R removed T.removal (both_walks R (terminal_walks R _)
        (both_walks R d.name d.arguments)))
        (either_walks R (made_walks R putting T.placement (both_walks R (terminal_walks R _)
        (both_walks R (both_walks R d.name d.enclosed) (after_walks R _ d.expr))))
        (made_walks R assigned T.assignment (both_walks R (both_walks R d.name d.parameters)
        (after_walks R _ value_walks)))))))))))

    pub cmds_walk : Walks R (g.cmds I) (Each R T.OfCommand)
    cmds_walk = listed_walks R _ cmd_walks

    plain_walks : Walks R (g.plain_item I) T.OfItem
    plain_walks =
        either_walks R (made_walks R _ T.relation (after_walks R _ (both_walks R d.name d.parameters)))
        (either_walks R (made_walks R _ T.function (after_walks R _
        (both_walks R (named_walks d.names) (after_walks R _ d.name))))
        (either_walks R (made_walks R _ T.variable (after_walks R _ (named_walks d.name)))
        (either_walks R (made_walks R _ T.premise (after_walks R _ (named_walks d.expr)))
        (either_walks R (made_walks R _ T.conjecture (after_walks R _ (named_walks d.expr)))
        (either_walks R (made_walks R _ T.first (both_walks R (terminal_walks R _) block_walks))
        (either_walks R (made_walks R _ T.action (after_walks R _ (both_walks R d.name block_walks)))
        (made_walks R _ T.last (both_walks R (terminal_walks R _) block_walks))))))))

    definition_walks : Walks R (g.definition I) T.OfItem
    definition_walks =
        made_walks R _ T.definition (after_walks R _ (both_walks R
        (both_walks R d.name (or_none_walks R (between_walks R _ _ d.binders))) (after_walks R _ d.expr)))

    elements_walk : Walks R (g.elements I) T.OfNames
    elements_walk =
        made_walks R {W = T.OfNames} or_none each (optional_walks R
        (after_walks R _ (between_walks R _ _ d.inner_names)))
      where
        each : (lo hi : ℕ) (x : Option (List Name)) → Maybe R T.OfNames lo hi x → T.OfNames lo hi (or_none x)
        each lo hi None h = T.no_names lo hi h
        each lo hi (Some ns) h = h

    item_walks : (f : Format) → Walks R (g.item f I) T.OfItem
    item_walks One = either_walks R (made_walks R _ T.plain_sort (after_walks R _ d.name)) plain_walks
    item_walks Two =
        either_walks R (made_walks R _ T.sort (after_walks R _ (both_walks R d.name elements_walk)))
        (either_walks R definition_walks plain_walks)

    pub items_walk : (f : Format) → Walks R (g.items f I) (Each R T.OfItem)
    items_walk f =
        either_walks R (made_walks R {W = Each R T.OfItem} (λ x. x.1) (λ lo hi x h. h)
        (after_walks R _ (behind_walks R (many_walks R (item_walks f))))) (many_walks R (item_walks f))

  -- ---- every level

  module _ (T : ℕ → Trees) (of_terms : (m : ℕ) → OfLevel (T m) m)
      (deepens : (m lo hi : ℕ) (x : CommandTree) → (T m).OfCommand lo hi x → (T (suc m)).OfCommand lo hi x) where
    names_walk : (m : ℕ) → Walks R (terms.level m).names (T m).OfNames
    names_walk zero = nothing_walks R _
    names_walk (suc m) = record { holds = (of_terms (suc m)).names }

    binders_walk : (m : ℕ) → Walks R (binders_inside m) (Each R (T m).OfBinder)
    binders_walk zero = nothing_walks R _
    binders_walk (suc m) =
        let word : Walks R name (T (suc m)).OfName = record { holds = (of_terms (suc m)).name } in
        separated_walks R _ (made_walks R binder_of (T (suc m)).binder (both_walks R word (after_walks R _ word)))

    with_inside : (m : ℕ) → Walks R (inside m) (Each R (T m).OfCommand) → InnerWalks (T m) (level m)
    with_inside m h =
        let t = of_terms m in
        record {
          name = record { holds = t.name };
          names = record { holds = t.names };
          parameters = record { holds = t.parameters };
          enclosed = record { holds = t.enclosed };
          arguments = record { holds = t.arguments };
          expr = record { holds = t.expr };
          cmds = h;
          inner_names = names_walk m;
          binders = binders_walk m;
        }

    in_block : (m : ℕ) → Walks R (inside m) (Each R (T m).OfCommand)
    in_block zero = nothing_walks R _
    in_block (suc m) =
        more R (each_more R (T m).OfCommand (T (suc m)).OfCommand (deepens m))
        (cmds_walk (T m) (level m) (with_inside m (in_block m)))

    pub file_walks : (f : Format) (m : ℕ) → Walks R (file f m) (Each R (T m).OfItem)
    file_walks f m = items_walk (T m) (level m) (with_inside m (in_block m)) f
