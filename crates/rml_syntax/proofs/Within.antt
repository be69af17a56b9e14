-- The names and nodes of a tree stand where its tokens do.
use Rattle.std.proofs.Common.{ℕ, List, [], ◌∷◌, Option, Some, None}
use Rattle.std.specs.List.{AllByRecursion}
use Rattle.rml_lex.specs.Tokens.{EndsBy}
use Rattle.rml_phrases.specs.Language.{Tokens}
use Rattle.rml_phrases.specs.Carries.{Span}
use Rattle.rml_phrases.proofs.Walk.{Maybe, Each, all_of_each, each_of_some}
use Rattle.rml_phrases.proofs.Standing.{rules, start_within}
use Rattle.rml_terms.specs.Tree.{ExprTree, exprs_of}
use Rattle.rml_terms.specs.Within.{NameWithin, NamesWithin, BinderWithin, ExprWithin, ExprsWithin}
use Rattle.rml_terms.specs.Laws.{TermsStand}
use Rattle.rml_syntax.specs.Tree.{CommandTree, FileTree, block_of, blocks_of}
use Rattle.rml_syntax.specs.Grammar.{file}
use Rattle.rml_syntax.specs.Within.{ValueWithin, CommandWithin, BlockWithin, BlocksWithin, ItemWithin, TreeWithin}
use Rattle.rml_syntax.proofs.Walk.{Trees, file_walks}

module _ (n : ℕ) where
  abbrev OfExpr : Span ExprTree
  OfExpr lo hi x = ExprWithin n x

  abbrev OfCommand : Span CommandTree
  OfCommand lo hi x = CommandWithin n x

  -- ---- lists

  block_within : (lo hi : ℕ) (cs : List CommandTree) → Each (rules n) OfCommand lo hi cs → BlockWithin n (block_of cs)
  block_within lo hi [] h = tt
  block_within lo hi (c ∷ cs) h = (h.1, block_within h.0 hi cs h.2)

  blocks_within : (lo hi : ℕ) (bs : List (List CommandTree)) → Each (rules n) (Each (rules n) OfCommand) lo hi bs
      → BlocksWithin n (blocks_of bs)
  blocks_within lo hi [] h = tt
  blocks_within lo hi (b ∷ bs) h = (block_within lo h.0 b h.1, blocks_within h.0 hi bs h.2)

  value_within : (lo hi : ℕ) (e : Option ExprTree) → Maybe (rules n) OfExpr lo hi e → ValueWithin n e
  value_within lo hi None h = tt
  value_within lo hi (Some e) h = h

  -- ---- the productions

  abbrev trees : Trees (rules n)
  trees = record {
    OfName = λ lo hi x. NameWithin n x;
    OfNames = λ lo hi xs. NamesWithin n xs;
    OfExpr = OfExpr;
    OfExprs = λ lo hi es. ExprsWithin n (exprs_of es);
    OfBinder = λ lo hi b. BinderWithin n b;
    OfCommand = OfCommand;
    OfItem = λ lo hi x. ItemWithin n x;
    no_names = λ lo hi h. tt;
    skip = λ lo hi t h. start_within n t h;
    abort = λ lo hi t h. start_within n t h;
    assumption = λ lo hi x h. (start_within n x.0 h.1, h.2);
    assertion = λ lo hi x h. (start_within n x.0 h.1, h.2);
    branching =
        λ lo hi x h. (
          start_within n x.0 h.1,
          h.2.1.1,
          block_within h.2.1.0 h.2.0 x.1.0.1 h.2.1.2,
          block_within h.2.0 hi x.1.1 h.2.2,
        );
    choosing =
        λ lo hi x h. (
          start_within n x.0 h.1,
          blocks_within h.0 hi x.1 (each_of_some (rules n) (Each (rules n) OfCommand) h.0 hi x.1 h.2),
        );
    insertion = λ lo hi x h. (start_within n x.0 h.1, h.2.1, h.2.2);
    removal = λ lo hi x h. (start_within n x.0 h.1, h.2.1, h.2.2);
    placement = λ lo hi x h. (start_within n x.0 h.1, h.2.1.1, h.2.1.2, h.2.2);
    assignment = λ lo hi x h. (h.1.1, h.1.2, value_within h.0 hi x.1 h.2);
    binder = λ lo hi x h. (h.1, h.2);
    plain_sort = λ lo hi x h. (h, tt);
    sort = λ lo hi x h. (h.1, h.2);
    relation = λ lo hi x h. (h.1, h.2);
    function = λ lo hi x h. (h.1.1, h.1.2, h.2);
    variable = λ lo hi x h. (h.1, h.2);
    premise = λ lo hi x h. (h.1, h.2);
    conjecture = λ lo hi x h. (h.1, h.2);
    first = λ lo hi x h. (start_within n x.0 h.1, all_of_each (rules n) (CommandWithin n) h.0 hi x.1 h.2);
    action = λ lo hi x h. (h.1, all_of_each (rules n) (CommandWithin n) h.0 hi x.1 h.2);
    last = λ lo hi x h. (start_within n x.0 h.1, all_of_each (rules n) (CommandWithin n) h.0 hi x.1 h.2);
    definition = λ lo hi x h. (h.1.1, all_of_each (rules n) (BinderWithin n) h.1.0 h.0 x.0.1 h.1.2, h.2);
  }

  pub tree_within : TermsStand n → (m : ℕ) (ts : Tokens) (tree : FileTree)
      → (file tree.format m).whole ts tree.items → AllByRecursion (EndsBy n) ts → TreeWithin n tree
  tree_within terms m ts tree h all =
      all_of_each (rules n) (ItemWithin n) 0 0 tree.items
      ((file_walks (rules n) (λ m. trees) (λ m. record {
        name = terms.name;
        names = terms.names;
        parameters = terms.parameters m;
        enclosed = terms.enclosed m;
        arguments = terms.arguments m;
        expr = terms.expr m;
      }) (λ m lo hi x h. h) tree.format m).holds 0 0 ts tree.items h all)
