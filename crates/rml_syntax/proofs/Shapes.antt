-- A tree's binders nest no deeper than its levels, and each choice has a branch.
use Rattle.std.proofs.Common.{ℕ, suc, List, [], ◌∷◌, Option, Some, None}
use Rattle.rml_lex.specs.declared.token.Token.{Token}
use Rattle.rml_phrases.specs.Language.{Tokens}
use Rattle.rml_phrases.specs.Carries.{Span}
use Rattle.rml_phrases.proofs.Walk.{Maybe, Each, EachOfSome, all_of_each, no_rules}
use Rattle.rml_terms.specs.Tree.{ExprTree, ExprTrees, exprs_of}
use Rattle.rml_terms.specs.Shape.{ExprNests, ExprsNest, max_nesting}
use Rattle.rml_terms.specs.Laws.{TermsNest}
use Rattle.rml_syntax.specs.Tree.{CommandTree, Block, Blocks, Skip, Abort, Assume, Assert, If, Choose, Insert, Remove}
use Rattle.rml_syntax.specs.Tree.{Put, Assign, no_command, and_command, no_block, and_block, FileTree, block_of}
use Rattle.rml_syntax.specs.Tree.{blocks_of, choice}
use Rattle.rml_syntax.specs.Grammar.{file, max_levels}
use Rattle.rml_syntax.specs.Shape.{SideNests, CommandNests, BlockNests, BlocksNest, ItemNests, IsShaped}
use Rattle.rml_syntax.proofs.Walk.{Trees, file_walks}

-- ---- what nests so deep nests one deeper

module _ (expr_more : (n : ℕ) (e : ExprTree) → ExprNests n e → ExprNests (suc n) e)
    (exprs_more : (n : ℕ) (es : ExprTrees) → ExprsNest n es → ExprsNest (suc n) es) where
  side_more : (n : ℕ) (e : Option ExprTree) → SideNests n e → SideNests (suc n) e
  side_more n None h = tt
  side_more n (Some e) h = expr_more n e h

  mutual
    command_more : (n : ℕ) (c : CommandTree) → CommandNests n c → CommandNests (suc n) c
    command_more n (Skip at) h = tt
    command_more n (Abort at) h = tt
    command_more n (Assume at e) h = expr_more n e h
    command_more n (Assert at e) h = expr_more n e h
    command_more n (If at e a b) h = (expr_more n e h.0, block_more n a h.1, block_more n b h.2)
    command_more n (Choose at no_block) h = absurd h
    command_more n (Choose at (and_block b bs)) h = (block_more n b h.0, blocks_more n bs h.1)
    command_more n (Insert at name args) h = exprs_more n args h
    command_more n (Remove at name args) h = exprs_more n args h
    command_more n (Put at name args e) h = (exprs_more n args h.0, expr_more n e h.1)
    command_more n (Assign name ps value) h = side_more n value h

    block_more : (n : ℕ) (b : Block) → BlockNests n b → BlockNests (suc n) b
    block_more n no_command h = tt
    block_more n (and_command c cs) h = (command_more n c h.0, block_more n cs h.1)

    blocks_more : (n : ℕ) (bs : Blocks) → BlocksNest n bs → BlocksNest (suc n) bs
    blocks_more n no_block h = tt
    blocks_more n (and_block b bs) h = (block_more n b h.0, blocks_more n bs h.1)

-- ---- what holds of trees

abbrev OfExpr : ℕ → Span ExprTree
OfExpr n lo hi x = ExprNests n x

abbrev OfCommand : ℕ → Span CommandTree
OfCommand n lo hi x = CommandNests n x

-- ---- lists

block_nests : (n lo hi : ℕ) (cs : List CommandTree) → Each no_rules (OfCommand n) lo hi cs → BlockNests n (block_of cs)
block_nests n lo hi [] h = tt
block_nests n lo hi (c ∷ cs) h = (h.1, block_nests n h.0 hi cs h.2)

blocks_nest : (n lo hi : ℕ) (bs : List (List CommandTree)) → Each no_rules (Each no_rules (OfCommand n)) lo hi bs
    → BlocksNest n (blocks_of bs)
blocks_nest n lo hi [] h = tt
blocks_nest n lo hi (b ∷ bs) h = (block_nests n lo h.0 b h.1, blocks_nest n h.0 hi bs h.2)

choice_nests : (n : ℕ) (t : Token) (lo hi : ℕ) (bs : List (List CommandTree))
    → EachOfSome no_rules (Each no_rules (OfCommand n)) lo hi bs → CommandNests n (choice (t, bs))
choice_nests n t lo hi [] h = absurd h
choice_nests n t lo hi (b ∷ bs) h = (block_nests n lo h.0 b h.1, blocks_nest n h.0 hi bs h.2)

side_nests : (n lo hi : ℕ) (e : Option ExprTree) → Maybe no_rules (OfExpr n) lo hi e → SideNests n e
side_nests n lo hi None h = tt
side_nests n lo hi (Some e) h = h

-- ---- the productions, where at most n levels are open

abbrev trees : ℕ → Trees no_rules
trees n = record {
  OfName = λ lo hi x. Unit {0};
  OfNames = λ lo hi x. Unit {0};
  OfExpr = OfExpr n;
  OfExprs = λ lo hi es. ExprsNest n (exprs_of es);
  OfBinder = λ lo hi x. Unit {0};
  OfCommand = OfCommand n;
  OfItem = λ lo hi x. ItemNests n x;
  no_names = λ lo hi h. tt;
  skip = λ lo hi t h. tt;
  abort = λ lo hi t h. tt;
  assumption = λ lo hi x h. h.2;
  assertion = λ lo hi x h. h.2;
  branching =
      λ lo hi x h.
      (h.2.1.1, block_nests n h.2.1.0 h.2.0 x.1.0.1 h.2.1.2, block_nests n h.2.0 hi x.1.1 h.2.2);
  choosing = λ lo hi x h. choice_nests n x.0 h.0 hi x.1 h.2;
  insertion = λ lo hi x h. h.2.2;
  removal = λ lo hi x h. h.2.2;
  placement = λ lo hi x h. (h.2.1.2, h.2.2);
  assignment = λ lo hi x h. side_nests n h.0 hi x.1 h.2;
  binder = λ lo hi x h. tt;
  plain_sort = λ lo hi x h. tt;
  sort = λ lo hi x h. tt;
  relation = λ lo hi x h. tt;
  function = λ lo hi x h. tt;
  variable = λ lo hi x h. tt;
  premise = λ lo hi x h. h.2;
  conjecture = λ lo hi x h. h.2;
  first = λ lo hi x h. all_of_each no_rules (CommandNests n) h.0 hi x.1 h.2;
  action = λ lo hi x h. all_of_each no_rules (CommandNests n) h.0 hi x.1 h.2;
  last = λ lo hi x h. all_of_each no_rules (CommandNests n) h.0 hi x.1 h.2;
  definition = λ lo hi x h. h.2;
}

pub is_shaped : TermsNest → ((n : ℕ) (e : ExprTree) → ExprNests n e → ExprNests (suc n) e)
    → ((n : ℕ) (es : ExprTrees) → ExprsNest n es → ExprsNest (suc n) es) → (ts : Tokens) (tree : FileTree)
    → (file tree.format max_levels).whole ts tree.items → IsShaped tree
unfolding max_levels
is_shaped terms expr_more exprs_more ts tree h =
    all_of_each no_rules (ItemNests max_nesting) 0 0 tree.items ((file_walks no_rules trees (λ m. record {
      name = terms.name;
      names = terms.names;
      parameters = terms.parameters m;
      enclosed = terms.enclosed m;
      arguments = terms.arguments m;
      expr = terms.expr m;
    }) (λ m lo hi x h. command_more expr_more exprs_more m x h) tree.format max_nesting).holds 0 0
    ts tree.items h tt)
