-- How deep the binders of a tree lie inside one another, and that each choice of it has a branch.
use Rattle.std.specs.Prelude.{ℕ, List, Option, Some, None}
use Rattle.std.specs.List.{AllByRecursion}
use Rattle.rml_terms.specs.Tree.{ExprTree}
use Rattle.rml_terms.specs.Shape.{ExprNests, ExprsNest, max_nesting}
use Rattle.rml_syntax.specs.Tree.{CommandTree, Block, Blocks, Skip, Abort, Assume, Assert, If, Choose, Insert, Remove}
use Rattle.rml_syntax.specs.Tree.{Put, Assign, no_command, and_command, no_block, and_block, ItemTree, FileTree, Sort}
use Rattle.rml_syntax.specs.Tree.{Relation, Function, Variable, Axiom, Conjecture, Init, Action, Final, Define}

-- at most n binders of a command's expression lie inside one another
abbrev pub SideNests : ℕ → Option ExprTree → Type 0
SideNests n None = Unit {0}
SideNests n (Some e) = ExprNests n e

-- so it is of each expression of a command, and each choice has a branch
abbrev mutual
  pub CommandNests : ℕ → CommandTree → Type 0
  CommandNests n (Skip at) = Unit {0}
  CommandNests n (Abort at) = Unit {0}
  CommandNests n (Assume at e) = ExprNests n e
  CommandNests n (Assert at e) = ExprNests n e
  CommandNests n (If at e a b) = ExprNests n e × BlockNests n a × BlockNests n b
  CommandNests n (Choose at no_block) = ⊥
  CommandNests n (Choose at (and_block b bs)) = BlockNests n b × BlocksNest n bs
  CommandNests n (Insert at name args) = ExprsNest n args
  CommandNests n (Remove at name args) = ExprsNest n args
  CommandNests n (Put at name args e) = ExprsNest n args × ExprNests n e
  CommandNests n (Assign name parameters value) = SideNests n value

  pub BlockNests : ℕ → Block → Type 0
  BlockNests n no_command = Unit {0}
  BlockNests n (and_command c cs) = CommandNests n c × BlockNests n cs

  pub BlocksNest : ℕ → Blocks → Type 0
  BlocksNest n no_block = Unit {0}
  BlocksNest n (and_block b bs) = BlockNests n b × BlocksNest n bs

-- and so of each command in a list
abbrev pub CommandsNest : ℕ → List CommandTree → Type 0
CommandsNest n cs = AllByRecursion (CommandNests n) cs

-- so it is of each expression and each choice of an item; the parameters of a definition do not count
abbrev pub ItemNests : ℕ → ItemTree → Type 0
ItemNests n (Sort name names) = Unit {0}
ItemNests n (Relation name sorts) = Unit {0}
ItemNests n (Function name sorts sort) = Unit {0}
ItemNests n (Variable name sort) = Unit {0}
ItemNests n (Axiom name e) = ExprNests n e
ItemNests n (Conjecture name e) = ExprNests n e
ItemNests n (Init at cs) = CommandsNest n cs
ItemNests n (Action name cs) = CommandsNest n cs
ItemNests n (Final at cs) = CommandsNest n cs
ItemNests n (Define name bs e) = ExprNests n e

-- no more binders lie inside one another than may, and each choice has a branch
abbrev pub IsShaped : FileTree → Type 0
IsShaped tree = AllByRecursion (ItemNests max_nesting) tree.items
