-- Where the names and the nodes of a tree stand.
use Rattle.std.specs.Prelude.{ℕ, ◌≤◌, List, Option, Some, None}
use Rattle.std.specs.List.{AllByRecursion}
use Rattle.rml_terms.specs.Tree.{ExprTree}
use Rattle.rml_terms.specs.declared.tree.Binder.{Binder}
use Rattle.rml_terms.specs.Within.{NameWithin, NamesWithin, BinderWithin, ExprWithin, ExprsWithin}
use Rattle.rml_syntax.specs.Tree.{CommandTree, Block, Blocks, Skip, Abort, Assume, Assert, If, Choose, Insert, Remove}
use Rattle.rml_syntax.specs.Tree.{Put, Assign, no_command, and_command, no_block, and_block, ItemTree, FileTree, Sort}
use Rattle.rml_syntax.specs.Tree.{Relation, Function, Variable, Axiom, Conjecture, Init, Action, Final, Define}

-- the right side of `:=` stands among n bytes; a `*` has no place
abbrev pub ValueWithin : ℕ → Option ExprTree → Type 0
ValueWithin n None = Unit {0}
ValueWithin n (Some e) = ExprWithin n e

-- the names of a command are among n bytes, and its nodes stand there
abbrev mutual
  pub CommandWithin : ℕ → CommandTree → Type 0
  CommandWithin n (Skip at) = at ≤ n
  CommandWithin n (Abort at) = at ≤ n
  CommandWithin n (Assume at e) = (at ≤ n) × ExprWithin n e
  CommandWithin n (Assert at e) = (at ≤ n) × ExprWithin n e
  CommandWithin n (If at e a b) = (at ≤ n) × ExprWithin n e × BlockWithin n a × BlockWithin n b
  CommandWithin n (Choose at bs) = (at ≤ n) × BlocksWithin n bs
  CommandWithin n (Insert at name args) = (at ≤ n) × NameWithin n name × ExprsWithin n args
  CommandWithin n (Remove at name args) = (at ≤ n) × NameWithin n name × ExprsWithin n args
  CommandWithin n (Put at name args e) = (at ≤ n) × NameWithin n name × ExprsWithin n args × ExprWithin n e
  CommandWithin n (Assign name parameters value) = NameWithin n name × NamesWithin n parameters × ValueWithin n value

  pub BlockWithin : ℕ → Block → Type 0
  BlockWithin n no_command = Unit {0}
  BlockWithin n (and_command c cs) = CommandWithin n c × BlockWithin n cs

  pub BlocksWithin : ℕ → Blocks → Type 0
  BlocksWithin n no_block = Unit {0}
  BlocksWithin n (and_block b bs) = BlockWithin n b × BlocksWithin n bs

abbrev pub CommandsWithin : ℕ → List CommandTree → Type 0
CommandsWithin n cs = AllByRecursion (CommandWithin n) cs

abbrev pub BindersWithin : ℕ → List Binder → Type 0
BindersWithin n bs = AllByRecursion (BinderWithin n) bs

-- the names of an item are among n bytes, and its nodes stand there
abbrev pub ItemWithin : ℕ → ItemTree → Type 0
ItemWithin n (Sort name names) = NameWithin n name × NamesWithin n names
ItemWithin n (Relation name sorts) = NameWithin n name × NamesWithin n sorts
ItemWithin n (Function name sorts sort) = NameWithin n name × NamesWithin n sorts × NameWithin n sort
ItemWithin n (Variable name sort) = NameWithin n name × NameWithin n sort
ItemWithin n (Axiom name e) = NameWithin n name × ExprWithin n e
ItemWithin n (Conjecture name e) = NameWithin n name × ExprWithin n e
ItemWithin n (Init at cs) = (at ≤ n) × CommandsWithin n cs
ItemWithin n (Action name cs) = NameWithin n name × CommandsWithin n cs
ItemWithin n (Final at cs) = (at ≤ n) × CommandsWithin n cs
ItemWithin n (Define name bs e) = NameWithin n name × BindersWithin n bs × ExprWithin n e

-- and so of each item of a file
abbrev pub TreeWithin : ℕ → FileTree → Type 0
TreeWithin n tree = AllByRecursion (ItemWithin n) tree.items
