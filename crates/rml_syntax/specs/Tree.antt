-- The trees of a file and of its commands. A node keeps its place: where its first token begins. A node that begins
-- with a name keeps the name, which has its place.
use Rattle.std.specs.Prelude.{ℕ, List, [], ◌∷◌, map, Option, option_map}
use Rattle.std.specs.Global.{Vec}
use Rattle.rml_lex.specs.declared.token.Token.{Token}
use Rattle.rml_terms.specs.declared.tree.Name.{Name}
use Rattle.rml_terms.specs.declared.tree.Binder.{Binder}
use Rattle.rml_terms.specs.Tree.{ExprTree, ExprTrees, exprs_of, expr_tree, expr_trees}
use Rattle.rml_syntax.specs.declared.tree.Command.{Command}
use Rattle.rml_syntax.specs.declared.tree.Command.TheOpen as commands
use Rattle.rml_syntax.specs.declared.tree.Command.TheFolds.{fold-Command}
use Rattle.rml_syntax.specs.declared.tree.Format.{Format}
use Rattle.rml_syntax.specs.declared.tree.Tree.{Tree}
use Rattle.rml_syntax.specs.declared.tree.Item.{Item}
use Rattle.rml_syntax.specs.declared.tree.Item.TheVariants as item

mutual
  pub data CommandTree : Type 0 where
    Skip : ℕ → CommandTree
    Abort : ℕ → CommandTree
    Assume : ℕ → ExprTree → CommandTree
    Assert : ℕ → ExprTree → CommandTree
    If : ℕ → ExprTree → Block → Block → CommandTree
    Choose : ℕ → Blocks → CommandTree
    Insert : ℕ → Name → ExprTrees → CommandTree
    Remove : ℕ → Name → ExprTrees → CommandTree
    Put : ℕ → Name → ExprTrees → ExprTree → CommandTree
    Assign : Name → List Name → Option ExprTree → CommandTree

  pub data Block : Type 0 where
    no_command : Block
    and_command : CommandTree → Block → Block

  pub data Blocks : Type 0 where
    no_block : Blocks
    and_block : Block → Blocks → Blocks

-- the commands of a block as a node keeps them
abbrev pub block_of : List CommandTree → Block
block_of [] = no_command
block_of (c ∷ cs) = and_command c (block_of cs)

-- the branches of a choice as a node keeps them
abbrev pub blocks_of : List (List CommandTree) → Blocks
blocks_of [] = no_block
blocks_of (b ∷ bs) = and_block (block_of b) (blocks_of bs)

-- An item, its name first. A sort has the names of its elements, none where they are not listed; a function has its
-- argument sorts and then that of its values; `init` and `final` have no name, but the place of their word.
pub data ItemTree : Type 0 where
  Sort : Name → List Name → ItemTree
  Relation : Name → List Name → ItemTree
  Function : Name → List Name → Name → ItemTree
  Variable : Name → Name → ItemTree
  Axiom : Name → ExprTree → ItemTree
  Conjecture : Name → ExprTree → ItemTree
  Init : ℕ → List CommandTree → ItemTree
  Action : Name → List CommandTree → ItemTree
  Final : ℕ → List CommandTree → ItemTree
  Define : Name → List Binder → ExprTree → ItemTree

-- a file: its format, and its items in order
pub record FileTree : Type 0 where
  pub format : Format
  pub items : List ItemTree

-- ---- the nodes that productions make

-- an `assume`, at its word
abbrev pub assumed : Token × ExprTree → CommandTree
assumed (t, e) = Assume t.start e

-- an `assert`, at its word
abbrev pub asserted : Token × ExprTree → CommandTree
asserted (t, e) = Assert t.start e

-- an `if`, at its word; without `else` the second block is empty
abbrev pub branched : Token × ((ExprTree × List CommandTree) × List CommandTree) → CommandTree
branched (t, ((e, a), b)) = If t.start e (block_of a) (block_of b)

-- a choice between blocks, at its word
abbrev pub choice : Token × List (List CommandTree) → CommandTree
choice (t, bs) = Choose t.start (blocks_of bs)

-- an `insert`, at its word
abbrev pub inserted : Token × (Name × List ExprTree) → CommandTree
inserted (t, (name, args)) = Insert t.start name (exprs_of args)

-- a `remove`, at its word
abbrev pub removed : Token × (Name × List ExprTree) → CommandTree
removed (t, (name, args)) = Remove t.start name (exprs_of args)

-- a `put`, at its word, with the new value last
abbrev pub putting : Token × ((Name × List ExprTree) × ExprTree) → CommandTree
putting (t, ((name, args), value)) = Put t.start name (exprs_of args) value

-- an assignment, at its name; a right side that is missing is `*`
abbrev pub assigned : (Name × List Name) × Option ExprTree → CommandTree
assigned ((name, parameters), value) = Assign name parameters value

-- ---- the trees of the parser's values

-- one level, with the tree of each part in its place
abbrev pub command_step : commands.Command-F CommandTree → CommandTree
command_step (commands.Skip at) = Skip at
command_step (commands.Abort at) = Abort at
command_step (commands.Assume at e) = Assume at (expr_tree e)
command_step (commands.Assert at e) = Assert at (expr_tree e)
command_step (commands.If at e a b) = If at (expr_tree e) (block_of a.items) (block_of b.items)
command_step (commands.Choose at bs) = Choose at (blocks_of (map (λ b. b.items) bs.items))
command_step (commands.Insert at name args) = Insert at name (exprs_of (expr_trees args.items))
command_step (commands.Remove at name args) = Remove at name (exprs_of (expr_trees args.items))
command_step (commands.Put at name args e) = Put at name (exprs_of (expr_trees args.items)) (expr_tree e)
command_step (commands.Assign name parameters value) = Assign name parameters.items (option_map expr_tree value)

-- the tree that a command of the parser stands for
abbrev pub command_tree : Command → CommandTree
command_tree = fold-Command CommandTree command_step

abbrev pub command_trees : List Command → List CommandTree
command_trees cs = map command_tree cs

-- the trees of the commands in each branch of a choice
abbrev pub block_trees : List (Vec Command) → List (List CommandTree)
block_trees bs = map (λ b. command_trees b.items) bs

-- the tree that an item of the parser stands for
abbrev pub item_tree : Item → ItemTree
item_tree (item.Sort name names) = Sort name names.items
item_tree (item.Relation name sorts) = Relation name sorts.items
item_tree (item.Function name sorts sort) = Function name sorts.items sort
item_tree (item.Variable name sort) = Variable name sort
item_tree (item.Axiom name e) = Axiom name (expr_tree e)
item_tree (item.Conjecture name e) = Conjecture name (expr_tree e)
item_tree (item.Init at b) = Init at (command_trees b.items)
item_tree (item.Action name b) = Action name (command_trees b.items)
item_tree (item.Final at b) = Final at (command_trees b.items)
item_tree (item.Define name bs e) = Define name bs.items (expr_tree e)

abbrev pub item_trees : List Item → List ItemTree
item_trees xs = map item_tree xs

-- the tree that a file of the parser stands for
abbrev pub file_tree : Tree → FileTree
file_tree tree = record { format = tree.format; items = item_trees tree.items.items }
