-- Primitives and commands as plain trees.
use Rattle.std.specs.Prelude.{ℕ, List, [], ◌∷◌}
use Rattle.fol_formula.specs.Syntax.{FormTree, TermTree}

-- One step of a block. The right side of an update has the symbol's parameters as its free indices, the last one as 0.
pub data PrimitiveTree : Type 0 where
  assume : FormTree → PrimitiveTree
  set_rel : ℕ → FormTree → PrimitiveTree
  set_fun : ℕ → TermTree → PrimitiveTree
  havoc : ℕ → PrimitiveTree
  havoc_rel : ℕ → PrimitiveTree
  abort : PrimitiveTree

-- A block: a primitive, a sequence, or a choice between branches. An empty sequence is `skip`.
mutual
  pub data CommandTree : Type 0 where
    prim : PrimitiveTree → CommandTree
    seq : CommandTrees → CommandTree
    choose : CommandTrees → CommandTree

  pub data CommandTrees : Type 0 where
    no_commands : CommandTrees
    command_then : CommandTree → CommandTrees → CommandTrees

-- the commands as a tree keeps them
abbrev pub commands_of : List CommandTree → CommandTrees
commands_of [] = no_commands
commands_of (c ∷ cs) = command_then c (commands_of cs)

-- the commands with one more behind them
abbrev pub followed_by : CommandTrees → CommandTree → CommandTrees
followed_by no_commands d = command_then d no_commands
followed_by (command_then c cs) d = command_then c (followed_by cs d)

-- each primitive of a command is so
abbrev mutual
  pub EachPrimitive : (PrimitiveTree → Type 0) → CommandTree → Type 0
  EachPrimitive P (prim q) = P q
  EachPrimitive P (seq cs) = EachPrimitiveOf P cs
  EachPrimitive P (choose cs) = EachPrimitiveOf P cs

  pub EachPrimitiveOf : (PrimitiveTree → Type 0) → CommandTrees → Type 0
  EachPrimitiveOf P no_commands = Unit {0}
  EachPrimitiveOf P (command_then c cs) = EachPrimitive P c × EachPrimitiveOf P cs

-- each choice of a command has a branch
abbrev mutual
  pub HasBranches : CommandTree → Type 0
  HasBranches (prim q) = Unit {0}
  HasBranches (seq cs) = HaveBranches cs
  HasBranches (choose no_commands) = ⊥
  HasBranches (choose (command_then c cs)) = HasBranches c × HaveBranches cs

  pub HaveBranches : CommandTrees → Type 0
  HaveBranches no_commands = Unit {0}
  HaveBranches (command_then c cs) = HasBranches c × HaveBranches cs
