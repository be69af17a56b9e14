-- What is too large with all uses of derived relations written out: a sentence, or the right side of a definition or of
-- an update. It is a fault at the first use in it.
use Rattle.std.specs.Prelude.{ℕ, List, [], ◌∷◌, ◌++◌, Option, Some, None, false}
use Rattle.fol_formula.specs.Syntax.{FormTree}
use Rattle.rml_lex.specs.declared.fault_code.FaultCode.TheVariants as fault_code
use Rattle.rml_syntax.specs.Tree.{CommandTree, Block, Blocks, Skip, Abort, Assume, Assert, If, Choose, Insert, Remove}
use Rattle.rml_syntax.specs.Tree.{Put, Assign, no_command, and_command, no_block, and_block}
use Rattle.rml_syntax.specs.Tree as syntax
use Rattle.rml_syntax.specs.Tree.{ItemTree, Relation, Function, Variable, Axiom, Conjecture, Init, Action, Final}
use Rattle.rml_syntax.specs.Tree.{Define, block_of}
use Rattle.rml_names.specs.Vocabulary.{Vocabulary}
use Rattle.rml_sort_check.specs.Demands.{Demand, asks}
use Rattle.rml_elaborate.specs.Sizes.{large_use_in_formula, large_use_in_insertion, large_use_in_removal}
use Rattle.rml_elaborate.specs.Sizes.{large_use_in_placement, large_use_in_assignment, large_use_in_definition}

-- the first use in what is too large is a demand that is not met
abbrev pub no_large_use : Option ℕ → List Demand
no_large_use None = []
no_large_use (Some at) = asks at fault_code.LargeDefinition false ∷ []

module _ (text : List ℕ) (v : Vocabulary) (bodies : List FormTree) where
  -- what is too large in a command, in the order of reading
  abbrev mutual
    pub command_sizes : CommandTree → List Demand
    command_sizes (Skip at) = []
    command_sizes (Abort at) = []
    command_sizes (Assume at e) = no_large_use (large_use_in_formula text v bodies [] e)
    command_sizes (Assert at e) = no_large_use (large_use_in_formula text v bodies [] e)
    command_sizes (If at e a b) =
        no_large_use (large_use_in_formula text v bodies [] e) ++ (block_sizes a ++ block_sizes b)
    command_sizes (Choose at bs) = blocks_sizes bs
    command_sizes (Insert at name args) = no_large_use (large_use_in_insertion text v bodies name args)
    command_sizes (Remove at name args) = no_large_use (large_use_in_removal text v bodies name args)
    command_sizes (Put at name args e) = no_large_use (large_use_in_placement text v bodies name args e)
    command_sizes (Assign name ps value) = no_large_use (large_use_in_assignment text v bodies name ps value)

    pub block_sizes : Block → List Demand
    block_sizes no_command = []
    block_sizes (and_command c cs) = command_sizes c ++ block_sizes cs

    pub blocks_sizes : Blocks → List Demand
    blocks_sizes no_block = []
    blocks_sizes (and_block b bs) = block_sizes b ++ blocks_sizes bs

  -- and in an item
  abbrev pub item_sizes : ItemTree → List Demand
  item_sizes (syntax.Sort name names) = []
  item_sizes (Relation name sorts) = []
  item_sizes (Function name sorts sort) = []
  item_sizes (Variable name sort) = []
  item_sizes (Axiom name e) = no_large_use (large_use_in_formula text v bodies [] e)
  item_sizes (Conjecture name e) = no_large_use (large_use_in_formula text v bodies [] e)
  item_sizes (Init at cs) = block_sizes (block_of cs)
  item_sizes (Action name cs) = block_sizes (block_of cs)
  item_sizes (Final at cs) = block_sizes (block_of cs)
  item_sizes (Define name bs e) = no_large_use (large_use_in_definition text v bodies bs e)
