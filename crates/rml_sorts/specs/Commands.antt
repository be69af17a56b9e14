-- The commands of a text as commands of primitives, and its conditions.
use Rattle.std.specs.Prelude.{ℕ, List, [], ◌∷◌, ◌++◌}
use Rattle.fol_formula.specs.Syntax.{FormTree, negation}
use Rattle.rml_syntax.specs.Tree.{Block, Blocks, Skip, Abort, Assume, Assert, If, Choose, Insert, Remove, Put, Assign}
use Rattle.rml_syntax.specs.Tree.{no_command, and_command, no_block, and_block}
use Rattle.rml_syntax.specs.Tree as syntax
use Rattle.rml_command.specs.Trees.{assume, abort, CommandTree, CommandTrees, prim, seq, choose, no_commands}
use Rattle.rml_command.specs.Trees.{command_then}
use Rattle.rml_names.specs.Vocabulary.{Vocabulary}
use Rattle.rml_command.specs.declared.places.Word.{Word}
use Rattle.rml_command.specs.declared.places.Word.TheVariants as word
use Rattle.rml_command.specs.declared.places.Condition.{Condition}
use Rattle.rml_names.specs.Meanings.{bytes_of, symbol_of}
use Rattle.rml_elaborate.specs.Formulas.{formula_of, term_of, terms_of}
use Rattle.rml_elaborate.specs.Updates.{insertion, removal, placement, assignment}

-- assert p: a choice of `assume ~p; abort` and `skip`
abbrev pub assertion : FormTree → CommandTree
assertion p = choose (command_then
    (seq (command_then (prim (assume (negation p))) (command_then (prim abort) no_commands)))
    (command_then (seq no_commands) no_commands))

-- if p C else D: a choice of `assume p; C` and `assume ~p; D`
abbrev pub branching : FormTree → CommandTrees → CommandTrees → CommandTree
branching p cs ds = choose (command_then (seq (command_then (prim (assume p)) cs))
    (command_then (seq (command_then (prim (assume (negation p))) ds)) no_commands))

module _ (text : List ℕ) (v : Vocabulary) (bodies : List FormTree) where
  -- the command that a command of the text stands for; a block is a sequence
  abbrev mutual
    pub command_of : syntax.CommandTree → CommandTree
    command_of (Skip at) = seq no_commands
    command_of (Abort at) = prim abort
    command_of (Assume at e) = prim (assume (formula_of text v bodies [] e))
    command_of (Assert at e) = assertion (formula_of text v bodies [] e)
    command_of (If at e a b) = branching (formula_of text v bodies [] e) (commands_of a) (commands_of b)
    command_of (Choose at bs) = choose (branches_of bs)
    command_of (Insert at name args) = prim
        (insertion (symbol_of v (bytes_of text name)) (terms_of text v bodies [] args))
    command_of (Remove at name args) = prim
        (removal (symbol_of v (bytes_of text name)) (terms_of text v bodies [] args))
    command_of (Put at name args e) =
        prim (placement (symbol_of v (bytes_of text name)) (terms_of text v bodies [] args)
        (term_of text v bodies [] e))
    command_of (Assign name ps value) = prim (assignment text v bodies (symbol_of v (bytes_of text name)) ps value)

    pub commands_of : Block → CommandTrees
    commands_of no_command = no_commands
    commands_of (and_command c cs) = command_then (command_of c) (commands_of cs)

    pub branches_of : Blocks → CommandTrees
    branches_of no_block = no_commands
    branches_of (and_block b bs) = command_then (seq (commands_of b)) (branches_of bs)

  -- ---- conditions: the sentence behind each `assume`, `assert` and `if`, at the word's place

  abbrev pub condition : Word → ℕ → FormTree → Condition
  condition w at p = record { word = w; at = at; sentence = p }

  -- the conditions of a command, in the order of reading
  abbrev mutual
    pub conditions_of : syntax.CommandTree → List Condition
    conditions_of (Skip at) = []
    conditions_of (Abort at) = []
    conditions_of (Assume at e) = condition word.Assume at (formula_of text v bodies [] e) ∷ []
    conditions_of (Assert at e) = condition word.Assert at (formula_of text v bodies [] e) ∷ []
    conditions_of (If at e a b) = condition word.If at (formula_of text v bodies [] e)
        ∷ (conditions_of_block a ++ conditions_of_block b)
    conditions_of (Choose at bs) = conditions_of_blocks bs
    conditions_of (Insert at name args) = []
    conditions_of (Remove at name args) = []
    conditions_of (Put at name args e) = []
    conditions_of (Assign name ps value) = []

    pub conditions_of_block : Block → List Condition
    conditions_of_block no_command = []
    conditions_of_block (and_command c cs) = conditions_of c ++ conditions_of_block cs

    pub conditions_of_blocks : Blocks → List Condition
    conditions_of_blocks no_block = []
    conditions_of_blocks (and_block b bs) = conditions_of_block b ++ conditions_of_blocks bs
