-- Where the names and the nodes of a tree begin, in the order of reading.
use Rattle.std.specs.Prelude.{ℕ, List, [], ◌∷◌, ◌++◌, Option, Some, None}
use Rattle.rml_terms.specs.declared.tree.Binder.{Binder}
use Rattle.rml_terms.specs.Tree.{ExprTree}
use Rattle.rml_terms.specs.Places.{name_places, places_of_exprs, places_of_expr}
use Rattle.rml_syntax.specs.Tree.{CommandTree, Block, Blocks, Skip, Abort, Assume, Assert, If, Choose, Insert, Remove}
use Rattle.rml_syntax.specs.Tree.{Put, Assign, no_command, and_command, no_block, and_block, block_of, ItemTree, Sort}
use Rattle.rml_syntax.specs.Tree.{Relation, Function, Variable, Axiom, Conjecture, Init, Action, Final, Define}

-- the right side of `:=`; a `*` has no place
abbrev pub places_of_side : Option ExprTree → List ℕ
places_of_side None = []
places_of_side (Some e) = places_of_expr e

-- the places of a command
abbrev mutual
  pub places_of_command : CommandTree → List ℕ
  places_of_command (Skip at) = at ∷ []
  places_of_command (Abort at) = at ∷ []
  places_of_command (Assume at e) = at ∷ places_of_expr e
  places_of_command (Assert at e) = at ∷ places_of_expr e
  places_of_command (If at e a b) = at ∷ (places_of_expr e ++ (places_of_block a ++ places_of_block b))
  places_of_command (Choose at bs) = at ∷ places_of_blocks bs
  places_of_command (Insert at name args) = at ∷ name.start ∷ places_of_exprs args
  places_of_command (Remove at name args) = at ∷ name.start ∷ places_of_exprs args
  places_of_command (Put at name args e) = at ∷ name.start ∷ (places_of_exprs args ++ places_of_expr e)
  places_of_command (Assign name parameters value) = name.start ∷ (name_places parameters ++ places_of_side value)

  pub places_of_block : Block → List ℕ
  places_of_block no_command = []
  places_of_block (and_command c cs) = places_of_command c ++ places_of_block cs

  pub places_of_blocks : Blocks → List ℕ
  places_of_blocks no_block = []
  places_of_blocks (and_block b bs) = places_of_block b ++ places_of_blocks bs

-- a parameter of a definition, and its sort
abbrev pub binder_places : List Binder → List ℕ
binder_places [] = []
binder_places (b ∷ bs) = b.name.start ∷ b.sort.start ∷ binder_places bs

-- the places of an item: its name or, of `init` and `final`, its word, and then those of its parts
abbrev pub places_of_item : ItemTree → List ℕ
places_of_item (Sort name names) = name.start ∷ name_places names
places_of_item (Relation name sorts) = name.start ∷ name_places sorts
places_of_item (Function name sorts sort) = name.start ∷ (name_places sorts ++ (sort.start ∷ []))
places_of_item (Variable name sort) = name.start ∷ sort.start ∷ []
places_of_item (Axiom name e) = name.start ∷ places_of_expr e
places_of_item (Conjecture name e) = name.start ∷ places_of_expr e
places_of_item (Init at cs) = at ∷ places_of_block (block_of cs)
places_of_item (Action name cs) = name.start ∷ places_of_block (block_of cs)
places_of_item (Final at cs) = at ∷ places_of_block (block_of cs)
places_of_item (Define name bs e) = name.start ∷ (binder_places bs ++ places_of_expr e)

abbrev pub places_of_items : List ItemTree → List ℕ
places_of_items [] = []
places_of_items (item ∷ items) = places_of_item item ++ places_of_items items
