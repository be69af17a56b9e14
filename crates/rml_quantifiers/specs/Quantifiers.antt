-- The places of quantifiers where none may stand: inside an `ite`, and on the right of an update or a definition.
use Rattle.std.specs.Prelude.{ℕ, Bool, true, false, if◌then◌else◌, List, [], ◌∷◌, ◌++◌, Option, Some, None}
use Rattle.rml_terms.specs.Tree.{ExprTree, ExprTrees, True, False, Apply, Ite, Equal, Not, And, Or, Implies, Iff}
use Rattle.rml_terms.specs.Tree.{Quantified, no_expr, and_expr}
use Rattle.rml_syntax.specs.Tree.{CommandTree, Block, Blocks, Skip, Abort, Assume}
use Rattle.rml_syntax.specs.Tree.{Assert, If, Choose, Insert, Remove, Put, Assign, no_command, and_command}
use Rattle.rml_syntax.specs.Tree.{no_block, and_block}

-- The quantifiers of an expression that stand inside an `ite`; with `true`, all of them.
abbrev mutual
  pub quantifiers_in : Bool → ExprTree → List ℕ
  quantifiers_in all (True at) = []
  quantifiers_in all (False at) = []
  quantifiers_in all (Apply name args) = quantifiers_in_each all args
  quantifiers_in all (Ite at c a b) = quantifiers_in true c ++ (quantifiers_in true a ++ quantifiers_in true b)
  quantifiers_in all (Equal at a b) = quantifiers_in all a ++ quantifiers_in all b
  quantifiers_in all (Not at a) = quantifiers_in all a
  quantifiers_in all (And at args) = quantifiers_in_each all args
  quantifiers_in all (Or at args) = quantifiers_in_each all args
  quantifiers_in all (Implies at a b) = quantifiers_in all a ++ quantifiers_in all b
  quantifiers_in all (Iff at a b) = quantifiers_in all a ++ quantifiers_in all b
  quantifiers_in all (Quantified q at b a) = (if all then at ∷ [] else []) ++ quantifiers_in all a

  pub quantifiers_in_each : Bool → ExprTrees → List ℕ
  quantifiers_in_each all no_expr = []
  quantifiers_in_each all (and_expr e es) = quantifiers_in all e ++ quantifiers_in_each all es

-- on the right of `:=`, all quantifiers; a `*` has none
abbrev pub quantifiers_of_side : Option ExprTree → List ℕ
quantifiers_of_side None = []
quantifiers_of_side (Some e) = quantifiers_in true e

-- the quantifiers of a command that stand where none may, in the order of reading
abbrev mutual
  pub quantifiers_of : CommandTree → List ℕ
  quantifiers_of (Skip at) = []
  quantifiers_of (Abort at) = []
  quantifiers_of (Assume at e) = quantifiers_in false e
  quantifiers_of (Assert at e) = quantifiers_in false e
  quantifiers_of (If at e a b) = quantifiers_in false e ++ (quantifiers_of_block a ++ quantifiers_of_block b)
  quantifiers_of (Choose at bs) = quantifiers_of_blocks bs
  quantifiers_of (Insert at name args) = quantifiers_in_each true args
  quantifiers_of (Remove at name args) = quantifiers_in_each true args
  quantifiers_of (Put at name args e) = quantifiers_in_each true args ++ quantifiers_in true e
  quantifiers_of (Assign name ps value) = quantifiers_of_side value

  pub quantifiers_of_block : Block → List ℕ
  quantifiers_of_block no_command = []
  quantifiers_of_block (and_command c cs) = quantifiers_of c ++ quantifiers_of_block cs

  pub quantifiers_of_blocks : Blocks → List ℕ
  quantifiers_of_blocks no_block = []
  quantifiers_of_blocks (and_block b bs) = quantifiers_of_block b ++ quantifiers_of_blocks bs
