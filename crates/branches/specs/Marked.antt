-- The paths of a block of the source, each with a mark for every `if`, `choose` and `assert` that it meets.
use Rattle.std.specs.Prelude.{ℕ, suc, ◌+◌, if◌then◌else◌, List, [], ◌∷◌, ◌++◌, map}
use Rattle.std.specs.List.{flat_map}
use Rattle.fol_formula.specs.Syntax.{negation}
use Rattle.rml_syntax.specs.Tree.{CommandTree, Block, Blocks, Assert, If, Choose}
use Rattle.rml_syntax.specs.Tree.{no_command, and_command, no_block, and_block}
use Rattle.rml_command.specs.Trees.{PrimitiveTree, assume, abort}
use Rattle.rml_names.specs.Drafts.{DraftTree}
use Rattle.rml_command.specs.Paths.{has_abort, paths_of}
use Rattle.rml_elaborate.specs.Formulas.{formula_of}
use Rattle.rml_sorts.specs.Commands.{command_of}
use Rattle.branches.specs.declared.mark.Mark.{Mark}
use Rattle.branches.specs.declared.mark.Turn.{Turn}
use Rattle.branches.specs.declared.mark.Turn.TheVariants as turns

-- a path, and the ways that it takes, in the order in which it comes to them
pub record MarkedPath : Type 0 where
  pub primitives : List PrimitiveTree
  pub marks : List Mark

-- a path that meets no `if`, `choose` or `assert`
abbrev pub unmarked : List PrimitiveTree → MarkedPath
unmarked qs = record { primitives = qs; marks = [] }

-- these primitives, behind the way that is taken at a place
abbrev pub marked : ℕ → Turn → List PrimitiveTree → MarkedPath
marked at t qs = record { primitives = qs; marks = record { at = at; turn = t } ∷ [] }

-- one path behind the other
abbrev pub joined : MarkedPath → MarkedPath → MarkedPath
joined p q = record { primitives = p.primitives ++ q.primitives; marks = p.marks ++ q.marks }

-- a path goes on with each of the others, or stands once, as it is, where it ends in abort
abbrev pub marked_on : List MarkedPath → MarkedPath → List MarkedPath
marked_on rest p = if has_abort p.primitives then p ∷ [] else map (joined p) rest

-- how many branches a `choose` has
abbrev pub branch_count : Blocks → ℕ
branch_count no_block = 0
branch_count (and_block b bs) = suc (branch_count bs)

module _ (text : List ℕ) (d : DraftTree) where
  -- The marked paths of a command, in order. An `assert` first fails and then is passed, whatever its condition; an
  -- `if` is first true and then false; a `choose` takes its branches in turn. All other commands go one way.
  abbrev mutual
    pub marked_paths : CommandTree → List MarkedPath
    marked_paths (Assert at e) =
        marked at turns.AssertFails (assume (negation (formula_of text d.vocabulary d.bodies [] e)) ∷ abort ∷ [])
        ∷ marked at turns.AssertPasses [] ∷ []
    marked_paths (If at e a b) =
        map (joined (marked at turns.IfHolds (assume (formula_of text d.vocabulary d.bodies [] e) ∷ [])))
        (marked_block a)
        ++ map (joined (marked at turns.IfFails
        (assume (negation (formula_of text d.vocabulary d.bodies [] e)) ∷ []))) (marked_block b)
    marked_paths (Choose at bs) = marked_branches at 1 (branch_count bs) bs
    marked_paths c = map unmarked (paths_of (command_of text d.vocabulary d.bodies c))

    pub marked_block : Block → List MarkedPath
    marked_block no_command = unmarked [] ∷ []
    marked_block (and_command c cs) = flat_map (marked_on (marked_block cs)) (marked_paths c)

    -- the branches from the i-th on, of n
    pub marked_branches : ℕ → ℕ → ℕ → Blocks → List MarkedPath
    marked_branches at i n no_block = []
    marked_branches at i n (and_block b bs) =
        map (joined (marked at (turns.Takes (record { number = i; count = n })) [])) (marked_block b)
        ++ marked_branches at (i + 1) n bs
