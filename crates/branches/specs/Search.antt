-- How the path of a number is found without listing the paths before it. No public contract cites it.
use Rattle.std.specs.Prelude.{◌≡◌, ℕ, ◌+◌, ◌-◌, ◌^◌, ◌==◌, nat_lt, min, if◌then◌else◌, List, [], ◌∷◌, ◌++◌, Option}
use Rattle.std.specs.Prelude.{Some}
use Rattle.std.specs.Prelude.{None, slice_get}
use Rattle.rml_syntax.specs.Tree.{CommandTree, Block, Blocks, Abort, Assert, If, Choose}
use Rattle.rml_syntax.specs.Tree.{no_command, and_command, no_block, and_block, ItemTree, Init, Action, Final}
use Rattle.rml_command.specs.declared.goal.Stage.{Stage}
use Rattle.rml_command.specs.declared.goal.Stage.TheVariants as stage
use Rattle.branches.specs.declared.mark.Mark.{Mark}
use Rattle.branches.specs.declared.mark.Turn.{Turn}
use Rattle.branches.specs.declared.mark.Turn.TheVariants as turns
use Rattle.branches.specs.Marked.{branch_count}

-- the greatest count; there are fewer numbers of paths
abbrev pub most : ℕ
most = 2 ^ 64 - 1

-- a sum, but not above the greatest count
abbrev pub sum : ℕ → ℕ → ℕ
sum a b = min (a + b) most

-- how many paths go through a command to n paths behind it
abbrev mutual
  pub count_through : CommandTree → ℕ → ℕ
  count_through (Abort at) n = 1
  count_through (Assert at e) n = sum n 1
  count_through (If at e a b) n = sum (count_through_block a n) (count_through_block b n)
  count_through (Choose at bs) n = count_through_each bs n 0
  count_through c n = n

  pub count_through_block : Block → ℕ → ℕ
  count_through_block no_command n = n
  count_through_block (and_command c cs) n = count_through c (count_through_block cs n)

  -- together with what was counted before
  pub count_through_each : Blocks → ℕ → ℕ → ℕ
  count_through_each no_block n before = before
  count_through_each (and_block b bs) n before = count_through_each bs n (sum before (count_through_block b n))

-- what stands behind each command of a block, that of the last command first
abbrev pub counts_behind : Block → ℕ → List ℕ
counts_behind no_command n = []
counts_behind (and_command c cs) n = counts_behind cs n ++ count_through_block cs n ∷ []

-- the marks on the way, and the number of the path that is taken behind it; none where the way ends in abort
pub record Found : Type 0 where
  pub marks : List Mark
  pub next : Option ℕ

abbrev pub found : List Mark → Option ℕ → Found
found marks next = record { marks = marks; next = next }

-- the one mark of a way that is taken at a place
abbrev pub mark : ℕ → Turn → List Mark
mark at t = record { at = at; turn = t } ∷ []

-- what is found behind these marks, with them in front
abbrev pub behind : List Mark → Found → Found
behind marks f = found (marks ++ f.marks) f.next

-- these marks stand behind those before, and this is what comes next
abbrev pub Adds : Found → List Mark → List Mark → Option ℕ → Type 0
Adds f old new next = (new ≡ old ++ f.marks) × (next ≡ f.next)

-- after these marks the way goes on as the rest says, or ends where there is no number
abbrev pub going_on : List Mark → Option ℕ → (ℕ → Found) → Found
going_on marks None rest = found marks None
going_on marks (Some k) rest = behind marks (rest k)

-- after what is found the way goes on by the number that it leaves
abbrev pub then_along : Found → (ℕ → Found) → Found
then_along f rest = going_on f.marks f.next rest

-- the way of number 0 fails at the `assert` and ends there; each other one passes it
abbrev pub assert_along : ℕ → ℕ → Found
assert_along at k =
    if k == 0 then found (mark at turns.AssertFails) None else found (mark at turns.AssertPasses) (Some (k - 1))

-- the k-th way, from 0, through a command to n paths behind it
abbrev mutual
  pub along : CommandTree → ℕ → ℕ → Found
  along (Abort at) n k = found [] None
  along (Assert at e) n k = assert_along at k
  along (If at e a b) n k =
      if nat_lt k (count_through_block a n)
      then behind (mark at turns.IfHolds) (along_block a n k)
      else behind (mark at turns.IfFails) (along_block b n (k - count_through_block a n))
  along (Choose at bs) n k = along_each at 1 (branch_count bs) bs n k
  along c n k = found [] (Some k)

  pub along_block : Block → ℕ → ℕ → Found
  along_block no_command n k = found [] (Some k)
  along_block (and_command c cs) n k = then_along (along c (count_through_block cs n) k) (along_block cs n)

  pub along_each : ℕ → ℕ → ℕ → Blocks → ℕ → ℕ → Found
  along_each at i count no_block n k = found [] None
  along_each at i count (and_block b bs) n k =
      if nat_lt k (count_through_block b n)
      then behind (mark at (turns.Takes (record { number = i; count = count }))) (along_block b n k)
      else along_each at (i + 1) count bs n (k - count_through_block b n)

-- ---- the block of a stage, without the model before it

-- the block of an `init` in the place of what was found before
abbrev pub init_in : List CommandTree → ItemTree → List CommandTree
init_in found (Init at cs) = cs
init_in found _ = found

-- the block of the last `init`, or what was found before
abbrev pub last_init : List CommandTree → List ItemTree → List CommandTree
last_init found [] = found
last_init found (item ∷ items) = last_init (init_in found item) items

-- the block of a `final` in the place of what was found before
abbrev pub final_in : List CommandTree → ItemTree → List CommandTree
final_in found (Final at cs) = cs
final_in found _ = found

-- the block of the last `final`, or what was found before
abbrev pub last_final : List CommandTree → List ItemTree → List CommandTree
last_final found [] = found
last_final found (item ∷ items) = last_final (final_in found item) items

-- the block of an action in a list of one; none of another item
abbrev pub action_of : ItemTree → List (List CommandTree)
action_of (Action name cs) = cs ∷ []
action_of _ = []

-- the blocks of the actions, in order
abbrev pub actions_of : List ItemTree → List (List CommandTree)
actions_of [] = []
actions_of (item ∷ items) = action_of item ++ actions_of items

-- the block of a stage; `init` and `final` are empty where there is none
abbrev pub stage_commands : List ItemTree → Stage → Option (List CommandTree)
stage_commands items stage.Init = Some (last_init [] items)
stage_commands items (stage.Action a) = slice_get (actions_of items) a
stage_commands items stage.Final = Some (last_final [] items)
