-- The block of a stage in a tree, and its marked paths.
use Rattle.std.specs.Prelude.{ℕ, List, [], ◌∷◌, ◌++◌, Option, Some, None, slice_get}
use Rattle.base.specs.Lists.{numbered}
use Rattle.rml_syntax.specs.Tree.{CommandTree, ItemTree, Init, Action, Final, block_of}
use Rattle.rml_command.specs.declared.goal.Stage.{Stage}
use Rattle.rml_command.specs.declared.goal.Stage.TheVariants as stage
use Rattle.rml_names.specs.Drafts.{DraftTree, empty_draft}
use Rattle.rml_sorts.specs.Items.{draft_with}
use Rattle.branches.specs.declared.mark.Mark.{Mark}
use Rattle.branches.specs.Marked.{MarkedPath, marked_block}

-- a block's commands, and the draft of the items before the block
pub record Located : Type 0 where
  pub before : DraftTree
  pub commands : List CommandTree

abbrev pub located : DraftTree → List CommandTree → Located
located d cs = record { before = d; commands = cs }

-- an `init` in the place of what stood before
abbrev pub init_or : Located → DraftTree → ItemTree → Located
init_or found d (Init at cs) = located d cs
init_or found d _ = found

-- a `final` in the place of what stood before
abbrev pub final_or : Located → DraftTree → ItemTree → Located
final_or found d (Final at cs) = located d cs
final_or found d _ = found

-- the block of an action, in a list of one; none of another item
abbrev pub action_in : DraftTree → ItemTree → List Located
action_in d (Action name cs) = located d cs ∷ []
action_in d _ = []

module _ (text : List ℕ) where
  -- the last `init` of the items behind a draft
  abbrev pub init_behind : Located → DraftTree → List ItemTree → Located
  init_behind found d [] = found
  init_behind found d (item ∷ items) = init_behind (init_or found d item) (draft_with text d item) items

  -- the last `final` of the items behind a draft
  abbrev pub final_behind : Located → DraftTree → List ItemTree → Located
  final_behind found d [] = found
  final_behind found d (item ∷ items) = final_behind (final_or found d item) (draft_with text d item) items

  -- the blocks of the actions among the items behind a draft, in order
  abbrev pub actions_behind : DraftTree → List ItemTree → List Located
  actions_behind d [] = []
  actions_behind d (item ∷ items) = action_in d item ++ actions_behind (draft_with text d item) items

  -- the block of a stage; `init` and `final` are empty where there is none
  abbrev pub located_block : List ItemTree → Stage → Option Located
  located_block items stage.Init = Some (init_behind (located empty_draft []) empty_draft items)
  located_block items (stage.Action a) = slice_get (actions_behind empty_draft items) a
  located_block items stage.Final = Some (final_behind (located empty_draft []) empty_draft items)

  -- the marked paths of a block; none where there is no block
  abbrev pub marked_of : Option Located → List MarkedPath
  marked_of None = []
  marked_of (Some b) = marked_block text b.before (block_of b.commands)

  -- the marked paths of a stage's block
  abbrev pub stage_marked : List ItemTree → Stage → List MarkedPath
  stage_marked items s = marked_of (located_block items s)

-- the marks of a path; none where there is no path
abbrev pub marks_in : Option MarkedPath → List Mark
marks_in None = []
marks_in (Some p) = p.marks

-- the marks of the path of this number, from 1; none where there is no such path
abbrev pub marks_of : List ℕ → List ItemTree → Stage → ℕ → List Mark
marks_of text items s path = marks_in (numbered (stage_marked text items s) path)
