-- Without their marks, marked paths are the paths of what the source stands for.
use Rattle.std.proofs.Common.{◌≡◌, ℕ, zero, suc, ◌+◌, Bool, true, false, cond, Option, Some, None, option_map, List, []}
use Rattle.std.proofs.Common.{◌∷◌, ◌++◌, map, refl, sym, ap, ◌∙◌, append_assoc, append-nil, slice_get}
use Rattle.std.specs.List.{flat_map}
use Rattle.std.proofs.lemmas.List.{map-append}
use Rattle.fol_formula.specs.Syntax.{FormTree, negation}
use Rattle.rml_syntax.specs.Tree.{CommandTree, Block, Blocks, Skip, Abort, Assume, Assert, If, Choose, Insert, Remove}
use Rattle.rml_syntax.specs.Tree.{Put, Assign, no_command, and_command, no_block, and_block, block_of, ItemTree, Sort}
use Rattle.rml_syntax.specs.Tree.{Relation, Function, Variable, Axiom, Conjecture, Init, Action, Final, Define}
use Rattle.rml_command.specs.Trees.{PrimitiveTree, assume, CommandTrees, seq}
use Rattle.rml_command.specs.Trees as trees
use Rattle.rml_command.specs.Paths.{has_abort, continued, paths_of, paths_in_turn, paths_of_each}
use Rattle.rml_command.specs.Goals.{paths_of_block}
use Rattle.rml_command.specs.declared.goal.Stage.TheVariants as stage
use Rattle.rml_elaborate.specs.Formulas.{formula_of}
use Rattle.rml_sorts.specs.Commands.{command_of, commands_of, branches_of}
use Rattle.rml_names.specs.Drafts.{DraftTree, empty_draft}
use Rattle.rml_sorts.specs.Items.{block_command, draft_with, draft_of}
use Rattle.branches.specs.declared.mark.Turn.TheVariants as turns
use Rattle.branches.specs.Marked.{MarkedPath, unmarked, marked, joined, marked_on, branch_count}
use Rattle.branches.specs.Marked.{marked_paths, marked_block, marked_branches}
use Rattle.branches.specs.Stages.{Located, located, init_or, final_or, action_in, init_behind, final_behind}
use Rattle.branches.specs.Stages.{actions_behind, located_block, marked_of}
use Rattle.branches.specs.Laws.{MarkedPathsAreThePaths}

abbrev bare : List MarkedPath → List (List PrimitiveTree)
bare ps = map (λ p. p.primitives) ps

bare-unmarked : (qs : List (List PrimitiveTree)) → bare (map unmarked qs) ≡ qs
bare-unmarked [] = refl
bare-unmarked (q ∷ qs) = ap (λ z. q ∷ z) (bare-unmarked qs)

bare-joined : (p : MarkedPath) (xs : List MarkedPath)
    → bare (map (joined p) xs) ≡ map (λ q. p.primitives ++ q) (bare xs)
bare-joined p [] = refl
bare-joined p (x ∷ xs) = ap (λ z. (p.primitives ++ x.primitives) ∷ z) (bare-joined p xs)

bare-append : (xs ys : List MarkedPath) → bare (xs ++ ys) ≡ bare xs ++ bare ys
bare-append xs ys = map-append (λ p. p.primitives) xs ys

bare-one : (rest : List MarkedPath) (p : MarkedPath) (b : Bool) → bare (cond b (p ∷ []) (map (joined p) rest))
    ≡ cond b (p.primitives ∷ []) (map (λ q. p.primitives ++ q) (bare rest))
bare-one rest p true = refl
bare-one rest p false = bare-joined p rest

bare-on : (rest xs : List MarkedPath)
    → bare (flat_map (marked_on rest) xs) ≡ flat_map (continued (bare rest)) (bare xs)
bare-on rest [] = refl
bare-on rest (x ∷ xs) =
    bare-append (marked_on rest x) (flat_map (marked_on rest) xs)
    ∙ ap (λ z. z ++ bare (flat_map (marked_on rest) xs)) (bare-one rest x (has_abort x.primitives))
    ∙ ap (λ z. continued (bare rest) x.primitives ++ z) (bare-on rest xs)

map-none : (ps : List (List PrimitiveTree)) → map (λ q. [] ++ q) ps ≡ ps
map-none [] = refl
map-none (p ∷ ps) = ap (λ z. p ∷ z) (map-none ps)

module _ (text : List ℕ) (d : DraftTree) where
  -- one of two branches, behind its assumption
  guarded : (at : ℕ) (p q : FormTree) (xs ys : List MarkedPath) (cs ds : CommandTrees)
      → bare xs ≡ paths_in_turn cs → bare ys ≡ paths_in_turn ds
      → bare (map (joined (marked at turns.IfHolds (assume p ∷ []))) xs
      ++ map (joined (marked at turns.IfFails (assume q ∷ []))) ys)
      ≡ (map (λ r. (assume p ∷ []) ++ r) (paths_in_turn cs) ++ [])
      ++ ((map (λ r. (assume q ∷ []) ++ r) (paths_in_turn ds) ++ []) ++ [])
  guarded at p q xs ys cs ds first second =
      let a = map (joined (marked at turns.IfHolds (assume p ∷ []))) xs in
      let b = map (joined (marked at turns.IfFails (assume q ∷ []))) ys in
      let c = map (λ r. (assume p ∷ []) ++ r) (paths_in_turn cs) in
      let d = map (λ r. (assume q ∷ []) ++ r) (paths_in_turn ds) in
      let e : bare a ≡ c ++ [] =
      bare-joined (marked at turns.IfHolds (assume p ∷ [])) xs ∙ ap (map (λ r. (assume p ∷ []) ++ r)) first
      ∙ sym (append-nil c) in
      let f : bare b ≡ (d ++ []) ++ [] =
      bare-joined (marked at turns.IfFails (assume q ∷ [])) ys ∙ ap (map (λ r. (assume q ∷ []) ++ r)) second
      ∙ sym (append-nil (d ++ []) ∙ append-nil d) in
      bare-append a b ∙ ap (λ z. z ++ bare b) e ∙ ap (λ z. (c ++ []) ++ z) f

  mutual
    same_paths : (c : CommandTree) → bare (marked_paths text d c) ≡ paths_of (command_of text d.vocabulary d.bodies c)
    same_paths (Skip at) = refl
    same_paths (Abort at) = refl
    same_paths (Assume at e) = refl
    same_paths (Assert at e) = refl
    same_paths (If at e a b) =
        guarded at (formula_of text d.vocabulary d.bodies [] e) (negation (formula_of text d.vocabulary d.bodies [] e)) (marked_block text d a)
        (marked_block text d b) (commands_of text d.vocabulary d.bodies a) (commands_of text d.vocabulary d.bodies b) (same_block a) (same_block b)
    same_paths (Choose at bs) = same_branches at 1 (branch_count bs) bs
    same_paths (Insert at name args) = refl
    same_paths (Remove at name args) = refl
    same_paths (Put at name args e) = refl
    same_paths (Assign name ps value) = refl

    same_block : (b : Block) → bare (marked_block text d b) ≡ paths_in_turn (commands_of text d.vocabulary d.bodies b)
    same_block no_command = refl
    same_block (and_command c cs) =
        bare-on (marked_block text d cs) (marked_paths text d c)
        ∙ ap (λ z. flat_map (continued z) (bare (marked_paths text d c))) (same_block cs)
        ∙ ap (flat_map (continued (paths_in_turn (commands_of text d.vocabulary d.bodies cs)))) (same_paths c)

    same_branches : (at i n : ℕ) (bs : Blocks)
        → bare (marked_branches text d at i n bs) ≡ paths_of_each (branches_of text d.vocabulary d.bodies bs)
    same_branches at i n no_block = refl
    same_branches at i n (and_block b bs) =
        let p = marked at (turns.Takes (record { number = i; count = n })) [] in
        bare-append (map (joined p) (marked_block text d b)) (marked_branches text d at (i + 1) n bs)
        ∙ ap (λ z. z ++ bare (marked_branches text d at (i + 1) n bs))
        (bare-joined p (marked_block text d b) ∙ map-none (bare (marked_block text d b)) ∙ same_block b)
        ∙ ap (λ z. paths_in_turn (commands_of text d.vocabulary d.bodies b) ++ z) (same_branches at (i + 1) n bs)

-- ---- the block of a stage

module _ (text : List ℕ) where
  abbrev command_in : Located → trees.CommandTree
  command_in b = block_command text b.before b.commands

  init_one : (found : Located) (m : DraftTree) (item : ItemTree) → m.init ≡ command_in found
      → (draft_with text m item).init ≡ command_in (init_or found m item)
  init_one found m (Sort name names) h = h
  init_one found m (Relation name sorts) h = h
  init_one found m (Function name sorts sort) h = h
  init_one found m (Variable name sort) h = h
  init_one found m (Axiom name e) h = h
  init_one found m (Conjecture name e) h = h
  init_one found m (Init at cs) h = refl
  init_one found m (Action name cs) h = h
  init_one found m (Final at cs) h = h
  init_one found m (Define name bs e) h = h

  init_same : (found : Located) (d : DraftTree) (items : List ItemTree) → d.init ≡ command_in found
      → (draft_of text d items).init ≡ command_in (init_behind text found d items)
  init_same found d [] h = h
  init_same found d (item ∷ items) h =
      init_same (init_or found d item) (draft_with text d item) items (init_one found d item h)

  final_one : (found : Located) (m : DraftTree) (item : ItemTree) → m.last ≡ command_in found
      → (draft_with text m item).last ≡ command_in (final_or found m item)
  final_one found m (Sort name names) h = h
  final_one found m (Relation name sorts) h = h
  final_one found m (Function name sorts sort) h = h
  final_one found m (Variable name sort) h = h
  final_one found m (Axiom name e) h = h
  final_one found m (Conjecture name e) h = h
  final_one found m (Init at cs) h = h
  final_one found m (Action name cs) h = h
  final_one found m (Define name bs e) h = h
  final_one found m (Final at cs) h = refl

  final_same : (found : Located) (d : DraftTree) (items : List ItemTree) → d.last ≡ command_in found
      → (draft_of text d items).last ≡ command_in (final_behind text found d items)
  final_same found d [] h = h
  final_same found d (item ∷ items) h =
      final_same (final_or found d item) (draft_with text d item) items (final_one found d item h)

  actions_one : (m : DraftTree) (item : ItemTree)
      → (draft_with text m item).actions ≡ m.actions ++ map command_in (action_in m item)
  actions_one m (Sort name names) = sym (append-nil m.actions)
  actions_one m (Relation name sorts) = sym (append-nil m.actions)
  actions_one m (Function name sorts sort) = sym (append-nil m.actions)
  actions_one m (Variable name sort) = sym (append-nil m.actions)
  actions_one m (Axiom name e) = sym (append-nil m.actions)
  actions_one m (Conjecture name e) = sym (append-nil m.actions)
  actions_one m (Init at cs) = sym (append-nil m.actions)
  actions_one m (Action name cs) = refl
  actions_one m (Final at cs) = sym (append-nil m.actions)
  actions_one m (Define name bs e) = sym (append-nil m.actions)

  actions_same : (d : DraftTree) (items : List ItemTree)
      → (draft_of text d items).actions ≡ d.actions ++ map command_in (actions_behind text d items)
  actions_same d [] = sym (append-nil d.actions)
  actions_same d (item ∷ items) =
      let rest = actions_behind text (draft_with text d item) items in
      actions_same (draft_with text d item) items
      ∙ ap (λ z. z ++ map command_in rest) (actions_one d item)
      ∙ append_assoc d.actions (map command_in (action_in d item)) (map command_in rest)
      ∙ ap (λ z. d.actions ++ z) (sym (map-append command_in (action_in d item) rest))

  get-map : {A B : Type 0} (f : A → B) (xs : List A) (k : ℕ) → slice_get (map f xs) k ≡ option_map f (slice_get xs k)
  get-map f [] zero = refl
  get-map f [] (suc k) = refl
  get-map f (x ∷ xs) zero = refl
  get-map f (x ∷ xs) (suc k) = get-map f xs k

  same_of : (b : Option Located) → bare (marked_of text b) ≡ paths_of_block (option_map command_in b)
  same_of None = refl
  same_of (Some b) = same_block text b.before (block_of b.commands)

pub marked_are_paths : MarkedPathsAreThePaths
marked_are_paths text tree stage.Init =
    same_of text (located_block text tree.items stage.Init)
    ∙ ap paths_of (sym (init_same text (located empty_draft []) empty_draft tree.items refl))
marked_are_paths text tree (stage.Action a) =
    same_of text (located_block text tree.items (stage.Action a))
    ∙ ap paths_of_block (sym (ap (λ z. slice_get z a) (actions_same text empty_draft tree.items)
    ∙ get-map text (command_in text) (actions_behind text empty_draft tree.items) a))
marked_are_paths text tree stage.Final =
    same_of text (located_block text tree.items stage.Final)
    ∙ ap paths_of (sym (final_same text (located empty_draft []) empty_draft tree.items refl))
