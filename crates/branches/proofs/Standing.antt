-- What holds of each block of a tree: its marks stand where the tree does, and where the tree has no fault, the block
-- has none.
use Rattle.std.proofs.Common.{◌≡◌, ◌≤◌, ℕ, zero, suc, ◌+◌, Bool, true, false, cond, Option, Some, None, option_map}
use Rattle.std.proofs.Common.{List, []}
use Rattle.std.proofs.Common.{◌∷◌, ◌++◌, map, refl, sym, ap, ◌∙◌, subst, slice_get}
use Rattle.std.specs.List.{AllByRecursion, flat_map}
use Rattle.base.proofs.Lists.{all_append}
use Rattle.base.specs.Lists.{numbered}
use Rattle.fol_formula.specs.Syntax.{negation}
use Rattle.rml_terms.specs.declared.tree.Name.{Name}
use Rattle.rml_syntax.specs.Tree.{CommandTree, Block, Blocks, Skip, Abort, Assume, Assert, If, Choose, Insert, Remove}
use Rattle.rml_syntax.specs.Tree.{Put, Assign, no_command, and_command, no_block, and_block, block_of, ItemTree, FileTree, Sort}
use Rattle.rml_syntax.specs.Tree.{Relation, Function, Variable, Axiom, Conjecture, Init, Action, Final, Define}
use Rattle.rml_syntax.specs.Within.{CommandWithin, BlockWithin, BlocksWithin, CommandsWithin, ItemWithin}
use Rattle.rml_command.specs.Trees.{PrimitiveTree, assume}
use Rattle.rml_command.specs.Paths.{has_abort}
use Rattle.rml_command.specs.declared.goal.Stage.{Stage}
use Rattle.rml_command.specs.declared.goal.Stage.TheVariants as stage
use Rattle.rml_sort_check.specs.Demands.{first_fault, block_demands}
use Rattle.rml_elaborate.specs.Formulas.{formula_of}
use Rattle.rml_syntax.specs.declared.tree.Format.{Format}
use Rattle.rml_names.specs.Drafts.{DraftTree, empty_draft}
use Rattle.rml_items.specs.Items.{body_demands}
use Rattle.rml_items.specs.Laws.{HaveMet}
use Rattle.rml_sorts.specs.Items.{draft_with}
use Rattle.branches.specs.declared.mark.Mark.{Mark}
use Rattle.branches.specs.declared.mark.Turn.TheVariants as turns
use Rattle.branches.specs.Marked.{MarkedPath, unmarked, marked, joined, marked_on, branch_count}
use Rattle.branches.specs.Marked.{marked_paths, marked_block, marked_branches}
use Rattle.branches.specs.Stages.{Located, located, init_or, final_or, action_in, init_behind, final_behind}
use Rattle.branches.specs.Stages.{actions_behind, located_block, marked_of, marks_in, marks_of}
use Rattle.branches.specs.Within.{MarksWithin}
use Rattle.branches.specs.Laws.{MarksStandInText}
use Rattle.branches.specs.Search.{init_in, last_init, final_in, last_final, action_of, actions_of, stage_commands}

-- ---- each block of a stage

abbrev Each : {A : Type 0} → (A → Type 0) → Option A → Type 0
Each Q None = Unit {0}
Each Q (Some x) = Q x

each_at : {A : Type 0} (Q : A → Type 0) (xs : List A) (k : ℕ) → AllByRecursion Q xs → Each Q (slice_get xs k)
each_at Q [] zero h = tt
each_at Q [] (suc k) h = tt
each_at Q (x ∷ xs) zero h = h.0
each_at Q (x ∷ xs) (suc k) h = each_at Q xs k h.1

-- what an item that is so gives of its block holds of each block
module _ (text : List ℕ) (Q : Located → Type 0) (So : DraftTree → ItemTree → Type 0)
    (of_init : (d : DraftTree) (at : ℕ) (cs : List CommandTree) → So d (Init at cs) → Q (located d cs))
    (of_action : (d : DraftTree) (name : Name) (cs : List CommandTree) → So d (Action name cs) → Q (located d cs))
    (of_final : (d : DraftTree) (at : ℕ) (cs : List CommandTree) → So d (Final at cs) → Q (located d cs)) where
  abbrev AreSo : DraftTree → List ItemTree → Type 0
  AreSo d [] = Unit {0}
  AreSo d (item ∷ items) = So d item × AreSo (draft_with text d item) items

  init_one : (found : Located) (d : DraftTree) (item : ItemTree) → So d item → Q found → Q (init_or found d item)
  init_one found d (Sort name names) so h = h
  init_one found d (Relation name sorts) so h = h
  init_one found d (Function name sorts sort) so h = h
  init_one found d (Variable name sort) so h = h
  init_one found d (Axiom name e) so h = h
  init_one found d (Conjecture name e) so h = h
  init_one found d (Init at cs) so h = of_init d at cs so
  init_one found d (Action name cs) so h = h
  init_one found d (Final at cs) so h = h
  init_one found d (Define name bs e) so h = h

  final_one : (found : Located) (d : DraftTree) (item : ItemTree) → So d item → Q found → Q (final_or found d item)
  final_one found d (Sort name names) so h = h
  final_one found d (Relation name sorts) so h = h
  final_one found d (Function name sorts sort) so h = h
  final_one found d (Variable name sort) so h = h
  final_one found d (Axiom name e) so h = h
  final_one found d (Conjecture name e) so h = h
  final_one found d (Init at cs) so h = h
  final_one found d (Action name cs) so h = h
  final_one found d (Define name bs e) so h = h
  final_one found d (Final at cs) so h = of_final d at cs so

  action_one : (d : DraftTree) (item : ItemTree) → So d item → AllByRecursion Q (action_in d item)
  action_one d (Sort name names) so = tt
  action_one d (Relation name sorts) so = tt
  action_one d (Function name sorts sort) so = tt
  action_one d (Variable name sort) so = tt
  action_one d (Axiom name e) so = tt
  action_one d (Conjecture name e) so = tt
  action_one d (Init at cs) so = tt
  action_one d (Action name cs) so = (of_action d name cs so, tt)
  action_one d (Final at cs) so = tt
  action_one d (Define name bs e) so = tt

  init_all : (found : Located) (d : DraftTree) (items : List ItemTree) → AreSo d items → Q found
      → Q (init_behind text found d items)
  init_all found d [] so h = h
  init_all found d (item ∷ items) so h =
      init_all (init_or found d item) (draft_with text d item) items so.1 (init_one found d item so.0 h)

  final_all : (found : Located) (d : DraftTree) (items : List ItemTree) → AreSo d items → Q found
      → Q (final_behind text found d items)
  final_all found d [] so h = h
  final_all found d (item ∷ items) so h =
      final_all (final_or found d item) (draft_with text d item) items so.1 (final_one found d item so.0 h)

  action_all : (d : DraftTree) (items : List ItemTree) → AreSo d items → AllByRecursion Q (actions_behind text d items)
  action_all d [] so = tt
  action_all d (item ∷ items) so =
      all_append Q (action_in d item) (actions_behind text (draft_with text d item) items)
      (action_one d item so.0) (action_all (draft_with text d item) items so.1)

  each_block : (items : List ItemTree) (s : Stage) → AreSo empty_draft items → Q (located empty_draft [])
      → Each Q (located_block text items s)
  each_block items stage.Init so h = init_all (located empty_draft []) empty_draft items so h
  each_block items (stage.Action a) so h =
      each_at Q (actions_behind text empty_draft items) a (action_all empty_draft items so)
  each_block items stage.Final so h = final_all (located empty_draft []) empty_draft items so h

-- ---- marks stand within

abbrev Within : ℕ → List MarkedPath → Type 0
Within n ps = AllByRecursion (λ p. MarksWithin n p.marks) ps

module _ (n : ℕ) where
  within-unmarked : (qs : List (List PrimitiveTree)) → Within n (map unmarked qs)
  within-unmarked [] = tt
  within-unmarked (q ∷ qs) = (tt, within-unmarked qs)

  within-joined : (p : MarkedPath) (xs : List MarkedPath) → MarksWithin n p.marks → Within n xs
      → Within n (map (joined p) xs)
  within-joined p [] h g = tt
  within-joined p (x ∷ xs) h g = (all_append (λ k. k.at ≤ n) p.marks x.marks h g.0, within-joined p xs h g.1)

  within-append : (xs ys : List MarkedPath) → Within n xs → Within n ys → Within n (xs ++ ys)
  within-append xs ys h g = all_append (λ p. MarksWithin n p.marks) xs ys h g

  within-one : (rest : List MarkedPath) (p : MarkedPath) (b : Bool) → MarksWithin n p.marks → Within n rest
      → Within n (cond b (p ∷ []) (map (joined p) rest))
  within-one rest p true h g = (h, tt)
  within-one rest p false h g = within-joined p rest h g

  within-on : (rest xs : List MarkedPath) → Within n rest → Within n xs → Within n (flat_map (marked_on rest) xs)
  within-on rest [] g h = tt
  within-on rest (x ∷ xs) g h =
      within-append (marked_on rest x) (flat_map (marked_on rest) xs)
      (within-one rest x (has_abort x.primitives) h.0 g) (within-on rest xs g h.1)

  module _ (text : List ℕ) (d : DraftTree) where
    mutual
      within_paths : (c : CommandTree) → CommandWithin n c → Within n (marked_paths text d c)
      within_paths (Skip at) h = (tt, tt)
      within_paths (Abort at) h = (tt, tt)
      within_paths (Assume at e) h = (tt, tt)
      within_paths (Assert at e) h = ((h.0, tt), ((h.0, tt), tt))
      within_paths (If at e a b) h =
          let p = marked at turns.IfHolds (assume (formula_of text d.vocabulary d.bodies [] e) ∷ []) in
          let q = marked at turns.IfFails (assume (negation (formula_of text d.vocabulary d.bodies [] e)) ∷ []) in
          within-append (map (joined p) (marked_block text d a)) (map (joined q) (marked_block text d b))
          (within-joined p (marked_block text d a) (h.0, tt) (within_block a h.2))
          (within-joined q (marked_block text d b) (h.0, tt) (within_block b h.3))
      within_paths (Choose at bs) h = within_branches at 1 (branch_count bs) bs h.0 h.1
      within_paths (Insert at name args) h = (tt, tt)
      within_paths (Remove at name args) h = (tt, tt)
      within_paths (Put at name args e) h = (tt, tt)
      within_paths (Assign name ps value) h = (tt, tt)

      within_block : (b : Block) → BlockWithin n b → Within n (marked_block text d b)
      within_block no_command h = (tt, tt)
      within_block (and_command c cs) h =
          within-on (marked_block text d cs) (marked_paths text d c) (within_block cs h.1) (within_paths c h.0)

      within_branches : (at i count : ℕ) (bs : Blocks) → at ≤ n → BlocksWithin n bs
          → Within n (marked_branches text d at i count bs)
      within_branches at i count no_block a h = tt
      within_branches at i count (and_block b bs) a h =
          let p = marked at (turns.Takes (record { number = i; count = count })) [] in
          within-append (map (joined p) (marked_block text d b)) (marked_branches text d at (i + 1) count bs)
          (within-joined p (marked_block text d b) (a, tt) (within_block b h.0))
          (within_branches at (i + 1) count bs a h.1)

  within_of : (cs : List CommandTree) → CommandsWithin n cs → BlockWithin n (block_of cs)
  within_of [] h = tt
  within_of (c ∷ cs) h = (h.0, within_of cs h.1)

  module _ (text : List ℕ) where
    all_within : (d : DraftTree) (items : List ItemTree) → AllByRecursion (ItemWithin n) items
        → AreSo text (λ b. CommandsWithin n b.commands) (λ d item. ItemWithin n item)
        (λ d at cs h. h.1) (λ d name cs h. h.1) (λ d at cs h. h.1) d items
    all_within d [] h = tt
    all_within d (item ∷ items) h = (h.0, all_within (draft_with text d item) items h.1)

    marked_within : (o : Option Located) → Each (λ b. CommandsWithin n b.commands) o → Within n (marked_of text o)
    marked_within None h = tt
    marked_within (Some b) h = within_block text b.before (block_of b.commands) (within_of b.commands h)

  one_within : (ps : List MarkedPath) (path : ℕ) → Within n ps → MarksWithin n (marks_in (numbered ps path))
  one_within ps zero h = tt
  one_within ps (suc k) h = of (slice_get ps k) (each_at (λ p. MarksWithin n p.marks) ps k h)
    where
      of : (o : Option MarkedPath) → Each (λ p. MarksWithin n p.marks) o → MarksWithin n (marks_in o)
      of None h = tt
      of (Some p) h = h

pub marks_within : MarksStandInText
marks_within text tree s path n h =
    one_within n (marked_of text (located_block text tree.items s)) path
    (marked_within n text (located_block text tree.items s)
    (each_block text (λ b. CommandsWithin n b.commands) (λ d item. ItemWithin n item)
    (λ d at cs g. g.1) (λ d name cs g. g.1) (λ d at cs g. g.1) tree.items s
    (all_within n text empty_draft tree.items h) tt))

-- ---- blocks without a fault

module _ (text : List ℕ) (format : Format) where
  abbrev IsMet : Located → Type 0
  IsMet b = first_fault (block_demands text b.before.vocabulary format (block_of b.commands)) ≡ None

  abbrev IsItemMet : DraftTree → ItemTree → Type 0
  IsItemMet d item = first_fault (body_demands text format d.vocabulary item) ≡ None

  all_met : (d : DraftTree) (items : List ItemTree) → HaveMet text format d.vocabulary items
      → AreSo text IsMet IsItemMet (λ d at cs h. h) (λ d name cs h. h) (λ d at cs h. h) d items
  all_met d [] h = tt
  all_met d (item ∷ items) h = (h.1, all_met (draft_with text d item) items h.2)

  each_met : (items : List ItemTree) (s : Stage) → HaveMet text format empty_draft.vocabulary items
      → Each IsMet (located_block text items s)
  each_met items s h =
      each_block text IsMet IsItemMet (λ d at cs h. h) (λ d name cs h. h) (λ d at cs h. h) items s
      (all_met empty_draft items h) refl

-- ---- the commands of a stage's block

module _ (text : List ℕ) where
  init_same : (found : Located) (m : DraftTree) (item : ItemTree)
      → (init_or found m item).commands ≡ init_in found.commands item
  init_same found m (Sort name names) = refl
  init_same found m (Relation name sorts) = refl
  init_same found m (Function name sorts sort) = refl
  init_same found m (Variable name sort) = refl
  init_same found m (Axiom name e) = refl
  init_same found m (Conjecture name e) = refl
  init_same found m (Init at cs) = refl
  init_same found m (Action name cs) = refl
  init_same found m (Final at cs) = refl
  init_same found m (Define name bs e) = refl

  final_same : (found : Located) (m : DraftTree) (item : ItemTree)
      → (final_or found m item).commands ≡ final_in found.commands item
  final_same found m (Sort name names) = refl
  final_same found m (Relation name sorts) = refl
  final_same found m (Function name sorts sort) = refl
  final_same found m (Variable name sort) = refl
  final_same found m (Axiom name e) = refl
  final_same found m (Conjecture name e) = refl
  final_same found m (Init at cs) = refl
  final_same found m (Action name cs) = refl
  final_same found m (Final at cs) = refl
  final_same found m (Define name bs e) = refl

  inits_same : (found : Located) (d : DraftTree) (items : List ItemTree)
      → (init_behind text found d items).commands ≡ last_init found.commands items
  inits_same found d [] = refl
  inits_same found d (item ∷ items) =
      inits_same (init_or found d item) (draft_with text d item) items
      ∙ ap (λ cs. last_init cs items) (init_same found d item)

  finals_same : (found : Located) (d : DraftTree) (items : List ItemTree)
      → (final_behind text found d items).commands ≡ last_final found.commands items
  finals_same found d [] = refl
  finals_same found d (item ∷ items) =
      finals_same (final_or found d item) (draft_with text d item) items
      ∙ ap (λ cs. last_final cs items) (final_same found d item)

  -- the a-th action, by what stands in front of the others
  action_same : (m : DraftTree) (item : ItemTree) (rest : List Located) (others : List (List CommandTree))
      → map (λ b. b.commands) rest ≡ others
      → map (λ b. b.commands) (action_in m item ++ rest) ≡ action_of item ++ others
  action_same m (Sort name names) rest others h = h
  action_same m (Relation name sorts) rest others h = h
  action_same m (Function name sorts sort) rest others h = h
  action_same m (Variable name sort) rest others h = h
  action_same m (Axiom name e) rest others h = h
  action_same m (Conjecture name e) rest others h = h
  action_same m (Init at cs) rest others h = h
  action_same m (Action name cs) rest others h = ap (λ z. cs ∷ z) h
  action_same m (Final at cs) rest others h = h
  action_same m (Define name bs e) rest others h = h

  actions_same : (d : DraftTree) (items : List ItemTree)
      → map (λ b. b.commands) (actions_behind text d items) ≡ actions_of items
  actions_same d [] = refl
  actions_same d (item ∷ items) =
      action_same d item (actions_behind text (draft_with text d item) items) (actions_of items)
      (actions_same (draft_with text d item) items)

  get-map : (xs : List Located) (k : ℕ)
      → option_map (λ b. b.commands) (slice_get xs k) ≡ slice_get (map (λ b. b.commands) xs) k
  get-map [] zero = refl
  get-map [] (suc k) = refl
  get-map (x ∷ xs) zero = refl
  get-map (x ∷ xs) (suc k) = get-map xs k

  same_commands : (items : List ItemTree) (s : Stage)
      → option_map (λ b. b.commands) (located_block text items s) ≡ stage_commands items s
  same_commands items stage.Init = ap (λ cs. Some cs) (inits_same (located empty_draft []) empty_draft items)
  same_commands items (stage.Action a) =
      get-map (actions_behind text empty_draft items) a
      ∙ ap (λ z. slice_get z a) (actions_same empty_draft items)
  same_commands items stage.Final = ap (λ cs. Some cs) (finals_same (located empty_draft []) empty_draft items)

-- the marks of a path of the stage's commands are those of the stage's path
pub stage_marks : (text : List ℕ) (tree : FileTree) (s : Stage) (path : ℕ) (cs : List CommandTree)
    (marks : List Mark) → Some cs ≡ stage_commands tree.items s
    → HaveMet text tree.format empty_draft.vocabulary tree.items
    → ((d : DraftTree) → first_fault (block_demands text d.vocabulary tree.format (block_of cs)) ≡ None
    → marks ≡ marks_in (numbered (marked_block text d (block_of cs)) path))
    → marks ≡ marks_of text tree.items s path
stage_marks text tree s path cs marks is ok so =
    of (located_block text tree.items s) (same_commands text tree.items s ∙ sym is)
    (each_met text tree.format tree.items s ok)
  where
    of : (o : Option Located) → option_map (λ b. b.commands) o ≡ Some cs → Each (IsMet text tree.format) o
        → marks ≡ marks_in (numbered (marked_of text o) path)
    of None e h = absurd (cc e)
    of (Some b) e h =
        let same : cs ≡ b.commands = cc e in
        so b.before
        (subst (λ z. first_fault (block_demands text b.before.vocabulary tree.format (block_of z)) ≡ None) (sym same) h)
        ∙ ap (λ z. marks_in (numbered (marked_block text b.before (block_of z)) path)) same

pub no_stage_marks : (text : List ℕ) (items : List ItemTree) (s : Stage) (path : ℕ)
    → None ≡ stage_commands items s → marks_of text items s path ≡ []
no_stage_marks text items s path is = of (located_block text items s) path (same_commands text items s ∙ sym is)
  where
    of : (o : Option Located) (path : ℕ) → option_map (λ b. b.commands) o ≡ None
        → marks_in (numbered (marked_of text o) path) ≡ []
    of None zero e = refl
    of None (suc zero) e = refl
    of None (suc (suc k)) e = refl
    of (Some b) path e = absurd (cc e)
