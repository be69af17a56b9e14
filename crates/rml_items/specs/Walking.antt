-- Rules for whoever walks the commands of a block, and lists of what makes demands. They are inductions over trees and
-- lists that no clause speaks of, and every such walk takes them; so they stand here.
use Rattle.std.proofs.Common.{◌≡◌, ◌++◌, ◌+◌, ◌<◌, ◌≤◌, ℕ, zero, suc, List, [], ◌∷◌, length, map, drop, get_or, Some}
use Rattle.std.proofs.Common.{None, refl, sym, ap, subst, ◌∙◌, arith}
use Rattle.std.specs.Global.{Vec}
use Rattle.std.proofs.lemmas.List.{drop_all}
use Rattle.base.proofs.Lists.{drop_read, map-map}
use Rattle.base.specs.declared.refused.Refused.{Refused}
use Rattle.rml_lex.specs.declared.token.Fault.{Fault}
use Rattle.rml_terms.specs.declared.tree.Expr.{Expr}
use Rattle.rml_terms.specs.Tree.{expr_tree}
use Rattle.rml_syntax.specs.declared.tree.Command.{Command}
use Rattle.rml_syntax.specs.declared.tree.Command.TheVariants as variants
use Rattle.rml_syntax.specs.declared.tree.Command.TheViews.{rolls-If, rolls-Choose}
use Rattle.rml_syntax.specs.declared.tree.Command.TheOpen as opened
use Rattle.rml_syntax.specs.declared.tree.Command.TheFolds.{fold-roll-Command}
use Rattle.rml_syntax.specs.Tree as syntax
use Rattle.rml_syntax.specs.Tree.{Block, no_command, and_command, Blocks, no_block, and_block, command_step}
use Rattle.rml_syntax.specs.Tree.{command_tree, command_trees, block_of, block_trees, blocks_of}
use Rattle.rml_syntax.specs.Shape.{CommandNests, BlockNests, BlocksNest, CommandsNest}
use Rattle.rml_syntax.specs.Within.{CommandWithin, BlockWithin, BlocksWithin, CommandsWithin}
use Rattle.rml_sort_check.specs.Demands.{Demand, first_fault}
use Rattle.rml_sort_check.specs.Firsts.{first_left, first_right, met_left, met_right}
use Rattle.rml_items.specs.Answered.{Refuses, refuses_as, refuses_left}

-- what holds of the list from a place on holds of the element there and of those behind it
front_of : {A : Type 0} (P : List A → Type 0) (Q R : Type 0) (xs : List A) (i : ℕ) (x : A) → i < length xs
    → x ≡ get_or xs i x
    → (P (x ∷ drop (i + 1) xs) → Q) → P (drop i xs) → Q
front_of P Q R xs i x lt is so h = so (subst P (drop_read xs i x lt is) h)

-- the tree of a block's commands
abbrev pub tree_of : List Command → Block
tree_of cs = block_of (command_trees cs)

-- the trees of a choice's branches
abbrev pub trees_of : List (Vec Command) → Blocks
trees_of bs = blocks_of (block_trees bs)

-- what is known from a place of a block on is known of the command there: how deep its binders nest
pub front_nests : (n : ℕ) (xs : List Command) (i : ℕ) (x : Command) → i < length xs → x ≡ get_or xs i x
    → BlockNests n (tree_of (drop i xs)) → CommandNests n (command_tree x)
front_nests n xs i x lt is h =
    front_of (λ l. BlockNests n (tree_of l)) (CommandNests n (command_tree x)) (Unit {0}) xs i x lt is (λ p. p.0) h

-- and where its names stand
pub front_within : (n : ℕ) (xs : List Command) (i : ℕ) (x : Command) → i < length xs → x ≡ get_or xs i x
    → BlockWithin n (tree_of (drop i xs)) → CommandWithin n (command_tree x)
front_within n xs i x lt is h =
    front_of (λ l. BlockWithin n (tree_of l)) (CommandWithin n (command_tree x)) (Unit {0}) xs i x lt is (λ p. p.0) h

-- the same of a branch of a choice: how deep its binders nest
pub front_block_nests : (n : ℕ) (xs : List (Vec Command)) (i : ℕ) (x : Vec Command) → i < length xs → x ≡ get_or xs i x
    → BlocksNest n (trees_of (drop i xs)) → BlockNests n (tree_of x.items)
front_block_nests n xs i x lt is h =
    front_of (λ l. BlocksNest n (trees_of l)) (BlockNests n (tree_of x.items)) (Unit {0}) xs i x lt is (λ p. p.0) h

-- and where its names stand
pub front_block_within : (n : ℕ) (xs : List (Vec Command)) (i : ℕ) (x : Vec Command) → i < length xs → x ≡ get_or xs i x
    → BlocksWithin n (trees_of (drop i xs)) → BlockWithin n (tree_of x.items)
front_block_within n xs i x lt is h =
    front_of (λ l. BlocksWithin n (trees_of l)) (BlockWithin n (tree_of x.items)) (Unit {0}) xs i x lt is (λ p. p.0) h

-- the tree of a choice as it stands in the program
pub choice_tree : (c : Command) (at : ℕ) (bs : Vec (Vec Command)) → c ≡ variants.Choose at bs
    → command_tree c ≡ syntax.Choose at (trees_of bs.items)
choice_tree c at bs is =
    ap command_tree (is ∙ sym (rolls-Choose at bs))
    ∙ fold-roll-Command syntax.CommandTree command_step (opened.Choose at bs)
    ∙ ap (λ (bs : List (List syntax.CommandTree)). syntax.Choose at (blocks_of bs)) (map-map (λ b. b.items) _ bs.items)

-- what holds of an `if` as it stands in the program holds of its parts
pub if_given : (P : syntax.CommandTree → Type 0) (c : Command) (at : ℕ) (e : Expr) (a b : Vec Command)
    (xs ys : List Command) → c ≡ variants.If at e a b → xs ≡ a.items → ys ≡ b.items
    → P (command_tree c) → P (syntax.If at (expr_tree e) (tree_of xs) (tree_of ys))
if_given P c at e a b xs ys is p q h =
    let t : command_tree c ≡ syntax.If at (expr_tree e) (tree_of a.items) (tree_of b.items) =
    ap command_tree (is ∙ sym (rolls-If at e a b))
    ∙ fold-roll-Command syntax.CommandTree command_step (opened.If at e a b) in
    rw (p, q) (subst P t h)

-- and so of a choice
pub choice_given : (P : syntax.CommandTree → Type 0) (c : Command) (at : ℕ) (bs : Vec (Vec Command))
    (xs : List (Vec Command)) → c ≡ variants.Choose at bs → xs ≡ bs.items
    → P (command_tree c) → P (syntax.Choose at (trees_of xs))
choice_given P c at bs xs is p h = rw p (subst P (choice_tree c at bs is) h)

-- and what holds of the parts of an `if` holds of it
pub of_if : (P : syntax.CommandTree → Type 0) (c : Command) (at : ℕ) (e : Expr) (a b : Vec Command)
    → c ≡ variants.If at e a b → P (syntax.If at (expr_tree e) (tree_of a.items) (tree_of b.items)) → P (command_tree c)
of_if P c at e a b is h =
    subst P (sym (ap command_tree (is ∙ sym (rolls-If at e a b))
    ∙ fold-roll-Command syntax.CommandTree command_step (opened.If at e a b))) h

-- and so of a choice
pub of_choice : (P : syntax.CommandTree → Type 0) (c : Command) (at : ℕ) (bs : Vec (Vec Command))
    → c ≡ variants.Choose at bs → P (syntax.Choose at (trees_of bs.items)) → P (command_tree c)
of_choice P c at bs is h = subst P (sym (choice_tree c at bs is)) h

-- the branches of a choice
pub branches_nest : (n at : ℕ) (bs : Blocks) → CommandNests n (syntax.Choose at bs) → BlocksNest n bs
branches_nest n at no_block h = absurd h
branches_nest n at (and_block b bs) h = h

-- ---- turns of the loop over the commands of a block

-- what is known from a place of a block on is known behind it: how deep binders nest
pub rest_nests : (n : ℕ) (xs : List Command) (i : ℕ) (x : Command) → i < length xs → x ≡ get_or xs i x
    → BlockNests n (tree_of (drop i xs)) → BlockNests n (tree_of (drop (i + 1) xs))
rest_nests n xs i x lt is h =
    front_of (λ l. BlockNests n (tree_of l)) (BlockNests n (tree_of (drop (i + 1) xs))) (Unit {0}) xs i x lt is
    (λ p. p.1) h

-- and where names stand
pub rest_within : (n : ℕ) (xs : List Command) (i : ℕ) (x : Command) → i < length xs → x ≡ get_or xs i x
    → BlockWithin n (tree_of (drop i xs)) → BlockWithin n (tree_of (drop (i + 1) xs))
rest_within n xs i x lt is h =
    front_of (λ l. BlockWithin n (tree_of l)) (BlockWithin n (tree_of (drop (i + 1) xs))) (Unit {0}) xs i x lt is
    (λ p. p.1) h

-- the same of the branches of a choice: how deep binders nest
pub rest_blocks_nest : (n : ℕ) (xs : List (Vec Command)) (i : ℕ) (x : Vec Command) → i < length xs → x ≡ get_or xs i x
    → BlocksNest n (trees_of (drop i xs)) → BlocksNest n (trees_of (drop (i + 1) xs))
rest_blocks_nest n xs i x lt is h =
    front_of (λ l. BlocksNest n (trees_of l)) (BlocksNest n (trees_of (drop (i + 1) xs))) (Unit {0}) xs i x lt is
    (λ p. p.1) h

-- and where names stand
pub rest_blocks_within : (n : ℕ) (xs : List (Vec Command)) (i : ℕ) (x : Vec Command) → i < length xs → x ≡ get_or xs i x
    → BlocksWithin n (trees_of (drop i xs)) → BlocksWithin n (trees_of (drop (i + 1) xs))
rest_blocks_within n xs i x lt is h =
    front_of (λ l. BlocksWithin n (trees_of l)) (BlocksWithin n (trees_of (drop (i + 1) xs))) (Unit {0}) xs i x lt is
    (λ p. p.1) h

-- D gives the demands of a list, E those of its first element
module _ {A : Type 0} (D : List A → List Demand) (E : A → List Demand)
    (by : (x : A) (xs : List A) → D (x ∷ xs) ≡ E x ++ D xs) where
  first_at : (xs : List A) (i : ℕ) (x : A) → i < length xs → x ≡ get_or xs i x
      → first_fault (D (drop i xs)) ≡ first_fault (E x ++ D (drop (i + 1) xs))
  first_at xs i x lt is = ap (λ l. first_fault (D l)) (drop_read xs i x lt is) ∙ ap first_fault (by x (drop (i + 1) xs))

  -- the element at a place is refused, and so is the whole
  pub element_refused : (xs : List A) (i : ℕ) (x : A) (e : Refused Fault) → i < length xs → x ≡ get_or xs i x
      → first_fault (D (drop i xs)) ≡ first_fault (D xs) → Refuses (E x) e → Refuses (D xs) e
  element_refused xs i x e lt is so h =
      refuses_as (E x ++ D (drop (i + 1) xs)) (D xs) e (sym (first_at xs i x lt is) ∙ so)
      (refuses_left (E x) (D (drop (i + 1) xs)) e h)

  -- it is met, and the rest has the whole's first fault
  pub element_met : (xs : List A) (i : ℕ) (x : A) → i < length xs → x ≡ get_or xs i x
      → first_fault (D (drop i xs)) ≡ first_fault (D xs) → first_fault (E x) ≡ None
      → first_fault (D (drop (i + 1) xs)) ≡ first_fault (D xs)
  element_met xs i x lt is so met = sym (first_right (E x) (D (drop (i + 1) xs)) met) ∙ sym (first_at xs i x lt is) ∙ so

  -- the fault of the element at a place is that of the whole
  pub element_stops : (xs : List A) (i : ℕ) (x : A) (f : Fault) → i < length xs → x ≡ get_or xs i x
      → first_fault (D (drop i xs)) ≡ first_fault (D xs) → first_fault (E x) ≡ Some f → Some f ≡ first_fault (D xs)
  element_stops xs i x f lt is so found =
      sym (first_left (E x) (D (drop (i + 1) xs)) f found) ∙ sym (first_at xs i x lt is) ∙ so

  -- where all from a place on are met, so are the element there, and the others
  pub element_meets : (xs : List A) (i : ℕ) (x : A) → i < length xs → x ≡ get_or xs i x
      → first_fault (D (drop i xs)) ≡ None → first_fault (E x) ≡ None
  element_meets xs i x lt is none =
      met_left (E x) (D (drop (i + 1) xs)) (sym (first_at xs i x lt is) ∙ none)

  pub others_meet : (xs : List A) (i : ℕ) (x : A) → i < length xs → x ≡ get_or xs i x
      → first_fault (D (drop i xs)) ≡ None → first_fault (D (drop (i + 1) xs)) ≡ None
  others_meet xs i x lt is none =
      met_right (E x) (D (drop (i + 1) xs)) (sym (first_at xs i x lt is) ∙ none)

  -- all are met
  pub all_met : (xs : List A) (i : ℕ) → D [] ≡ [] → length xs ≤ i → first_fault (D (drop i xs)) ≡ first_fault (D xs)
      → first_fault (D xs) ≡ None
  all_met xs i none over so = sym so ∙ ap (λ l. first_fault (D l)) (drop_all i xs over) ∙ ap first_fault none

-- ---- how large a command is

-- a number that is greater for a command than for each of its blocks, and for a block than for each of its commands
abbrev mutual
  pub command_size : syntax.CommandTree → ℕ
  command_size (syntax.If at e a b) = suc (block_size a + block_size b)
  command_size (syntax.Choose at bs) = suc (blocks_size bs)
  command_size _ = 1

  pub block_size : Block → ℕ
  block_size no_command = 0
  block_size (and_command c cs) = suc (command_size c + block_size cs)

  pub blocks_size : Blocks → ℕ
  blocks_size no_block = 0
  blocks_size (and_block b bs) = suc (block_size b + blocks_size bs)

-- the first branch of an `if` is smaller than it
pub first_smaller : (c : Command) (at : ℕ) (e : Expr) (a b : Vec Command) (xs : List Command) → c ≡ variants.If at e a b
    → xs ≡ a.items → block_size (tree_of xs) < command_size (command_tree c)
first_smaller c at e a b xs is p =
    of_if (λ t. block_size (tree_of xs) < command_size t) c at e a b is
    (subst (λ l. block_size (tree_of l) < suc (block_size (tree_of a.items) + block_size (tree_of b.items))) (sym p)
    (omega arith))

-- and so is the second
pub second_smaller : (c : Command) (at : ℕ) (e : Expr) (a b : Vec Command) (xs : List Command)
    → c ≡ variants.If at e a b → xs ≡ b.items → block_size (tree_of xs) < command_size (command_tree c)
second_smaller c at e a b xs is p =
    of_if (λ t. block_size (tree_of xs) < command_size t) c at e a b is
    (subst (λ l. block_size (tree_of l) < suc (block_size (tree_of a.items) + block_size (tree_of b.items))) (sym p)
    (omega arith))

-- what stands at a place is smaller than all
pub element_smaller : (xs : List Command) (i : ℕ) (x : Command) → i < length xs → x ≡ get_or xs i x
    → command_size (command_tree x) < block_size (tree_of xs)
element_smaller [] i x lt is = absurd (omega arith)
element_smaller (y ∷ ys) zero x lt is = rw is (omega arith)
element_smaller (y ∷ ys) (suc i) x lt is = let h = element_smaller ys i x (omega arith) is in omega (arith, h)

branch_smaller : (xs : List (Vec Command)) (i : ℕ) (x : Vec Command) → i < length xs → x ≡ get_or xs i x
    → block_size (tree_of x.items) < blocks_size (trees_of xs)
branch_smaller [] i x lt is = absurd (omega arith)
branch_smaller (y ∷ ys) zero x lt is = rw is (omega arith)
branch_smaller (y ∷ ys) (suc i) x lt is = let h = branch_smaller ys i x (omega arith) is in omega (arith, h)

-- and so is each branch of a choice
pub choice_smaller : (c : Command) (at : ℕ) (bs : Vec (Vec Command)) (xs : List (Vec Command)) (i : ℕ) (x : Vec Command)
    (ys : List Command) → c ≡ variants.Choose at bs → xs ≡ bs.items
    → i < length xs → x ≡ get_or xs i x → ys ≡ x.items → block_size (tree_of ys) < command_size (command_tree c)
choice_smaller c at bs xs i x ys is p lt at_i q =
    let h : block_size (tree_of x.items) < suc (blocks_size (trees_of xs)) =
    omega (arith, branch_smaller xs i x lt at_i) in
    of_choice (λ t. block_size (tree_of ys) < command_size t) c at bs is
    (rw q (subst (λ l. block_size (tree_of x.items) < suc (blocks_size (trees_of l))) p h))

-- ---- a block's commands

-- what is known of each command of a list is known of its block: how deep binders nest
pub block_nests : (n : ℕ) (cs : List syntax.CommandTree) → CommandsNest n cs → BlockNests n (block_of cs)
block_nests n [] h = tt
block_nests n (c ∷ cs) h = (h.0, block_nests n cs h.1)

-- and where names stand
pub block_within : (n : ℕ) (cs : List syntax.CommandTree) → CommandsWithin n cs → BlockWithin n (block_of cs)
block_within n [] h = tt
block_within n (c ∷ cs) h = (h.0, block_within n cs h.1)
