-- The fault of what is too large stands in the text.
use Rattle.std.proofs.Common.{◌≡◌, ◌≤◌, ℕ, Bool, true, false, if◌then◌else◌, List, [], ◌∷◌, ◌++◌, Option, Some, None, subst}
use Rattle.std.proofs.Common.{arith}
use Rattle.std.specs.List.{AllByRecursion}
use Rattle.std.specs.Option.{option_or}
use Rattle.base.proofs.Lists.{all_append}
use Rattle.rml_lex.specs.declared.token.Fault.{Fault}
use Rattle.rml_lex.specs.Tokens.{StandsBy}
use Rattle.rml_terms.specs.declared.tree.Name.{Name}
use Rattle.rml_terms.specs.Within.{NameWithin, ExprWithin, ExprsWithin}
use Rattle.rml_terms.specs.Tree.{ExprTree, ExprTrees, True, False, Apply, Ite, Equal, Not, And, Or, Implies, Iff}
use Rattle.rml_terms.specs.Tree.{Quantified, no_expr, and_expr}
use Rattle.rml_syntax.specs.Tree as syntax
use Rattle.rml_syntax.specs.Tree.{Block, Blocks, Skip, Abort, Assume, Assert, If, Choose, Insert, Remove, Put, Assign}
use Rattle.rml_syntax.specs.Tree.{no_command, and_command, no_block, and_block, ItemTree, Relation, Function, Variable}
use Rattle.rml_syntax.specs.Tree.{Axiom, Conjecture, Init, Action, Final, Define, block_of}
use Rattle.rml_syntax.specs.Within.{ValueWithin, CommandWithin, BlockWithin, BlocksWithin, CommandsWithin, ItemWithin}
use Rattle.rml_names.specs.Vocabulary.{Vocabulary}
use Rattle.rml_names.specs.declared.meaning.Meaning.{Meaning}
use Rattle.rml_names.specs.declared.meaning.Meaning.TheVariants as meaning
use Rattle.rml_names.specs.Meanings.{bytes_of, BoundName, meaning_of, symbol_of, argument_sorts, binding, with_parameters}
use Rattle.rml_names.specs.Meanings.{with_binders}
use Rattle.fol_formula.specs.Syntax.{FormTree}
use Rattle.rml_names.specs.Drafts.{DraftTree, empty_draft}
use Rattle.rml_sort_check.specs.Demands.{Demand, first_fault}
use Rattle.rml_elaborate.specs.Sizes.{use_or_inside, first_use_of, first_use_in_each, first_use_in_side}
use Rattle.rml_elaborate.specs.Sizes.{where_large}
use Rattle.rml_sorts.specs.Sizes.{no_large_use, command_sizes, block_sizes, blocks_sizes, item_sizes}
use Rattle.rml_sorts.specs.Items.{draft_with, items_sizes}
use Rattle.rml_sorts.specs.Laws.{SizeFaultStandsInText}

module _ (n : ℕ) where
  -- the place of a use, where there is one, is in the text
  abbrev UseStands : Option ℕ → Type 0
  UseStands None = Unit {0}
  UseStands (Some at) = at ≤ n

  abbrev Stand : List Demand → Type 0
  Stand ds = AllByRecursion (λ d. d.fault.at ≤ n) ds

  both : (xs ys : List Demand) → Stand xs → Stand ys → Stand (xs ++ ys)
  both xs ys h k = all_append (λ (d : Demand). d.fault.at ≤ n) xs ys h k

  first_stands : (a b : Option ℕ) → UseStands a → UseStands b → UseStands (option_or a b)
  first_stands (Some at) b h k = h
  first_stands None b h k = k

  use_stands : (x : Meaning) (at : ℕ) (inside : Option ℕ) → at ≤ n → UseStands inside
      → UseStands (use_or_inside x at inside)
  use_stands (meaning.Bound i k) at inside h g = g
  use_stands (meaning.Relation r) at inside h g = g
  use_stands (meaning.Function f) at inside h g = g
  use_stands (meaning.Derived d) at inside h g = h
  use_stands meaning.Unknown at inside h g = g

  large_stands : (large : Bool) (first : Option ℕ) → UseStands first → Stand (no_large_use (where_large large first))
  large_stands true None h = tt
  large_stands true (Some at) h = (h, tt)
  large_stands false first h = tt

  start : (name : Name) → NameWithin n name → name.start ≤ n
  start name h = omega (arith, h.0, h.1)

  module _ (text : List ℕ) (v : Vocabulary) where
    mutual
      expr_stands : (bs : List BoundName) (e : ExprTree) → ExprWithin n e → UseStands (first_use_of text v bs e)
      expr_stands bs (True at) h = tt
      expr_stands bs (False at) h = tt
      expr_stands bs (Apply name args) h =
          use_stands (meaning_of v bs (bytes_of text name)) name.start (first_use_in_each text v bs args) (start name h.0)
          (exprs_stand bs args h.1)
      expr_stands bs (Ite at c a b) h =
          first_stands (first_use_of text v bs c) (option_or (first_use_of text v bs a) (first_use_of text v bs b))
          (expr_stands bs c h.1) (first_stands (first_use_of text v bs a) (first_use_of text v bs b)
          (expr_stands bs a h.2) (expr_stands bs b h.3))
      expr_stands bs (Equal at a b) h =
          first_stands (first_use_of text v bs a) (first_use_of text v bs b) (expr_stands bs a h.1) (expr_stands bs b h.2)
      expr_stands bs (Not at a) h = expr_stands bs a h.1
      expr_stands bs (And at args) h = exprs_stand bs args h.1
      expr_stands bs (Or at args) h = exprs_stand bs args h.1
      expr_stands bs (Implies at a b) h =
          first_stands (first_use_of text v bs a) (first_use_of text v bs b) (expr_stands bs a h.1) (expr_stands bs b h.2)
      expr_stands bs (Iff at a b) h =
          first_stands (first_use_of text v bs a) (first_use_of text v bs b) (expr_stands bs a h.1) (expr_stands bs b h.2)
      expr_stands bs (Quantified q at b a) h = expr_stands (binding text v b ∷ bs) a h.2

      exprs_stand : (bs : List BoundName) (es : ExprTrees) → ExprsWithin n es
          → UseStands (first_use_in_each text v bs es)
      exprs_stand bs no_expr h = tt
      exprs_stand bs (and_expr e es) h =
          first_stands (first_use_of text v bs e) (first_use_in_each text v bs es) (expr_stands bs e h.0)
          (exprs_stand bs es h.1)

    side_stands : (x : Meaning) (ps : List Name) (value : Option ExprTree) → ValueWithin n value
        → UseStands (first_use_in_side text v x ps value)
    side_stands x ps None h = tt
    side_stands x ps (Some e) h = expr_stands (with_parameters text [] ps (argument_sorts v x)) e h

  module _ (text : List ℕ) (v : Vocabulary) (bodies : List FormTree) where
    mutual
      command_stands : (c : syntax.CommandTree) → CommandWithin n c → Stand (command_sizes text v bodies c)
      command_stands (Skip at) h = tt
      command_stands (Abort at) h = tt
      command_stands (Assume at e) h = large_stands _ (first_use_of text v [] e) (expr_stands text v [] e h.1)
      command_stands (Assert at e) h = large_stands _ (first_use_of text v [] e) (expr_stands text v [] e h.1)
      command_stands (If at e a b) h =
          both _ (block_sizes text v bodies a ++ block_sizes text v bodies b)
          (large_stands _ (first_use_of text v [] e) (expr_stands text v [] e h.1))
          (both (block_sizes text v bodies a) (block_sizes text v bodies b) (block_stands a h.2) (block_stands b h.3))
      command_stands (Choose at bs) h = blocks_stand bs h.1
      command_stands (Insert at name args) h =
          large_stands _ (first_use_in_each text v [] args) (exprs_stand text v [] args h.2)
      command_stands (Remove at name args) h =
          large_stands _ (first_use_in_each text v [] args) (exprs_stand text v [] args h.2)
      command_stands (Put at name args e) h =
          large_stands _ (option_or (first_use_in_each text v [] args) (first_use_of text v [] e))
          (first_stands (first_use_in_each text v [] args) (first_use_of text v [] e) (exprs_stand text v [] args h.2)
          (expr_stands text v [] e h.3))
      command_stands (Assign name ps value) h =
          large_stands _ (first_use_in_side text v (symbol_of v (bytes_of text name)) ps value)
          (side_stands text v (symbol_of v (bytes_of text name)) ps value h.2)

      block_stands : (b : Block) → BlockWithin n b → Stand (block_sizes text v bodies b)
      block_stands no_command h = tt
      block_stands (and_command c cs) h =
          both (command_sizes text v bodies c) (block_sizes text v bodies cs) (command_stands c h.0) (block_stands cs h.1)

      blocks_stand : (bs : Blocks) → BlocksWithin n bs → Stand (blocks_sizes text v bodies bs)
      blocks_stand no_block h = tt
      blocks_stand (and_block b bs) h =
          both (block_sizes text v bodies b) (blocks_sizes text v bodies bs) (block_stands b h.0) (blocks_stand bs h.1)

    within_block : (cs : List syntax.CommandTree) → CommandsWithin n cs → BlockWithin n (block_of cs)
    within_block [] h = tt
    within_block (c ∷ cs) h = (h.0, within_block cs h.1)

    item_stands : (item : ItemTree) → ItemWithin n item → Stand (item_sizes text v bodies item)
    item_stands (syntax.Sort name names) h = tt
    item_stands (Relation name sorts) h = tt
    item_stands (Function name sorts sort) h = tt
    item_stands (Variable name sort) h = tt
    item_stands (Axiom name e) h = large_stands _ (first_use_of text v [] e) (expr_stands text v [] e h.1)
    item_stands (Conjecture name e) h = large_stands _ (first_use_of text v [] e) (expr_stands text v [] e h.1)
    item_stands (Init at cs) h = block_stands (block_of cs) (within_block cs h.1)
    item_stands (Action name cs) h = block_stands (block_of cs) (within_block cs h.1)
    item_stands (Final at cs) h = block_stands (block_of cs) (within_block cs h.1)
    item_stands (Define name bs e) h =
        large_stands _ (first_use_of text v (with_binders text v [] bs) e)
        (expr_stands text v (with_binders text v [] bs) e h.2)

  items_stand : (text : List ℕ) (items : List ItemTree) (d : DraftTree) → AllByRecursion (ItemWithin n) items
      → Stand (items_sizes text d items)
  items_stand text [] d h = tt
  items_stand text (item ∷ items) d h =
      both (item_sizes text d.vocabulary d.bodies item) (items_sizes text (draft_with text d item) items)
      (item_stands text d.vocabulary d.bodies item h.0) (items_stand text items (draft_with text d item) h.1)

  -- the first fault is that of one of the demands
  first_fault_stands : (ds : List Demand) (f : Fault) → Stand ds → first_fault ds ≡ Some f → StandsBy n f
  first_fault_stands [] f h e = absurd (cc)
  first_fault_stands (d ∷ ds) f h e = by d.met (λ k. first_fault_stands ds f h.1 k) e
    where
      some_is : (g : Fault) → g.at ≤ n → Some g ≡ Some f → StandsBy n f
      some_is g le is = let same : g ≡ f = cc in subst (StandsBy n) same le

      by : (b : Bool) → (first_fault ds ≡ Some f → StandsBy n f) → (if b then first_fault ds else Some d.fault) ≡ Some f
          → StandsBy n f
      by true so k = so k
      by false so k = some_is d.fault h.0 k

pub size_faults_stand : SizeFaultStandsInText
size_faults_stand text n tree f within is =
    first_fault_stands n (items_sizes text empty_draft tree.items) f
    (items_stand n text tree.items empty_draft within) is
