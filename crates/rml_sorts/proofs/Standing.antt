-- The places of a model stand in its text.
use Rattle.std.proofs.Common.{◌≤◌, ℕ, Bool, true, false, if◌then◌else◌, List, [], ◌∷◌, ◌++◌, Option, Some, None, arith}
use Rattle.std.specs.List.{AllByRecursion}
use Rattle.base.proofs.Lists.{all_append, all_push}
use Rattle.rml_terms.specs.declared.tree.Name.{Name}
use Rattle.rml_syntax.specs.Tree as syntax
use Rattle.rml_terms.specs.Tree.{ExprTree, ExprTrees, True, False, Apply, Ite, Equal, Not, And, Or, Implies, Iff}
use Rattle.rml_terms.specs.Tree.{Quantified, no_expr, and_expr}
use Rattle.rml_syntax.specs.Tree.{Block, Blocks, Skip, Abort, Assume, Assert, If, Choose}
use Rattle.rml_syntax.specs.Tree.{Insert, Remove, Put, Assign, no_command, and_command, no_block, and_block, ItemTree}
use Rattle.rml_syntax.specs.Tree.{Relation, Function, Variable, Axiom, Conjecture, Init, Action, Final, Define, block_of}
use Rattle.rml_terms.specs.Within.{NameWithin, NamesWithin, ExprWithin, ExprsWithin}
use Rattle.rml_syntax.specs.Within.{ValueWithin, CommandWithin, BlockWithin}
use Rattle.rml_syntax.specs.Within.{BlocksWithin, CommandsWithin, ItemWithin}
use Rattle.rml_command.specs.Models.{ArePlacesWithin}
use Rattle.fol_formula.specs.Syntax.{FormTree}
use Rattle.rml_names.specs.Vocabulary.{Vocabulary}
use Rattle.rml_names.specs.Drafts.{DraftTree, empty_draft, model_of_draft}
use Rattle.rml_terms.specs.Places.{name_places}
use Rattle.rml_command.specs.declared.places.Condition.{Condition}
use Rattle.rml_sorts.specs.Laws.{PlacesStandInText}
use Rattle.rml_quantifiers.specs.Quantifiers.{quantifiers_in, quantifiers_in_each}
use Rattle.rml_sorts.specs.Commands.{conditions_of, conditions_of_block, conditions_of_blocks}
use Rattle.rml_quantifiers.specs.Quantifiers.{quantifiers_of_side, quantifiers_of, quantifiers_of_block}
use Rattle.rml_quantifiers.specs.Quantifiers.{quantifiers_of_blocks}
use Rattle.rml_sorts.specs.Items.{draft_with, draft_of}

module _ (n : ℕ) where
  abbrev In : ℕ → Type 0
  In at = at ≤ n

  abbrev ConditionIn : Condition → Type 0
  ConditionIn c = c.at ≤ n

  here_or_none : (all : Bool) (at : ℕ) → at ≤ n → AllByRecursion In (if all then at ∷ [] else [])
  here_or_none true at h = (h, tt)
  here_or_none false at h = tt

  both : (xs ys : List ℕ) → AllByRecursion In xs → AllByRecursion In ys → AllByRecursion In (xs ++ ys)
  both xs ys h k = all_append In xs ys h k

  mutual
    quantifiers_stand : (all : Bool) (e : ExprTree) → ExprWithin n e → AllByRecursion In (quantifiers_in all e)
    quantifiers_stand all (True at) h = tt
    quantifiers_stand all (False at) h = tt
    quantifiers_stand all (Apply name args) h = each_stands all args h.1
    quantifiers_stand all (Ite at c a b) h =
        both (quantifiers_in true c) (quantifiers_in true a ++ quantifiers_in true b) (quantifiers_stand true c h.1)
        (both (quantifiers_in true a) (quantifiers_in true b) (quantifiers_stand true a h.2)
        (quantifiers_stand true b h.3))
    quantifiers_stand all (Equal at a b) h =
        both (quantifiers_in all a) (quantifiers_in all b) (quantifiers_stand all a h.1) (quantifiers_stand all b h.2)
    quantifiers_stand all (Not at a) h = quantifiers_stand all a h.1
    quantifiers_stand all (And at args) h = each_stands all args h.1
    quantifiers_stand all (Or at args) h = each_stands all args h.1
    quantifiers_stand all (Implies at a b) h =
        both (quantifiers_in all a) (quantifiers_in all b) (quantifiers_stand all a h.1) (quantifiers_stand all b h.2)
    quantifiers_stand all (Iff at a b) h =
        both (quantifiers_in all a) (quantifiers_in all b) (quantifiers_stand all a h.1) (quantifiers_stand all b h.2)
    quantifiers_stand all (Quantified q at b a) h =
        both (if all then at ∷ [] else []) (quantifiers_in all a) (here_or_none all at h.0)
        (quantifiers_stand all a h.2)

    each_stands : (all : Bool) (es : ExprTrees) → ExprsWithin n es → AllByRecursion In (quantifiers_in_each all es)
    each_stands all no_expr h = tt
    each_stands all (and_expr e es) h =
        both (quantifiers_in all e) (quantifiers_in_each all es) (quantifiers_stand all e h.0) (each_stands all es h.1)

  side_stands : (e : Option ExprTree) → ValueWithin n e → AllByRecursion In (quantifiers_of_side e)
  side_stands None h = tt
  side_stands (Some e) h = quantifiers_stand true e h

  mutual
    command_stands : (c : syntax.CommandTree) → CommandWithin n c → AllByRecursion In (quantifiers_of c)
    command_stands (Skip at) h = tt
    command_stands (Abort at) h = tt
    command_stands (Assume at e) h = quantifiers_stand false e h.1
    command_stands (Assert at e) h = quantifiers_stand false e h.1
    command_stands (If at e a b) h =
        both (quantifiers_in false e) (quantifiers_of_block a ++ quantifiers_of_block b) (quantifiers_stand false e h.1)
        (both (quantifiers_of_block a) (quantifiers_of_block b) (block_stands a h.2) (block_stands b h.3))
    command_stands (Choose at bs) h = blocks_stand bs h.1
    command_stands (Insert at name args) h = each_stands true args h.2
    command_stands (Remove at name args) h = each_stands true args h.2
    command_stands (Put at name args e) h =
        both (quantifiers_in_each true args) (quantifiers_in true e) (each_stands true args h.2)
        (quantifiers_stand true e h.3)
    command_stands (Assign name ps value) h = side_stands value h.2

    block_stands : (b : Block) → BlockWithin n b → AllByRecursion In (quantifiers_of_block b)
    block_stands no_command h = tt
    block_stands (and_command c cs) h =
        both (quantifiers_of c) (quantifiers_of_block cs) (command_stands c h.0) (block_stands cs h.1)

    blocks_stand : (bs : Blocks) → BlocksWithin n bs → AllByRecursion In (quantifiers_of_blocks bs)
    blocks_stand no_block h = tt
    blocks_stand (and_block b bs) h =
        both (quantifiers_of_block b) (quantifiers_of_blocks bs) (block_stands b h.0) (blocks_stand bs h.1)

  module _ (text : List ℕ) (v : Vocabulary) (bodies : List FormTree) where
    mutual
      conditions_stand : (c : syntax.CommandTree) → CommandWithin n c
          → AllByRecursion ConditionIn (conditions_of text v bodies c)
      conditions_stand (Skip at) h = tt
      conditions_stand (Abort at) h = tt
      conditions_stand (Assume at e) h = (h.0, tt)
      conditions_stand (Assert at e) h = (h.0, tt)
      conditions_stand (If at e a b) h = (
        h.0,
        all_append ConditionIn (conditions_of_block text v bodies a) (conditions_of_block text v bodies b)
            (block_conditions_stand a h.2) (block_conditions_stand b h.3),
      )
      conditions_stand (Choose at bs) h = blocks_conditions_stand bs h.1
      conditions_stand (Insert at name args) h = tt
      conditions_stand (Remove at name args) h = tt
      conditions_stand (Put at name args e) h = tt
      conditions_stand (Assign name ps value) h = tt

      block_conditions_stand : (b : Block) → BlockWithin n b → AllByRecursion ConditionIn (conditions_of_block text v bodies b)
      block_conditions_stand no_command h = tt
      block_conditions_stand (and_command c cs) h =
          all_append ConditionIn (conditions_of text v bodies c) (conditions_of_block text v bodies cs) (conditions_stand c h.0)
          (block_conditions_stand cs h.1)

      blocks_conditions_stand : (bs : Blocks) → BlocksWithin n bs
          → AllByRecursion ConditionIn (conditions_of_blocks text v bodies bs)
      blocks_conditions_stand no_block h = tt
      blocks_conditions_stand (and_block b bs) h =
          all_append ConditionIn (conditions_of_block text v bodies b) (conditions_of_blocks text v bodies bs)
          (block_conditions_stand b h.0) (blocks_conditions_stand bs h.1)

  within_block : (cs : List syntax.CommandTree) → CommandsWithin n cs → BlockWithin n (block_of cs)
  within_block [] h = tt
  within_block (c ∷ cs) h = (h.0, within_block cs h.1)

  name_stands : (name : Name) → NameWithin n name → name.start ≤ n
  name_stands name h = omega (arith, h.0, h.1)

  names_stand : (names : List Name) → NamesWithin n names → AllByRecursion In (name_places names)
  names_stand [] h = tt
  names_stand (name ∷ names) h = (name_stands name h.0, names_stand names h.1)

  -- the places of a draft, those of the axioms of listed sorts apart
  record Stands (d : DraftTree) : Type 0 where
    functions : AllByRecursion In d.places.functions
    axioms : AllByRecursion In d.places.axioms
    listed : AllByRecursion In d.listed.places
    conjectures : AllByRecursion In d.places.conjectures
    init : In d.places.init
    actions : AllByRecursion In d.places.actions
    last : In d.places.last
    conditions : AllByRecursion ConditionIn d.places.conditions
    quantifiers : AllByRecursion In d.places.quantifiers

  module _ (text : List ℕ) where
    step : (d : DraftTree) (item : ItemTree) → Stands d → ItemWithin n item → Stands (draft_with text d item)
    step d (syntax.Sort name []) s h = record {
      functions = all_append In d.places.functions [] s.functions tt;
      axioms = s.axioms;
      listed = s.listed;
      conjectures = s.conjectures;
      init = s.init;
      actions = s.actions;
      last = s.last;
      conditions = s.conditions;
      quantifiers = s.quantifiers;
    }
    step d (syntax.Sort name (one ∷ names)) s h = record {
      functions = all_append In d.places.functions (name_places (one ∷ names)) s.functions (names_stand (one ∷ names) h.1);
      axioms = s.axioms;
      listed = all_push In d.listed.places name.start s.listed (name_stands name h.0);
      conjectures = s.conjectures;
      init = s.init;
      actions = s.actions;
      last = s.last;
      conditions = s.conditions;
      quantifiers = s.quantifiers;
    }
    step d (Relation name sorts) s h = record {
      functions = s.functions;
      axioms = s.axioms;
      listed = s.listed;
      conjectures = s.conjectures;
      init = s.init;
      actions = s.actions;
      last = s.last;
      conditions = s.conditions;
      quantifiers = s.quantifiers;
    }
    step d (Function name sorts sort) s h = record {
      functions = all_push In d.places.functions name.start s.functions (name_stands name h.0);
      axioms = s.axioms;
      listed = s.listed;
      conjectures = s.conjectures;
      init = s.init;
      actions = s.actions;
      last = s.last;
      conditions = s.conditions;
      quantifiers = s.quantifiers;
    }
    step d (Variable name sort) s h = record {
      functions = all_push In d.places.functions name.start s.functions (name_stands name h.0);
      axioms = s.axioms;
      listed = s.listed;
      conjectures = s.conjectures;
      init = s.init;
      actions = s.actions;
      last = s.last;
      conditions = s.conditions;
      quantifiers = s.quantifiers;
    }
    step d (Axiom name e) s h = record {
      functions = s.functions;
      axioms = all_push In d.places.axioms name.start s.axioms (name_stands name h.0);
      listed = s.listed;
      conjectures = s.conjectures;
      init = s.init;
      actions = s.actions;
      last = s.last;
      conditions = s.conditions;
      quantifiers = both d.places.quantifiers (quantifiers_in false e) s.quantifiers
          (quantifiers_stand false e h.1);
    }
    step d (Conjecture name e) s h = record {
      functions = s.functions;
      axioms = s.axioms;
      listed = s.listed;
      conjectures = all_push In d.places.conjectures name.start s.conjectures (name_stands name h.0);
      init = s.init;
      actions = s.actions;
      last = s.last;
      conditions = s.conditions;
      quantifiers = both d.places.quantifiers (quantifiers_in false e) s.quantifiers
          (quantifiers_stand false e h.1);
    }
    step d (Init at cs) s h = record {
      functions = s.functions;
      axioms = s.axioms;
      listed = s.listed;
      conjectures = s.conjectures;
      init = h.0;
      actions = s.actions;
      last = s.last;
      conditions = all_append ConditionIn d.places.conditions (conditions_of_block text d.vocabulary d.bodies (block_of cs))
          s.conditions (block_conditions_stand text d.vocabulary d.bodies (block_of cs) (within_block cs h.1));
      quantifiers = both d.places.quantifiers (quantifiers_of_block (block_of cs)) s.quantifiers
          (block_stands (block_of cs) (within_block cs h.1));
    }
    step d (Action name cs) s h = record {
      functions = s.functions;
      axioms = s.axioms;
      listed = s.listed;
      conjectures = s.conjectures;
      init = s.init;
      actions = all_push In d.places.actions name.start s.actions (name_stands name h.0);
      last = s.last;
      conditions = all_append ConditionIn d.places.conditions (conditions_of_block text d.vocabulary d.bodies (block_of cs))
          s.conditions (block_conditions_stand text d.vocabulary d.bodies (block_of cs) (within_block cs h.1));
      quantifiers = both d.places.quantifiers (quantifiers_of_block (block_of cs)) s.quantifiers
          (block_stands (block_of cs) (within_block cs h.1));
    }
    step d (Final at cs) s h = record {
      functions = s.functions;
      axioms = s.axioms;
      listed = s.listed;
      conjectures = s.conjectures;
      init = s.init;
      actions = s.actions;
      last = h.0;
      conditions = all_append ConditionIn d.places.conditions (conditions_of_block text d.vocabulary d.bodies (block_of cs))
          s.conditions (block_conditions_stand text d.vocabulary d.bodies (block_of cs) (within_block cs h.1));
      quantifiers = both d.places.quantifiers (quantifiers_of_block (block_of cs)) s.quantifiers
          (block_stands (block_of cs) (within_block cs h.1));
    }
    step d (Define name bs e) s h = record {
      functions = s.functions;
      axioms = s.axioms;
      listed = s.listed;
      conjectures = s.conjectures;
      init = s.init;
      actions = s.actions;
      last = s.last;
      conditions = s.conditions;
      quantifiers = both d.places.quantifiers (quantifiers_in true e) s.quantifiers
          (quantifiers_stand true e h.2);
    }

    steps : (items : List ItemTree) (d : DraftTree) → Stands d → AllByRecursion (ItemWithin n) items
        → Stands (draft_of text d items)
    steps [] d s h = s
    steps (item ∷ items) d s h = steps items (draft_with text d item) (step d item s h.0) h.1

  whole : (d : DraftTree) → Stands d → ArePlacesWithin n (model_of_draft d).places
  whole d s = record {
    functions = s.functions;
    axioms = both d.listed.places d.places.axioms s.listed s.axioms;
    conjectures = s.conjectures;
    init = s.init;
    actions = s.actions;
    last = s.last;
    conditions = s.conditions;
    quantifiers = s.quantifiers;
  }

pub places_stand_in_text : PlacesStandInText
places_stand_in_text text n tree h =
    whole n (draft_of text empty_draft tree.items)
    (steps n text tree.items empty_draft
    (record {
      functions = tt;
      axioms = tt;
      listed = tt;
      conjectures = tt;
      init = omega arith;
      actions = tt;
      last = omega arith;
      conditions = tt;
      quantifiers = tt;
    }) h)
