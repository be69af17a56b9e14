-- Blocks as lists, for the loops that build them.
use Rattle.std.proofs.Common.{◌≡◌, ◌++◌, ℕ, List, [], ◌∷◌, map, refl, ap, ◌∙◌, append_assoc}
use Rattle.std.proofs.lemmas.List.{map-append}
use Rattle.fol_formula.specs.Syntax.{FormTree}
use Rattle.rml_syntax.specs.Tree.{Block, no_command, and_command, Blocks, no_block, and_block}
use Rattle.rml_command.specs.Trees.{CommandTree, CommandTrees, command_then, seq}
use Rattle.rml_command.specs.Trees as trees
use Rattle.rml_command.specs.View.{command}
use Rattle.rml_command.specs.declared.command.Command as built
use Rattle.rml_command.specs.declared.places.Condition.{Condition}
use Rattle.rml_names.specs.Vocabulary.{Vocabulary}
use Rattle.rml_sorts.specs.Commands.{branching, command_of, commands_of, branches_of}

module _ (text : List ℕ) (v : Vocabulary) (bodies : List FormTree) where
  abbrev pub block_list : Block → List CommandTree
  block_list no_command = []
  block_list (and_command c cs) = command_of text v bodies c ∷ block_list cs

  abbrev pub branch_list : Blocks → List CommandTree
  branch_list no_block = []
  branch_list (and_block b bs) = seq (commands_of text v bodies b) ∷ branch_list bs

  pub block_is : (b : Block) → trees.commands_of (block_list b) ≡ commands_of text v bodies b
  block_is no_command = refl
  block_is (and_command c cs) = ap (λ ds. command_then (command_of text v bodies c) ds) (block_is cs)

  pub branches_are : (bs : Blocks) → trees.commands_of (branch_list bs) ≡ branches_of text v bodies bs
  branches_are no_block = refl
  branches_are (and_block b bs) = ap (λ ds. command_then (seq (commands_of text v bodies b)) ds) (branches_are bs)

-- one command more
pub pushed_command : (old new : List built.Command) (c : built.Command) (tree : CommandTree) → new ≡ old ++ c ∷ []
    → command c ≡ tree → map command new ≡ map command old ++ tree ∷ []
pushed_command old new c tree more is =
    ap (λ l. map command l) more ∙ map-append command old (c ∷ [])
    ∙ ap (λ (t : CommandTree). map command old ++ t ∷ []) is

pub branching_is : (x : CommandTree) (p q : FormTree) (xs ys cs ds : CommandTrees) → x ≡ branching p xs ys → p ≡ q
    → xs ≡ cs → ys ≡ ds → x ≡ branching q cs ds
branching_is x p q xs ys cs ds is a b c = rw (← a, ← b, ← c) is

-- the conditions of an `if`
pub all_noted : (old s f g : List Condition) (x : Condition) (xs ys : List Condition) → s ≡ old ++ x ∷ [] → f ≡ s ++ xs
    → g ≡ f ++ ys → g ≡ old ++ x ∷ (xs ++ ys)
all_noted old s f g x xs ys a b c =
    c ∙ ap (λ l. l ++ ys) (b ∙ ap (λ l. l ++ xs) a) ∙ append_assoc (old ++ x ∷ []) xs ys
    ∙ append_assoc old (x ∷ []) (xs ++ ys)
