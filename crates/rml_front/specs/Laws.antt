-- What follows from the definitions of the model and the fault of a text.
use Rattle.std.specs.Prelude.{◌≡◌, ◌≤◌, ◌⊎◌, ℕ, false, List}
use Rattle.std.specs.List.{AllByRecursion}
use Rattle.rml_lex.specs.declared.token.Fault.{Fault}
use Rattle.rml_command.specs.Models.{ModelTree}
use Rattle.rml_items.specs.Items.{no_items, items_demands}
use Rattle.rml_front.specs.Texts.{IsModelOf, IsNameFault, IsFaultOf}

-- a text has one model or one fault, and never both
pub record AnswersAreUnique : Type 0 where
  pub some : (text : List ℕ) → ((m : ModelTree) × IsModelOf text m) ⊎ ((f : Fault) × IsFaultOf text f)
  pub model : (text : List ℕ) (a b : ModelTree) → IsModelOf text a → IsModelOf text b → a ≡ b
  pub fault : (text : List ℕ) (f g : Fault) → IsFaultOf text f → IsFaultOf text g → f ≡ g
  pub not_both : (text : List ℕ) (m : ModelTree) (f : Fault) → IsModelOf text m → IsFaultOf text f → ⊥

-- the fault of names and sorts stands at the least place of what the text demands of them and does not meet
abbrev pub NameFaultIsLeast : Type 0
NameFaultIsLeast = (text : List ℕ) (f : Fault) (fault : IsNameFault text f)
    → AllByRecursion (λ d. d.met ≡ false → f.at ≤ d.fault.at)
    (items_demands text fault.tree.format no_items fault.tree.items)
