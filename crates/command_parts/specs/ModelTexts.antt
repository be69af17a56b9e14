-- What is known of the text of a model that was read.
use Rattle.std.specs.Prelude.{◌≡◌, ℕ, ◌≤◌, List, length}
use Rattle.rml_lex.specs.declared.token.Fault.{Fault}
use Rattle.rml_command.specs.Models.{ModelTree}
use Rattle.rml_front.specs.Texts.{IsModelOf, IsFaultOf}

-- a model file has at most so many bytes
abbrev pub model_limit : ℕ
model_limit = 1048576

-- The model is the text's, no other is, and the text has no fault.
pub record IsTheModel (text : List ℕ) (model : ModelTree) : Type 0 where
  pub is_model : IsModelOf text model
  pub only_model : (m : ModelTree) → IsModelOf text m → m ≡ model
  pub no_fault : (f : Fault) → IsFaultOf text f → ⊥

-- The fault is the text's and stands in it, no other is, and the text has no model.
pub record IsTheFault (text : List ℕ) (fault : Fault) : Type 0 where
  pub is_fault : IsFaultOf text fault
  pub place : fault.at ≤ length text
  pub only_fault : (f : Fault) → IsFaultOf text f → f ≡ fault
  pub no_model : (m : ModelTree) → IsModelOf text m → ⊥
