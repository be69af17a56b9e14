-- The tree of a text that has a model: it has no fault, and the model is its own.
use Rattle.std.proofs.Common.{◌≡◌, ℕ, List, None, subst}
use Rattle.rml_lex.specs.declared.token.Token.{Token}
use Rattle.rml_lex.specs.Tokens.{AreTokens}
use Rattle.rml_syntax.specs.Tree.{FileTree}
use Rattle.rml_syntax.specs.Faults.{IsTree}
use Rattle.rml_items.specs.Items.{fault_of}
use Rattle.rml_sorts.specs.Items.{model_of, size_fault_of}
use Rattle.rml_command.specs.Models.{ModelTree}
use Rattle.command_parts.specs.ModelTexts.{IsTheModel}

pub record IsModelOfTree (text : List ℕ) (m : ModelTree) (tree : FileTree) : Type 0 where
  pub right : fault_of text tree ≡ None
  pub small : size_fault_of text tree ≡ None
  pub model : m ≡ model_of text tree

pub model_of_tree : (one_reading : (text : List ℕ) (a b : List Token) → AreTokens text a → AreTokens text b → a ≡ b)
    → (one_tree : (text : List ℕ) (ts : List Token) (a b : FileTree) → IsTree text ts a → IsTree text ts b → a ≡ b)
    → (text : List ℕ) (m : ModelTree) → IsTheModel text m → (tokens : List Token) (tree : FileTree)
    → AreTokens text tokens → IsTree text tokens tree → IsModelOfTree text m tree
model_of_tree one_reading one_tree text m model tokens tree are is =
    let own = model.is_model.tree in
    let resolved = model.is_model.resolved in
    let read = resolved.judged.read in
    let same : read.tokens ≡ tokens = one_reading text read.tokens tokens read.are_tokens are in
    let own_is : IsTree text tokens own = subst (λ (ts : List Token). IsTree text ts own) same read.is_tree in
    subst (IsModelOfTree text m) (one_tree text tokens own tree own_is is)
    (record { right = resolved.judged.right; small = resolved.small; model = model.is_model.model })
