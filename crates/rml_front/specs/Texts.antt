-- The model of a text, and the fault of a text. Five phases judge it, one behind the other: its bytes, its grammar, its
-- names and sorts, the sizes of what uses of derived relations stand for, and the fragment with the number of paths.
-- The fault is that of the earliest phase that has one.
use Rattle.std.specs.Prelude.{◌≡◌, ◌⊎◌, ℕ, List, Some, None}
use Rattle.rml_lex.specs.declared.token.Token.{Token}
use Rattle.rml_lex.specs.declared.token.Fault.{Fault}
use Rattle.rml_lex.specs.Tokens.{AreTokens}
use Rattle.rml_lex.specs.Tokens as bytes
use Rattle.rml_syntax.specs.Tree.{FileTree}
use Rattle.rml_syntax.specs.Faults.{IsTree}
use Rattle.rml_syntax.specs.Faults as grammar
use Rattle.rml_items.specs.Items.{fault_of}
use Rattle.rml_sorts.specs.Items.{model_of, size_fault_of}
use Rattle.rml_command.specs.Models.{ModelTree}
use Rattle.rml_fragment.specs.Faults as fragment

-- the bytes are these tokens, and the tokens this tree
pub record IsTreeOf (text : List ℕ) (tree : FileTree) : Type 0 where
  pub tokens : List Token
  pub are_tokens : AreTokens text tokens
  pub is_tree : IsTree text tokens tree

-- a tree whose names and sorts are right
pub record IsJudged (text : List ℕ) (tree : FileTree) : Type 0 where
  pub read : IsTreeOf text tree
  pub right : fault_of text tree ≡ None

-- and of which nothing is too large
pub record IsResolved (text : List ℕ) (tree : FileTree) : Type 0 where
  pub judged : IsJudged text tree
  pub small : size_fault_of text tree ≡ None

-- The model of a text: no phase has a fault.
pub record IsModelOf (text : List ℕ) (m : ModelTree) : Type 0 where
  pub tree : FileTree
  pub resolved : IsResolved text tree
  pub model : m ≡ model_of text tree
  pub faultless : (f : Fault) → fragment.IsFault m f → ⊥

-- a fault of the grammar
pub record IsGrammarFault (text : List ℕ) (f : Fault) : Type 0 where
  pub tokens : List Token
  pub are_tokens : AreTokens text tokens
  pub fault : grammar.IsFault text tokens f

-- a fault of names and sorts
pub record IsNameFault (text : List ℕ) (f : Fault) : Type 0 where
  pub tree : FileTree
  pub read : IsTreeOf text tree
  pub fault : fault_of text tree ≡ Some f

-- a use of a derived relation in what is too large
pub record IsSizeFault (text : List ℕ) (f : Fault) : Type 0 where
  pub tree : FileTree
  pub judged : IsJudged text tree
  pub fault : size_fault_of text tree ≡ Some f

-- a fault of the fragment, or of the number of paths
pub record IsFragmentFault (text : List ℕ) (f : Fault) : Type 0 where
  pub tree : FileTree
  pub resolved : IsResolved text tree
  pub fault : fragment.IsFault (model_of text tree) f

-- The fault of a text.
abbrev pub IsFaultOf : List ℕ → Fault → Type 0
IsFaultOf text f = bytes.IsFault text f
    ⊎ (IsGrammarFault text f ⊎ (IsNameFault text f ⊎ (IsSizeFault text f ⊎ IsFragmentFault text f)))
