-- A text and its tree.
use Rattle.std.specs.Prelude.{ℕ, List}
use Rattle.rml_syntax.specs.declared.tree.Tree.{Tree}

-- a model's text, and the tree that it was read into
pub record TextAndTree : Type 0 where
  pub text : List ℕ
  pub tree : Tree
