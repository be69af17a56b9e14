-- The fragment in which a model's goals can be decided.
use Rattle.std.specs.Prelude.{ℕ, ◌≤◌, length}
use Rattle.std.specs.List.{AllByRecursion}
use Rattle.fol_sig.specs.Strata.{IsOnCycle}
use Rattle.fol_sig.specs.Symbols.{symbols}
use Rattle.fol_formula.specs.Syntax.{FormTree}
use Rattle.fol_formula.specs.Fragments.{IsEa, IsAe, IsPlainUniversal, IsQuantifierFree, IsQuantifierFreeTerm}
use Rattle.rml_command.specs.Trees.{PrimitiveTree, assume, set_rel, set_fun, havoc, havoc_rel, abort, CommandTree}
use Rattle.rml_command.specs.Trees.{EachPrimitive}
use Rattle.rml_command.specs.Paths.{paths_of, max_paths}
use Rattle.rml_command.specs.Models.{ModelTree, EachBlock, IsModel}
use Rattle.rml_command.specs.declared.places.Word.{Word}
use Rattle.rml_command.specs.declared.places.Word.TheVariants as word

-- what stands behind `assume` is exists-forall, what stands behind `assert` has an exists-forall negation, and what
-- stands behind `if` is both
abbrev pub IsDecidable : Word → FormTree → Type 0
IsDecidable word.Assume p = IsEa p
IsDecidable word.Assert p = IsAe p
IsDecidable word.If p = IsEa p × IsAe p

-- an assumption is exists-forall, and a right side has no quantifier
abbrev pub IsInFragment : PrimitiveTree → Type 0
IsInFragment (assume p) = IsEa p
IsInFragment (set_rel r by) = IsQuantifierFree by
IsInFragment (set_fun f by) = IsQuantifierFreeTerm by
IsInFragment (havoc v) = Unit {0}
IsInFragment (havoc_rel r) = Unit {0}
IsInFragment abort = Unit {0}

-- The functions are stratified: none stands on a cycle from argument sorts to the sorts of values. Axioms are
-- exists-forall, conjectures universal, conditions as above, and right sides have no quantifier.
pub record IsInModelFragment (m : ModelTree) : Type 0 where
  pub functions : (f : ℕ) → IsOnCycle (symbols m.signature) f → ⊥
  pub axioms : AllByRecursion IsEa m.axioms
  pub conjectures : AllByRecursion IsPlainUniversal m.conjectures
  pub conditions : AllByRecursion (λ c. IsDecidable c.word c.sentence) m.places.conditions
  pub blocks : EachBlock (EachPrimitive IsInFragment) m

-- a block has no more paths than it may
abbrev pub HasFewPaths : CommandTree → Type 0
HasFewPaths c = length (paths_of c) ≤ max_paths

-- What holds of every checked model.
pub record IsChecked (m : ModelTree) : Type 0 where
  pub model : IsModel m
  pub fragment : IsInModelFragment m
  pub few_paths : EachBlock HasFewPaths m
