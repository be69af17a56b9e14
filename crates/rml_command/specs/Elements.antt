-- Traces of paths without the havoc of a relation: each entry is an element.
use Rattle.std.specs.Prelude.{◌≡◌, ℕ, List, [], ◌∷◌, length, map, Some}
use Rattle.fol_sig.specs.Tables.{Tables}
use Rattle.fol_sig.specs.Symbols.{Symbols}
use Rattle.fol_formula.specs.Syntax.{FormTree}
use Rattle.rml_command.specs.Trees.{PrimitiveTree}
use Rattle.rml_command.specs.Outcomes.{Outcome, follow_path}
use Rattle.rml_command.specs.Paths.{EndsAtAbort, havoc_count}
use Rattle.rml_command.specs.Models.{FitsSteps}
use Rattle.rml_command.specs.declared.havoc.Havoc.{Havoc}
use Rattle.rml_command.specs.declared.havoc.Havoc.TheVariants.{Element, Tuples}

-- the elements among the entries of a trace, in order
abbrev pub elements_of : List Havoc → List ℕ
elements_of [] = []
elements_of (Element x ∷ havocs) = x ∷ elements_of havocs
elements_of (Tuples xss ∷ havocs) = elements_of havocs

-- a trace of elements alone
abbrev pub havocs_of : List ℕ → List Havoc
havocs_of xs = map Element xs

-- Elements that were made a trace are its elements. A path without the havoc of a relation takes elements alone.
pub record TracesAreElements : Type 0 where
  pub back : (xs : List ℕ) → elements_of (havocs_of xs) ≡ xs
  pub taken : (sig : Symbols) (axioms : List FormTree) (p : List PrimitiveTree) (havocs : List Havoc) (s : Tables)
      (o : Outcome) → FitsSteps sig p → EndsAtAbort p → length havocs ≡ havoc_count p
      → follow_path axioms p havocs s ≡ Some o → havocs_of (elements_of havocs) ≡ havocs
