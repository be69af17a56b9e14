-- What is proved of the ends of paths.
use Rattle.std.specs.Prelude.{◌≡◌, List, Some}
use Rattle.fol_sig.specs.Tables.{Tables}
use Rattle.fol_sig.specs.Symbols.{Symbols, FitsStructure}
use Rattle.fol_formula.specs.Syntax.{FormTree}
use Rattle.rml_command.specs.Trees.{PrimitiveTree}
use Rattle.rml_command.specs.Outcomes.{ended, follow_path}
use Rattle.rml_command.specs.declared.havoc.Havoc.{Havoc}
use Rattle.told_states.specs.Alike.{AreAlike}

-- The structure in which a path ends is like the one in which it begins, where both are over the same symbols.
abbrev pub EndsAreAlike : Type 0
EndsAreAlike =
    (axioms : List FormTree) (path : List PrimitiveTree) (havocs : List Havoc) (sig : Symbols) (s t : Tables)
    → FitsStructure sig s → FitsStructure sig t → follow_path axioms path havocs s ≡ Some (ended t) → AreAlike s t
