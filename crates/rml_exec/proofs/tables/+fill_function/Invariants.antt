use Rattle.std.proofs.Common.{◌≡◌, ◌++◌, ◌∷◌, length}
use Rattle.fol_sig.specs.Tables.{numbers, reading}
use Rattle.fol_sig.specs.Tuples.{join_below}
use Rattle.fol_sig.specs.Updates.{cells_from}
use Rattle.fol_formula.specs.View.{term}
use Rattle.fol_formula.specs.Truth.{value}
use Rattle.fol_eval.specs.Elements.{elements}
use Rattle.rml_exec.proofs.tables.+fill_function.Given as goal

abbrev pub decreases-fill_function : goal.decreases-fill_function
decreases-fill_function l = length l.sorts.now

abbrev pub invariant-loop-element : goal.invariant-loop-element
invariant-loop-element l =
    l.cells.items ≡ l.initial.cells.items ++ join_below l.element
    (λ x. cells_from l.structure.sizes (λ tuple. value (reading l.structure) (term l.by) tuple) (numbers l.rest)
    (x ∷ elements l.env))
