use Rattle.std.proofs.Common.{◌≡◌, drop}
use Rattle.fol_formula.specs.View.{forms}
use Rattle.fol_formula.specs.Deciding.{are_normal_forms}
use Rattle.fol_formula.proofs.classes.+normal.Given as goal

abbrev pub invariant-are_normal-loop-p : goal.invariant-are_normal-loop-p
invariant-are_normal-loop-p l =
    are_normal_forms (forms (drop l.p-index l.formulas)) ≡ are_normal_forms (forms l.formulas)
