use Rattle.std.proofs.Common.{◌≡◌, drop}
use Rattle.fol_formula.specs.View.{forms}
use Rattle.fol_formula.specs.Deciding.{common, common_classes}
use Rattle.fol_formula.proofs.classes.+classes.Given as goal

abbrev pub invariant-common_classes-loop-p : goal.invariant-common_classes-loop-p
invariant-common_classes-loop-p l =
    common l.all (common_classes (forms (drop l.p-index l.formulas))) ≡ common_classes (forms l.formulas)
