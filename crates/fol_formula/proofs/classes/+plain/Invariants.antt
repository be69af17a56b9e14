use Rattle.std.proofs.Common.{◌≡◌, drop}
use Rattle.fol_formula.specs.View.{forms}
use Rattle.fol_formula.specs.Deciding.{have_plain_terms}
use Rattle.fol_formula.proofs.classes.+plain.Given as goal

abbrev pub invariant-are_plain-loop-p : goal.invariant-are_plain-loop-p
invariant-are_plain-loop-p l =
    have_plain_terms (forms (drop l.p-index l.formulas)) ≡ have_plain_terms (forms l.formulas)
