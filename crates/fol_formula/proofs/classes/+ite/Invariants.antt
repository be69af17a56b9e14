use Rattle.std.proofs.Common.{◌≡◌, drop}
use Rattle.fol_formula.specs.View.{terms}
use Rattle.fol_formula.specs.Deciding.{are_ite_free}
use Rattle.fol_formula.proofs.classes.+ite.Given as goal

abbrev pub invariant-are_without_ite-loop-t : goal.invariant-are_without_ite-loop-t
invariant-are_without_ite-loop-t l = are_ite_free (terms (drop l.t-index l.terms)) ≡ are_ite_free (terms l.terms)
