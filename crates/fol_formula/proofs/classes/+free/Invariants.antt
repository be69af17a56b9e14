use Rattle.std.proofs.Common.{◌≡◌, drop}
use Rattle.fol_formula.specs.View.{forms, terms}
use Rattle.fol_formula.specs.Deciding.{are_quantifier_free, are_quantifier_free_terms}
use Rattle.fol_formula.proofs.classes.+free.Given as goal

abbrev pub invariant-are_free-loop-p : goal.invariant-are_free-loop-p
invariant-are_free-loop-p l =
    are_quantifier_free (forms (drop l.p-index l.formulas)) ≡ are_quantifier_free (forms l.formulas)

abbrev pub invariant-are_free_terms-loop-t : goal.invariant-are_free_terms-loop-t
invariant-are_free_terms-loop-t l =
    are_quantifier_free_terms (terms (drop l.t-index l.terms)) ≡ are_quantifier_free_terms (terms l.terms)
