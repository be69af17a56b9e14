use Rattle.std.proofs.Common.{◌≡◌, map, take}
use Rattle.fol_formula.specs.View.{form, term}
use Rattle.fol_formula.proofs.+copy.Given as goal

abbrev pub invariant-copies::copy_formulas-loop-p : goal.invariant-copies::copy_formulas-loop-p
invariant-copies::copy_formulas-loop-p l = map form l.all.items ≡ map form (take l.p-index l.formulas)

abbrev pub invariant-copies::copy_terms-loop-t : goal.invariant-copies::copy_terms-loop-t
invariant-copies::copy_terms-loop-t l = map term l.all.items ≡ map term (take l.t-index l.terms)
