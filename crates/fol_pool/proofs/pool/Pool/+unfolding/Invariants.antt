use Rattle.std.proofs.Common.{◌≡◌, ◌+◌, ◌*◌, ◌≤◌, map}
use Rattle.fol_formula.specs.Syntax.{forms_then, terms_then}
use Rattle.fol_formula.specs.View.{form, term}
use Rattle.fol_pool.specs.Trees.{HasForms, HasTerms, forms_at, terms_at}
use Rattle.fol_pool.proofs.pool.Pool.+unfolding.Given as goal

-- a part has a smaller number, and what boxes a part stands above what writes it out
abbrev pub decreases-formula : goal.decreases-formula
decreases-formula l = 2 * l.node.0

abbrev pub decreases-boxed : goal.decreases-boxed
decreases-boxed l = 2 * l.node.0 + 1

abbrev pub decreases-formulas : goal.decreases-formulas
decreases-formulas l = 2 * l.row.0

abbrev pub decreases-term : goal.decreases-term
decreases-term l = 2 * l.node.0

abbrev pub decreases-boxed_term : goal.decreases-boxed_term
decreases-boxed_term l = 2 * l.node.0 + 1

abbrev pub decreases-terms : goal.decreases-terms
decreases-terms l = 2 * l.row.0

abbrev pub invariant-formulas-loop-first : goal.invariant-formulas-loop-first
invariant-formulas-loop-first l = record {
  within : l.rest.0 ≤ l.fn.row.0;
  row : HasForms l.self l.rest.0;
  whole : forms_then (map form l.all.items) (forms_at l.self l.rest.0) ≡ forms_at l.self l.fn.row.0;
}

abbrev pub decreases-formulas-loop-first : goal.decreases-formulas-loop-first
decreases-formulas-loop-first l = l.rest.0

abbrev pub invariant-terms-loop-first : goal.invariant-terms-loop-first
invariant-terms-loop-first l = record {
  within : l.rest.0 ≤ l.fn.row.0;
  row : HasTerms l.self l.rest.0;
  whole : terms_then (map term l.all.items) (terms_at l.self l.rest.0) ≡ terms_at l.self l.fn.row.0;
}

abbrev pub decreases-terms-loop-first : goal.decreases-terms-loop-first
decreases-terms-loop-first l = l.rest.0
