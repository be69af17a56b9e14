use Rattle.std.proofs.Common.{◌≡◌, map, drop}
use Rattle.fol_formula.specs.Syntax.{forms_then, terms_then}
use Rattle.fol_formula.specs.View.{form, term, forms, terms}
use Rattle.fol_subst.specs.Rules.{of_indices, forms_by, terms_by}
use Rattle.fol_subst.proofs.indices.+copy.Given as goal

abbrev pub invariant-copy_formulas-loop-p : goal.invariant-copy_formulas-loop-p
invariant-copy_formulas-loop-p g l =
    let rules = of_indices (g.R.Indices.becomes l.rule) in
    forms_then (map form l.all.items) (forms_by rules l.depth (forms (drop l.p-index l.ps)))
    ≡ forms_by rules l.depth (forms l.ps)

abbrev pub invariant-copy_terms-loop-t : goal.invariant-copy_terms-loop-t
invariant-copy_terms-loop-t g l =
    let rules = of_indices (g.R.Indices.becomes l.rule) in
    terms_then (map term l.all.items) (terms_by rules l.depth (terms (drop l.t-index l.ts)))
    ≡ terms_by rules l.depth (terms l.ts)
