use Rattle.std.proofs.Common.{◌≡◌, take, map}
use Rattle.fol_formula.specs.Syntax.{forms_then, terms_then}
use Rattle.fol_formula.specs.View.{form, forms, term, terms}
use Rattle.fol_pool.specs.Trees.{Grows, HasForms, HasTerms, forms_at, terms_at}
use Rattle.fol_pool.proofs.pool.Pool.+taking.Given as goal

abbrev pub invariant-take_formulas-loop-i : goal.invariant-take_formulas-loop-i
invariant-take_formulas-loop-i l = record {
  grows : Grows l.fn.self l.self;
  row : HasForms l.self l.row.0;
  whole : forms_then (map form (take l.i l.formulas)) (forms_at l.self l.row.0) ≡ forms l.formulas;
}

abbrev pub invariant-take_terms-loop-i : goal.invariant-take_terms-loop-i
invariant-take_terms-loop-i l = record {
  grows : Grows l.fn.self l.self;
  row : HasTerms l.self l.row.0;
  whole : terms_then (map term (take l.i l.ts)) (terms_at l.self l.row.0) ≡ terms l.ts;
}
