use Rattle.std.proofs.Common.{◌≡◌, ◌++◌, true, false, length, take, drop, ◌∷◌}
use Rattle.fol_sig.specs.Tables.{reading}
use Rattle.fol_formula.specs.View.{form, forms, terms}
use Rattle.fol_formula.specs.Truth.{truth, all_true, any_true, values, all_below, any_below}
use Rattle.fol_eval.specs.Elements.{elements}
use Rattle.fol_eval.specs.Safe.{SafeForms, SafeTerms}
use Rattle.fol_eval.proofs.evaluation.+eval.Given as goal

abbrev pub invariant-are_all_true-loop-p : goal.invariant-are_all_true-loop-p
invariant-are_all_true-loop-p l = record {
  safe : SafeForms l.structure (forms (drop l.p-index l.formulas)) (elements l.env);
  same : all_true (reading l.structure) (forms (drop l.p-index l.formulas)) (elements l.env)
      ≡ all_true (reading l.structure) (forms l.formulas) (elements l.env);
}

abbrev pub invariant-is_any_true-loop-p : goal.invariant-is_any_true-loop-p
invariant-is_any_true-loop-p l = record {
  safe : SafeForms l.structure (forms (drop l.p-index l.formulas)) (elements l.env);
  same : any_true (reading l.structure) (forms (drop l.p-index l.formulas)) (elements l.env)
      ≡ any_true (reading l.structure) (forms l.formulas) (elements l.env);
}

abbrev pub invariant-is_true_of_all-loop-element : goal.invariant-is_true_of_all-loop-element
invariant-is_true_of_all-loop-element l =
    all_below l.element (λ x. truth (reading l.structure) (form l.body) (x ∷ elements l.env)) ≡ true

abbrev pub invariant-is_true_of_some-loop-element : goal.invariant-is_true_of_some-loop-element
invariant-is_true_of_some-loop-element l =
    any_below l.element (λ x. truth (reading l.structure) (form l.body) (x ∷ elements l.env)) ≡ false

abbrev pub invariant-evaluate_all-loop-i : goal.invariant-evaluate_all-loop-i
invariant-evaluate_all-loop-i l = record {
  room : length l.tuple ≡ 8;
  safe : SafeTerms l.structure (terms (drop l.i l.terms)) (elements l.env);
  same : take l.i l.tuple ++ values (reading l.structure) (terms (drop l.i l.terms)) (elements l.env)
      ≡ values (reading l.structure) (terms l.terms) (elements l.env);
}
