use Rattle.std.proofs.Common.{◌∷◌, sym, ◌∙◌}
use Rattle.fol_sig.specs.Tables.{reading, size_at}
use Rattle.fol_formula.specs.View.{form}
use Rattle.fol_formula.specs.Truth.{truth}
use Rattle.fol_eval.specs.Elements.{elements}
use Rattle.fol_eval.proofs.Laws.{all_below-false, any_below-true}
use Rattle.fol_eval.proofs.evaluation.+eval.Goals as goal

pub is_true_of_all-returns-then-not-is_true : goal.is_true_of_all-returns-then-not-is_true
is_true_of_all-returns-then-not-is_true t c =
    let below = rw c.size-element-end.ensures at c.loop-element-test.true in
    sym (all_below-false (size_at c.args.structure.now c.args.sort.0) c.loop-element.element
    (λ x. truth (reading c.args.structure.now) (form c.args.body.now) (x ∷ elements c.args.env.now)) below
    (sym c.is_true.ensures ∙ c.if-not-is_true.true))

pub is_true_of_some-returns-then-is_true : goal.is_true_of_some-returns-then-is_true
is_true_of_some-returns-then-is_true t c =
    let below = rw c.size-element-end.ensures at c.loop-element-test.true in
    sym (any_below-true (size_at c.args.structure.now c.args.sort.0) c.loop-element.element
    (λ x. truth (reading c.args.structure.now) (form c.args.body.now) (x ∷ elements c.args.env.now)) below
    (sym c.is_true.ensures ∙ c.if-is_true.true))
