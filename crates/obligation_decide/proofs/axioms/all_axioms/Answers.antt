use Rattle.std.proofs.Common.{sym, ap, ◌∙◌, subst}
use Rattle.fol_formula.specs.Fits.{BoundForm}
use Rattle.fol_formula.specs.Fragments.{IsEa}
use Rattle.fol_formula.specs.Sentences.{all_of}
use Rattle.obligation_decide.proofs.SameAnswer.{axioms_of}
use Rattle.obligation_decide.proofs.Conjoined.{axioms-bound, axioms-ea}
use Rattle.obligation_decide.proofs.axioms.all_axioms.Goals as goal

pub of-requires : goal.of-requires
of-requires c =
    let m = c.args.checked.now in
    let axioms = axioms_of _ _ m c.axioms.ensures.value c.model-model.ensures.value in
    let is = c.in_ok-axioms.ensures ∙ ap all_of axioms in
    subst (BoundForm 0) (sym is) (axioms-bound m c.indices.ensures.bound c.model-model.ensures.checked.model.fits)

pub new-requires : goal.new-requires
new-requires c =
    let m = c.args.checked.now in
    let axioms = axioms_of _ _ m c.axioms.ensures.value c.model-model.ensures.value in
    let is = c.in_ok-axioms.ensures ∙ ap all_of axioms in
    subst IsEa (sym (c.of.ensures ∙ is)) (axioms-ea m c.model-model.ensures.checked.fragment.axioms)
