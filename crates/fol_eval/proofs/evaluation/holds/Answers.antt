use Rattle.fol_formula.specs.View.{form}
use Rattle.fol_eval.specs.Elements.{elements}
use Rattle.fol_eval.proofs.Safety.{safe_form}
use Rattle.fol_eval.proofs.evaluation.holds.Goals as goal

pub is_true-requires : goal.is_true-requires
is_true-requires c =
    let h = c.requires in
    safe_form c.range_laws.ensures.along c.range_laws.ensures.values h.sig c.args.structure.now h.structure
    (form c.args.formula.now) h.sorts (elements c.args.env.now) h.formula h.elements
