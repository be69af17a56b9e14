use Rattle.fol_formula.specs.View.{term}
use Rattle.fol_eval.specs.Elements.{elements}
use Rattle.fol_eval.proofs.Safety.{safe_term}
use Rattle.fol_eval.proofs.evaluation.value.Goals as goal

pub evaluate-requires : goal.evaluate-requires
evaluate-requires c =
    let h = c.requires in
    (safe_term c.range_laws.ensures.along c.range_laws.ensures.values h.sig c.args.structure.now h.structure
    (term c.args.term.now) h.sorts (elements c.args.env.now) h.into h.term h.elements).safe
