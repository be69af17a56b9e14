use Rattle.std.proofs.Common.{true, sym, ap, ◌∙◌}
use Rattle.fol_formula.specs.View.{form}
use Rattle.fol_formula.specs.Counts.{saturated}
use Rattle.fol_formula.proofs.NumberOf.{numbers}
use Rattle.fol_formula.proofs.Formula.existentials.Goals as goal

pub returns : goal.returns
returns c = c.count.ensures.positive ∙ ap saturated (sym (numbers true (form c.args.self.now)))
