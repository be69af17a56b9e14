use Rattle.std.proofs.lemmas.Bool.Decides.{Decides-at}
use Rattle.fol_formula.specs.View.{form}
use Rattle.fol_formula.specs.Deciding.{is_normal_form}
use Rattle.fol_formula.proofs.Deciding.{normal-decides}
use Rattle.fol_formula.proofs.Formula.is_normal_form.Goals as goal

pub returns : goal.returns
returns c =
    Decides-at c.is_normal.result (is_normal_form (form c.args.self.now)) c.is_normal.ensures
    (normal-decides (form c.args.self.now))
