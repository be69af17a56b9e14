use Rattle.std.proofs.lemmas.Bool.Decides.{Decides-at}
use Rattle.fol_formula.specs.View.{form}
use Rattle.fol_formula.specs.Deciding.{is_quantifier_free}
use Rattle.fol_formula.proofs.Deciding.{quantifier_free-decides}
use Rattle.fol_formula.proofs.Formula.is_quantifier_free.Goals as goal

pub returns : goal.returns
returns c =
    Decides-at c.is_free.result (is_quantifier_free (form c.args.self.now)) c.is_free.ensures
    (quantifier_free-decides (form c.args.self.now))
