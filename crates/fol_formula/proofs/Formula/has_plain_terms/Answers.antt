use Rattle.std.proofs.lemmas.Bool.Decides.{Decides-at}
use Rattle.fol_formula.specs.View.{form}
use Rattle.fol_formula.specs.Deciding.{has_plain_terms}
use Rattle.fol_formula.proofs.Deciding.{plain-decides}
use Rattle.fol_formula.proofs.Formula.has_plain_terms.Goals as goal

pub returns : goal.returns
returns c =
    Decides-at c.is_plain.result (has_plain_terms (form c.args.self.now)) c.is_plain.ensures
    (plain-decides (form c.args.self.now))
