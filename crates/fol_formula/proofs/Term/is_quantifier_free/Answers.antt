use Rattle.std.proofs.lemmas.Bool.Decides.{Decides-at}
use Rattle.fol_formula.specs.View.{term}
use Rattle.fol_formula.specs.Deciding.{is_quantifier_free_term}
use Rattle.fol_formula.proofs.Deciding.{quantifier_free_term-decides}
use Rattle.fol_formula.proofs.Term.is_quantifier_free.Goals as goal

pub returns : goal.returns
returns c =
    Decides-at c.is_free_term.result (is_quantifier_free_term (term c.args.self.now)) c.is_free_term.ensures
    (quantifier_free_term-decides (term c.args.self.now))
