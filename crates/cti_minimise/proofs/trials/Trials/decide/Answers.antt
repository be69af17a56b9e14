use Rattle.std.proofs.Common.{List, ap, ◌∙◌, subst}
use Rattle.fol_sig.specs.Tables.{Declared}
use Rattle.fol_formula.specs.Syntax.{FormTree}
use Rattle.rml_command.specs.Models.{ModelTree}
use Rattle.obligation_decide.specs.Restricted.{IsRestrictedDecision}
use Rattle.cti_minimise.specs.Bounding.{bounds_on}
use Rattle.cti_minimise.specs.Steps.{limits_of}
use Rattle.cti_minimise.specs.Within.{numbers_within}
use Rattle.cti_minimise.proofs.trials.Trials.decide.Goals as goal

pub returns : goal.returns
returns c =
    let t = c.args.self.now in
    let same = c.signature-signature.ensures.value ∙ ap (λ (n : ModelTree). n.signature) c.model.ensures.value in
    let said = ap (λ (sig : Declared). bounds_on sig (numbers_within c.args.bounds.now)) same in
    subst
    (λ (more : List FormTree).
    IsRestrictedDecision (limits_of t) t.checked.now more t.goal.now c.in_ok-decision.decision)
    (c.deref.ensures.value ∙ c.in_ok-sentences.ensures.said ∙ said) c.in_ok-decision.ensures
