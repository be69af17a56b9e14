use Rattle.std.proofs.Common.{subst, ap, ◌∙◌}
use Rattle.fol_sig.specs.Tables.{IsSignature}
use Rattle.rml_command.specs.Models.{ModelTree}
use Rattle.rml_wp.proofs.laws.answered_goal.Goals as goal

pub returns-clause-signature : goal.returns-clause-signature
returns-clause-signature c =
    subst IsSignature (c.signature.ensures.value ∙ ap (λ (m : ModelTree). m.signature) c.model.ensures.value)
    c.sorts.ensures.signature

pub returns-clause-answered : goal.returns-clause-answered
returns-clause-answered c =
    c.answered_law.ensures.answered c.args.checked.now c.args.goal.now c.model.ensures.checked.model.fits
    (subst IsSignature (c.signature.ensures.value ∙ ap (λ (m : ModelTree). m.signature) c.model.ensures.value)
    c.sorts.ensures.signature) c.requires
