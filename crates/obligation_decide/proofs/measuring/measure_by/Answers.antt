use Rattle.std.proofs.Common.{refl, subst}
use Rattle.fol_sig.specs.Tables.{Declared}
use Rattle.rml_wp.specs.Added.{refuting_where}
use Rattle.limits.specs.Ceilings.{ceilings}
use Rattle.obligation_decide.specs.Costs.{IsSentenceMeasured}
use Rattle.obligation_decide.proofs.Restricting.{measured_by}
use Rattle.rml_wp.specs.declared.premises.Premises.TheVariants.{All}
use Rattle.obligation_decide.proofs.measuring.measure_by.Goals as goal

pub returns : goal.returns
returns c =
    let m = c.args.checked.now in
    let limits = ceilings c.args.limits.now in
    let more = c.args.more.now in
    measured_by limits m c.args.goal.now more c.requires.within _ _ refl
    (subst (λ (d : Declared). IsSentenceMeasured limits d (refuting_where All m m.conjectures more c.args.goal.now)
    c.in_ok-measured.measured) c.requires.answered c.in_ok-measured.ensures)
