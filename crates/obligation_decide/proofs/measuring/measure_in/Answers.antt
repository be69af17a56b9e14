use Rattle.std.proofs.Common.{[], refl, subst}
use Rattle.fol_sig.specs.Tables.{Declared}
use Rattle.rml_wp.specs.Added.{refuting_where}
use Rattle.limits.specs.Ceilings.{ceilings}
use Rattle.obligation_decide.specs.Costs.{IsSentenceMeasured}
use Rattle.obligation_decide.proofs.Restricting.{measured_by}
use Rattle.rml_wp.specs.declared.premises.Premises.TheVariants.{All}
use Rattle.obligation_decide.proofs.measuring.measure_in.Goals as goal

pub returns-in_ok-found-in-Ok-clause-measured : goal.returns-in_ok-found-in-Ok-clause-measured
returns-in_ok-found-in-Ok-clause-measured c =
    let m = c.args.checked.now in
    let limits = ceilings c.args.limits.now in
    let p = refuting_where All m m.conjectures [] c.args.goal.now in
    measured_by limits m c.args.goal.now [] c.in-Ok.ensures.within _ _ refl
    (subst (λ (d : Declared). IsSentenceMeasured limits d p c.measured.result) c.in-Ok.ensures.signature
    (c.measured.ensures _ p c.in_ok-found-in-Ok.ensures.size))
