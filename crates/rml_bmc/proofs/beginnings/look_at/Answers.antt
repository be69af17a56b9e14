use Rattle.std.proofs.Common.{sym, ◌∙◌, subst}
use Rattle.base.specs.Lists.{SomeOf}
use Rattle.rml_bmc.specs.Infeasible.{AreInfeasible}
use Rattle.rml_bmc.proofs.FrontWalks.{begun_with_one}
use Rattle.rml_bmc.proofs.beginnings.look_at.Goals as goal

pub returns-then-begins_with_one-clause-known : goal.returns-then-begins_with_one-clause-known
returns-then-begins_with_one-clause-known c =
    begun_with_one c.args.checked.now c.as_slice.result.now c.args.legs.now
    (subst (AreInfeasible c.args.checked.now) (sym c.as_slice.ensures) c.requires.before)
    (c.begins_with_one.ensures c.if-begins_with_one.true)
