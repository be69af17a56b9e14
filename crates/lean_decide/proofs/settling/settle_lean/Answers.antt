use Rattle.limits.specs.Ceilings.{ceilings}
use Rattle.lean_decide.proofs.LeanSettled.{lean_holds, lean_fails, lean_open}
use Rattle.lean_decide.proofs.settling.settle_lean.Goals as goal

pub returns-in-Ok-Holds : goal.returns-in-Ok-Holds
returns-in-Ok-Holds c =
    lean_holds (ceilings c.args.limits.now) c.args.checked.now c.args.goal.now _ _ c.in-Ok-Holds.field-0-is
    c.in-Ok-Holds.ensures.decided

pub returns-in-Ok-Fails : goal.returns-in-Ok-Fails
returns-in-Ok-Fails c =
    lean_fails (ceilings c.args.limits.now) c.args.checked.now c.args.goal.now _ _ c.in-Ok-Fails.field-0-is
    c.in-Ok-Fails.ensures.decided

pub returns-in-Ok-Undecided : goal.returns-in-Ok-Undecided
returns-in-Ok-Undecided c =
    lean_open (ceilings c.args.limits.now) c.args.checked.now c.args.goal.now _ _ c.in-Ok-Undecided.field-0-is
    c.in-Ok-Undecided.ensures.decided
