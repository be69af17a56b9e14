use Rattle.limits.specs.Ceilings.{ceilings}
use Rattle.lean_decide.proofs.LeanSettled.{by_formula}
use Rattle.lean_decide.proofs.counting.lean_passed.Goals as goal

pub returns-in-Err-For : goal.returns-in-Err-For
returns-in-Err-For c =
    let too_large = by_formula (ceilings c.args.limits.now) c.args.checked.now c.args.goal.now
    (rw c.in-Err-For.field-0-is at c.in-Err-For.ensures.limit) in
    (too_large, too_large)
