use Rattle.limits.specs.Ceilings.{ceilings}
use Rattle.rml_houdini.proofs.LeanCounts.{lean_holds, lean_fails, lean_open}
use Rattle.rml_houdini.proofs.settling.settle_assumed.Goals as goal

pub returns-in-Holds : goal.returns-in-Holds
returns-in-Holds c =
    lean_holds (ceilings c.args.limits.now) c.args.checked.now c.args.goal.now c.args.assumed.now c.requires.lawful
    c.requires.within _ c.in-Holds.is c.in_ok-try_with.ensures

pub returns-in-Breaks : goal.returns-in-Breaks
returns-in-Breaks c =
    lean_fails (ceilings c.args.limits.now) c.args.checked.now c.args.goal.now c.args.assumed.now c.requires.lawful
    c.requires.within _ c.in-Breaks.shown c.in-Breaks.is c.in_ok-try_with.ensures

pub returns-in-Over : goal.returns-in-Over
returns-in-Over c =
    lean_open (ceilings c.args.limits.now) c.args.checked.now c.args.goal.now c.args.assumed.now c.requires.lawful
    c.requires.within _ c.in-Over.passed _ c.in-Over.is c.cause_of.ensures c.in_ok-try_with.ensures
