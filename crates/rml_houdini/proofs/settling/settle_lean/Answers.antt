use Rattle.std.proofs.Common.{ℕ, List, subst}
use Rattle.limits.specs.Ceilings.{ceilings}
use Rattle.lean_decide.specs.declared.settling.Counted.TheVariants.{Lean}
use Rattle.rml_houdini.specs.Keeping.{IsSettledBy}
use Rattle.rml_houdini.proofs.Sufficing.{grows_to_all}
use Rattle.rml_houdini.proofs.settling.settle_lean.Goals as goal

pub returns-in_ok-settled-in-Ok-clause-grows : goal.returns-in_ok-settled-in-Ok-clause-grows
returns-in_ok-settled-in-Ok-clause-grows c =
    grows_to_all c.args.held.now c.args.assumed.now.held.items c.assume_all.new.assumed.held.items c.requires.within
    c.in_ok-assume_all.ensures.held

pub returns-in_ok-settled-in-Ok-clause-settled : goal.returns-in_ok-settled-in-Ok-clause-settled
returns-in_ok-settled-in-Ok-clause-settled c =
    subst (λ (ks : List ℕ). IsSettledBy Lean (ceilings c.args.limits.now) c.args.checked.now ks c.args.goal.now
    c.assume_all.new.assumed c.in_ok-settled-in-Ok.settled) c.in_ok-assume_all.ensures.held
    c.in_ok-settled-in-Ok.ensures

pub returns-in-Err-For-clause-grows : goal.returns-in-Err-For-clause-grows
returns-in-Err-For-clause-grows c =
    grows_to_all c.args.held.now c.args.assumed.now.held.items c.assume_all.new.assumed.held.items c.requires.within
    c.in_ok-assume_all.ensures.held
