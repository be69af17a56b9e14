use Rattle.cti_minimise.specs.Saying.{said_by}
use Rattle.cti_minimise.specs.Steps.{limits_of}
use Rattle.cti_minimise.specs.Within.{numbers_within}
use Rattle.limits.specs.Ceilings.{ceilings}
use Rattle.cti_minimise.proofs.Attempts.{none-otherwise, still-failing, few-within}
use Rattle.cti_minimise.proofs.trials.Trials.attempt_by.Goals as goal

pub kept-requires-clause-failing : goal.kept-requires-clause-failing
kept-requires-clause-failing c =
    let t = c.args.self.now in
    let is = rw c.in-Found.is at c.in_ok-seek.ensures in
    still-failing (ceilings c.narrowed-narrowed.result) (limits_of t) t.checked.now t.goal.now _
    c.narrowed-narrowed.ensures is.0

pub returns-in-Nowhere : goal.returns-in-Nowhere
returns-in-Nowhere c =
    let t = c.args.self.now in
    let sig = t.checked.now.signature in
    let b = c.args.bounds.now in
    let is = rw c.in-Nowhere.is at c.in_ok-seek.ensures in (
      c.requires.pass,
      none-otherwise t.checked.now t.goal.now (numbers_within b) (few-within sig b c.requires.bounds)
          (c.bound_law.ensures.bounds sig) (said_by sig c.args.saying b.place)
          (c.saying_law.ensures sig c.args.saying b.place) is,
    )
