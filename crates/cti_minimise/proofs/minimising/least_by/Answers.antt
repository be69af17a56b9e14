use Rattle.std.proofs.Common.{◌≡◌, ◌+◌, ℕ, suc, take, ap, ◌∙◌, subst, arith}
use Rattle.std.proofs.lemmas.List.{take_all}
use Rattle.rml_command.specs.Models.{ModelTree}
use Rattle.cti_minimise.specs.Extents.{extent, places}
use Rattle.cti_minimise.specs.Minimal.{AreLeast}
use Rattle.cti_minimise.specs.Steps.{limits_of}
use Rattle.cti_minimise.proofs.Extending.{length-extent}
use Rattle.cti_minimise.proofs.Tried.{at-start}
use Rattle.cti_minimise.proofs.minimising.least_by.Goals as goal

pub loop-place-init : goal.loop-place-init
loop-place-init c =
    let t = c.args.trials.now in
    (c.requires.failing, at-start (limits_of t) t.checked.now t.goal.now)

pub loop-place-preserved : goal.loop-place-preserved
loop-place-preserved c =
    let is = rw c.in-Settled.is at c.in_ok-settled.ensures in
    let next : suc c.loop-place.place ≡ c.loop-place.place + 1 = omega arith in (
      is.0,
      subst
          (λ (n : ℕ).
          AreLeast (limits_of c.args.trials.now) c.args.trials.now.checked.now c.args.trials.now.goal.now
          (take n (extent c.in-Settled.settled.structure)))
          next is.1,
    )

pub returns-clause-least : goal.returns-clause-least
returns-clause-least c =
    let m = c.args.trials.now.checked.now in
    let s = c.loop-place.found.structure in
    let same = c.signature-signature.ensures.value ∙ ap (λ (n : ModelTree). n.signature) c.model.ensures.value in
    let known = c.places-place-end.ensures ∙ ap places same in
    let count = length-extent m.signature s c.loop-place.invariant.0.refutes.structure in
    let all = take_all c.loop-place.place (extent s) (omega (arith, known, count)) in
    subst (AreLeast (limits_of c.args.trials.now) m c.args.trials.now.goal.now) all c.loop-place.invariant.1
