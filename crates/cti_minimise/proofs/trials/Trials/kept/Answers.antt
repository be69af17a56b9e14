use Rattle.std.proofs.Common.{List, ℕ, ◌∙◌, subst}
use Rattle.cti_minimise.specs.Steps.{limits_of}
use Rattle.cti_minimise.specs.Within.{numbers_within, AreAtMost}
use Rattle.cti_minimise.proofs.Attempts.{failing-within, few-within}
use Rattle.cti_minimise.proofs.trials.Trials.kept.Goals as goal

pub returns-then-is_within : goal.returns-then-is_within
returns-then-is_within c =
    let t = c.args.self.now in
    let sig = t.checked.now.signature in
    let b = c.args.bounds.now in
    let most = subst (λ (ns : List ℕ). AreAtMost ns (numbers_within b))
    (c.deref.ensures.value ∙ c.in_ok-numbers.ensures) (c.is_within.ensures c.if-is_within.true) in (
      c.requires.pass,
      failing-within t.checked.now t.goal.now (numbers_within b) (few-within sig b c.requires.bounds)
          (c.bound_law.ensures.bounds sig) (limits_of t) c.args.found c.requires.failing most,
    )
