use Rattle.std.proofs.Common.{◌≡◌, ◌<◌, ◌-◌, ℕ, length, length-set, arith, ap, ◌∙◌, get_or, take}
use Rattle.std.proofs.lemmas.Grind.{common_steps}
use Rattle.cdcl.specs.declared.trail.Step.{Step}
use Rattle.cdcl.specs.Trail.{no_step, literal_at}
use Rattle.cdcl.specs.TrailValue.{TrailValue}
use Rattle.cdcl.proofs.Trails.{values_popped, once_take, small_take}
use Rattle.cdcl.proofs.trail.Trail.pop.Goals as goal

pub invariant_of-self : goal.invariant_of-self
invariant_of-self c =
    let steps = c.self.inside.steps.items in
    let some : 0 < length steps = rw (ap (λ (t : TrailValue). t.steps) c.self.view_is) c.requires in
    let len : c.len-last.result ≡ length steps =
    (let a = c.len-last.ensures in let b = c.self.inside.steps.ok.0 in omega arith) in
    let step : c.index-step.result.now ≡ get_or steps (length steps - 1) no_step =
    (let e = c.index-step.ensures in grind (arith, common_steps, e, len, some)) in
    let cut : c.truncate.new.self.items ≡ take (length steps - 1) steps =
    c.truncate.ensures.items ∙ ap (λ (n : ℕ). take (n - 1) steps) len in
    let lit : c.index-step.result.now.literal ≡ literal_at steps (length steps - 1) =
    ap (λ (s : Step). s.literal) step in
    let small = c.self.invariant.small (length steps - 1) (omega arith) in
    record {
      same = rw (cut, c.code.ensures.code, lit)
          (values_popped c.self.inside.values.items steps c.self.invariant.once some small c.self.invariant.same);
      once = rw cut (once_take steps (length steps - 1) c.self.invariant.once);
      small = rw (cut, length-set)
          (small_take steps (length steps - 1) (length c.self.inside.values.items) c.self.invariant.small);
      few = c.self.invariant.few;
      halves = rw length-set c.self.invariant.halves;
    }
