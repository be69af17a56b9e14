use Rattle.std.proofs.Common.{◌≡◌, ◌<◌, false, length, length-set, ap}
use Rattle.cdcl.specs.Trail.{is_set}
use Rattle.cdcl.specs.declared.trail.Step.{Step}
use Rattle.cdcl.specs.TrailValue.{TrailValue}
use Rattle.cdcl.proofs.Trails.{values_pushed, once_push, small_push}
use Rattle.cdcl.proofs.trail.Trail.push.Goals as goal

pub invariant_of-self-2 : goal.invariant_of-self-2
invariant_of-self-2 c =
    let s : Step = record { literal = c.args.literal; reason = c.args.reason } in
    let small : c.args.literal < length c.self.inside.values.items =
    rw (ap (λ (t : TrailValue). t.size) c.self.view_is) c.requires.small in
    let unset : is_set c.self.inside.steps.items c.args.literal ≡ false =
    rw (ap (λ (t : TrailValue). t.steps) c.self.view_is) c.requires.unset in
    record {
      same = rw (c.in_ok-push.ensures.items, c.code.ensures.code)
          (values_pushed c.self.inside.values.items c.self.inside.steps.items s small c.self.invariant.same);
      once = rw c.in_ok-push.ensures.items (once_push c.self.inside.steps.items s c.self.invariant.once unset);
      small = rw (c.in_ok-push.ensures.items, length-set)
          (small_push c.self.inside.steps.items s (length c.self.inside.values.items) c.self.invariant.small small);
      few = rw length-set c.self.invariant.few;
      halves = rw (length-set, length-set) c.self.invariant.halves;
    }
