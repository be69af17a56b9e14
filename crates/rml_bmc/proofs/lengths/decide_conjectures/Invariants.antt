use Rattle.std.proofs.Common.{◌≡◌, ◌-◌, length, map}
use Rattle.base.specs.Lists.{count_from}
use Rattle.rml_command.specs.declared.goal.About.TheVariants as about
use Rattle.limits.specs.Ceilings.{ceilings}
use Rattle.walks.specs.Walks.{goal_along}
use Rattle.walks.specs.Laws.{IsWalk}
use Rattle.rml_bmc.proofs.Walking.{Left}
use Rattle.rml_bmc.proofs.lengths.decide_conjectures.Given as goal

abbrev pub invariant-loop-k : goal.invariant-loop-k
invariant-loop-k l = record {
  count : l.count ≡ length l.checked.conjectures;
  left : Left l.fn.counted (ceilings l.limits) l.checked (IsWalk l.checked)
      (map (λ k. goal_along l.legs (about.Conjecture k)) (count_from 0 (length l.checked.conjectures))) l.fn.tally
      (map (λ k. goal_along l.legs (about.Conjecture k)) (count_from l.k (l.count - l.k))) l.now;
}
