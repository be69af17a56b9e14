use Rattle.std.proofs.Common.{◌≡◌, ◌-◌, ◌++◌, length, map}
use Rattle.base.specs.Lists.{count_from}
use Rattle.rml_command.specs.Goals.{stage_groups}
use Rattle.rml_command.specs.declared.goal.About.TheVariants as about
use Rattle.rml_command.proofs.groups.push_stage.Given as goal

abbrev pub invariant-loop-k : goal.invariant-loop-k
invariant-loop-k l = record {
  count : l.count ≡ length l.checked.conjectures;
  heads : l.heads.items ++ map (λ k. record { stage = l.fn.stage; about = about.Conjecture k })
      (count_from l.k (l.count - l.k))
      ≡ l.fn.heads.items ++ stage_groups l.fn.checked l.fn.stage;
}
