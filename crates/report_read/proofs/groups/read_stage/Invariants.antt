use Rattle.std.proofs.Common.{◌≡◌, ◌-◌, length, map}
use Rattle.base.specs.Lists.{count_from}
use Rattle.rml_command.specs.Goals.{stage_groups}
use Rattle.rml_command.specs.declared.goal.About.TheVariants as about
use Rattle.report_read.specs.Reading.{read_groups}
use Rattle.report_read.proofs.groups.read_stage.Given as goal

abbrev pub invariant-loop-k : goal.invariant-loop-k
invariant-loop-k l = record {
  count : l.count ≡ length l.checked.conjectures;
  reads : read_groups l.checked
      (map (λ k. record { stage = l.stage; about = about.Conjecture k }) (count_from l.k (l.count - l.k))) l.groups
      l.reader
      ≡ read_groups l.checked (stage_groups l.checked l.stage) l.fn.before l.fn.reader;
}
