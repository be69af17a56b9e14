use Rattle.std.proofs.Common.{◌≡◌, ◌++◌, drop, map}
use Rattle.std.specs.List.{AllByRecursion}
use Rattle.rml_command.specs.Goals.{HasAbout}
use Rattle.rml_report.specs.Reports.{head_of}
use Rattle.pool_wp.specs.Sharing.{IsPoolOf}
use Rattle.limits.specs.Ceilings.{ceilings}
use Rattle.verdicts.specs.Answers.{IsGroupNow}
use Rattle.verdicts.proofs.reporting.decide_all.Given as goal

abbrev pub invariant-loop-head : goal.invariant-loop-head
invariant-loop-head g l = record {
  shared : IsPoolOf l.fn.checked l.shared;
  known : AllByRecursion (λ h. HasAbout l.fn.checked h.stage h.about) (drop l.head-index l.heads);
  heads : map head_of l.groups.items ++ drop l.head-index l.heads ≡ l.heads;
  now : AllByRecursion (IsGroupNow l.fn.counted (ceilings l.fn.limits) l.fn.checked) l.groups.items;
}
