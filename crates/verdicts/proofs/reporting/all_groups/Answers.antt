use Rattle.std.proofs.Common.{sym, subst, ◌∙◌}
use Rattle.std.specs.List.{AllByRecursion}
use Rattle.rml_command.specs.Goals.{HasAbout}
use Rattle.rml_command.specs.declared.goal.Head.{Head}
use Rattle.verdicts.proofs.reporting.all_groups.Goals as goal

pub decide_all-requires-clause-heads : goal.decide_all-requires-clause-heads
decide_all-requires-clause-heads g c =
    subst (AllByRecursion (λ (h : Head). HasAbout c.args.checked.now h.stage h.about))
    (sym (c.deref.ensures.value ∙ c.in_ok-heads.ensures)) (c.goal_law.ensures.groups c.args.checked.now)
