use Rattle.std.proofs.Common.{◌++◌, option_map, sym, ap, ◌∙◌, subst}
use Rattle.base.specs.Lists.{numbered}
use Rattle.rml_syntax.specs.Tree.{command_trees, block_of, file_tree}
use Rattle.branches.specs.Marked.{marked_block}
use Rattle.branches.specs.Stages.{marks_in}
use Rattle.branches.specs.Within.{MarksWithin}
use Rattle.branches.proofs.Standing.{stage_marks, no_stage_marks}
use Rattle.branches.proofs.marked.marks_of.Goals.{in-Some+in_ok-push_path, in_default}
use Rattle.branches.proofs.marked.marks_of.Goals as goal

pub returns-clause-marks : goal.returns-clause-marks
returns-clause-marks c = λ text ok. elim c.match-stage_commands.branch [
  | in-Some+in_ok-push_path w ↦
      let cs = command_trees w.in-Some.commands.now in
      stage_marks text (file_tree c.args.tree.now) c.args.stage c.args.path cs c.match-stage_commands.marks.items
      (ap (option_map (λ r. command_trees r.now)) (sym w.in-Some.is) ∙ c.stage_commands.ensures)
      (c.met_law.ensures text (file_tree c.args.tree.now) ok)
      (λ d met. ap (λ v. v.items) w.marks-is
      ∙ w.in_ok-push_path.ensures text (file_tree c.args.tree.now).format d met
      ∙ ap (λ z. z ++ marks_in (numbered (marked_block text d (block_of cs)) c.args.path)) c.new-marks.ensures.items)
  | in_default w ↦
      ap (λ v. v.items) w.marks-is ∙ c.new-marks.ensures.items
      ∙ sym (no_stage_marks text (file_tree c.args.tree.now).items c.args.stage c.args.path
      (ap (option_map (λ r. command_trees r.now)) (sym w.in_default.is) ∙ c.stage_commands.ensures))
]

pub returns-clause-within : goal.returns-clause-within
returns-clause-within c = λ text n ok h.
    subst (λ ks. MarksWithin n ks) (sym (returns-clause-marks c text ok))
    (c.mark_law.ensures text (file_tree c.args.tree.now) c.args.stage c.args.path n h)
