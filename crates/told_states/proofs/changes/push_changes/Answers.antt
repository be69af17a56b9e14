use Rattle.std.proofs.Common.{subst}
use Rattle.fol_sig.specs.Tables.{Tables}
use Rattle.told_text.specs.Written.{Wrote}
use Rattle.told_states.specs.Labels.{Labels, labels_of}
use Rattle.told_states.specs.ChangeText.{below_changes, change_lines}
use Rattle.told_states.proofs.Pieces.{piece_written}
use Rattle.told_states.proofs.changes.push_changes.Goals as goal

pub returns : goal.returns
returns c =
    let s : Tables = c.args.before.now in
    let t : Tables = c.args.after.now in
    piece_written below_changes c.args.out.now _ _ _ _ _ (change_lines (labels_of c.args.model.now s) s t)
    c.new-lines.ensures.text
    (subst (λ (l : Labels). Wrote c.new-lines.result c.push_all_cells.new.out (change_lines l s t)) c.in-Ok.ensures
    c.push_all_cells.ensures)
    c.needs.ensures c.as_bytes.ensures c.push_below.ensures
