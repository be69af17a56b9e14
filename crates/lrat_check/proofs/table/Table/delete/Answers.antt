use Rattle.std.proofs.Common.{◌≡◌, length, ap, ◌∙◌, sym}
use Rattle.std.proofs.lemmas.List.{with_items_is}
use Rattle.lrat_check.proofs.table.Table.delete.Goals as goal

pub invariant_of-self : goal.invariant_of-self
invariant_of-self c =
    let old = c.as_mut_slice.ensures.value in
    let ln : length c.delete_ids.new.spans ≡ c.self.inside.spans.len = c.delete_ids.auto.spans ∙ ap length old
    ∙ sym c.self.inside.spans.ok.0 in
    let e = with_items_is c.self.inside.spans c.delete_ids.new.spans ln in
    record {
      sorted = rw e c.delete_ids.ensures.sorted;
      within = rw e (c.delete_ids.ensures.within _ (rw old c.self.invariant.within));
      marks_past = c.self.invariant.marks_past;
      marks_size = rw e (c.self.invariant.marks_size ∙ sym (ap length old) ∙ sym c.delete_ids.auto.spans);
    }
