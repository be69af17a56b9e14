use Rattle.std.proofs.Common.{◌≡◌, ◌+◌, ◌++◌, length, ◌∙◌, ap, arith, length-append}
use Rattle.lrat_check.proofs.Growth.{on_err_holds, grown, add_row, sorted_push, within_push, within_more, up_to_push}
use Rattle.lrat_check.proofs.table.Table.add.Goals as goal

pub invariant_of-self-in_err-reserve : goal.invariant_of-self-in_err-reserve
invariant_of-self-in_err-reserve c =
    let lits = c.in_ok-extend_from_slice.ensures.items in
    let same = c.in_err-reserve.ensures.items in
    let longer : length (c.self.inside.literals.items ++ c.args.clause.now)
    ≡ length c.self.inside.literals.items + length c.args.clause.now =
    length-append c.self.inside.literals.items c.args.clause.now in
    record {
      sorted = rw same c.self.invariant.sorted;
      within = rw (same, lits) (within_more c.self.inside.spans.items
          (length c.self.inside.literals.items) _ c.self.invariant.within (omega arith));
      marks_past = c.self.invariant.marks_past;
      marks_size = rw same c.self.invariant.marks_size;
    }

pub returns-in_err-reserve-clause-err : goal.returns-in_err-reserve-clause-err
returns-in_err-reserve-clause-err c =
    on_err_holds c.from_residual-in_err-reserve.result (rw (← c.self.view_is)
    (grown c.self.inside.literals.items c.args.clause.now _ c.self.inside.spans.items _
    c.in_ok-extend_from_slice.ensures.items c.in_err-reserve.ensures.items c.self.invariant.within))

pub returns-in_err-push-clause-err : goal.returns-in_err-push-clause-err
returns-in_err-push-clause-err c =
    on_err_holds c.from_residual-in_err-push.result (rw (← c.self.view_is)
    (grown c.self.inside.literals.items c.args.clause.now _ c.self.inside.spans.items _
    c.in_ok-extend_from_slice.ensures.items c.in_ok-reserve.ensures.items c.self.invariant.within))

pub invariant_of-self-2 : goal.invariant_of-self-2
invariant_of-self-2 c =
    let spans = c.in_ok-push-2.ensures.items in
    let lits = c.in_ok-extend_from_slice.ensures.items in
    let marks = c.in_ok-push.ensures.items in
    let same = c.in_ok-reserve.ensures.items in
    let ab = rw (← c.self.view_is) at c.requires in
    let start_is : c.len-start.result ≡ length c.self.inside.literals.items = c.len-start.ensures
    ∙ c.self.inside.literals.ok.0 in
    let end_is : c.in_ok-end.end ≡ length c.self.inside.literals.items + length c.args.clause.now =
    (let e = c.in_ok-end.ensures in omega arith) in
    let longer : length (c.self.inside.literals.items ++ c.args.clause.now)
    ≡ length c.self.inside.literals.items + length c.args.clause.now =
    length-append c.self.inside.literals.items c.args.clause.now in
    record {
      sorted = rw (spans, same) (sorted_push c.self.inside.spans.items _ c.self.invariant.sorted (λ i d h. ab i d h));
      within = rw (spans, same, lits) (within_push c.self.inside.spans.items _
          (length c.self.inside.literals.items) _ c.self.invariant.within (omega arith) (omega arith) (omega arith));
      marks_past = rw marks (up_to_push c.self.inside.marks.items c.self.inside.epoch c.self.invariant.marks_past);
      marks_size = rw (marks, spans, same) (simp length-append (ap (λ n. n + 1) c.self.invariant.marks_size));
    }

pub returns-clause-ok : goal.returns-clause-ok
returns-clause-ok c k =
    let spans = c.in_ok-push-2.ensures.items in
    let lits = c.in_ok-extend_from_slice.ensures.items in
    let same = c.in_ok-reserve.ensures.items in
    let ab = rw (← c.self.view_is) at c.requires in
    let start_is : c.len-start.result ≡ length c.self.inside.literals.items = c.len-start.ensures
    ∙ c.self.inside.literals.ok.0 in
    let end_is : c.in_ok-end.end ≡ length c.self.inside.literals.items + length c.args.clause.now =
    (let e = c.in_ok-end.ensures in omega arith) in
    rw (spans, same, lits, ← c.self.view_is)
    (add_row c.self.inside.literals.items c.args.clause.now c.self.inside.spans.items c.args.id c.len-start.result
    c.in_ok-end.end c.args.is_true c.self.invariant.within start_is end_is (λ i d h. ab i d h) k)
