use Rattle.std.proofs.Common.{refl, false, ◌≡◌, ◌+◌, length, arith}
use Rattle.cdcl_tables.proofs.Spans.{spans_pushed}
use Rattle.cdcl_tables.proofs.clauses.Clauses.push.Goals as goal

pub returns : goal.returns
returns c =
    let end : c.in_ok-end.end ≡ length c.self.inside.literals.items + length c.args.clause.now =
    (let a = c.len-2.ensures in let b = c.in_ok-extend_from_slice.ensures.len in
    let d = c.self.inside.literals.ok.0 in let e = c.in_ok-end.ensures in omega arith) in
    let start : c.in_ok-start.start ≡ length c.self.inside.literals.items =
    (let a = c.len.ensures in let b = c.self.inside.literals.ok.0 in let e = c.in_ok-start.ensures in omega arith) in
    rw (c.in_ok-push.ensures.items, c.in_ok-extend_from_slice.ensures.items, ← c.self.view_is)
    (spans_pushed c.self.inside.literals.items c.args.clause.now c.self.inside.spans.items
    (record { start = c.in_ok-start.start; end = c.in_ok-end.end; is_true = false }) c.self.invariant start end
    refl)
