use Rattle.std.proofs.Common.{◌≡◌, ◌==◌, ◌&&◌, if◌then◌else◌, Some, subst}
use Rattle.pool_subst.specs.Memos.{Entries, kept}
use Rattle.pool_subst.proofs.memo.Memo.note.Goals as goal

pub returns-clause-noted : goal.returns-clause-noted
returns-clause-noted c = λ n d.
    subst
    (λ (old : Entries). kept c.insert.new.self.entries n d
    ≡ (if (c.args.node.0 == n) && (c.args.depth == d) then Some c.args.made else kept old n d))
    c.self.view_is (c.in_ok-insert.ensures.updates.0 (n, d))
