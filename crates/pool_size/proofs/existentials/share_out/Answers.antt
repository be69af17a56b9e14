use Rattle.std.proofs.Common.{sym}
use Rattle.pool_size.proofs.Sharing.{shared}
use Rattle.pool_size.proofs.existentials.share_out.Goals as goal

pub returns-clause-shared : goal.returns-clause-shared
returns-clause-shared c = λ k lt.
    let a = c.args in
    let s = c.shape-shape.ensures in
    let h = shared k a.pool.now c.existential_laws.ensures c.shape-shape.result a.times a.counts.now a.table.now
    a.node.0 s.parts s.below c.requires.before lt in
    rw (c.count_quantifier.ensures, c.add_parts.ensures, sym s.tree) h
