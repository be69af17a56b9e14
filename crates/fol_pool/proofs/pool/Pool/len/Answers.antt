use Rattle.std.proofs.Common.{sym, ap, ◌∙◌, length}
use Rattle.fol_pool.proofs.Grown.{length_grown}
use Rattle.fol_pool.proofs.pool.Pool.len.Goals as goal

pub returns-clause-length : goal.returns-clause-length
returns-clause-length c = c.len.ensures.len ∙ sym (length_grown c.self.inside.shapes.keys) ∙ ap length c.self.view_is
