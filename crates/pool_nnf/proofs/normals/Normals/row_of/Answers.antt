use Rattle.pool_nnf.proofs.Entries.{kept_stays}
use Rattle.pool_nnf.proofs.normals.Normals.row_of.Goals as goal

pub invariant_of-self : goal.invariant_of-self
invariant_of-self c = kept_stays c.self.inside.pool c.row_of.new.self c.row_of.ensures.grows c.self.inside.made.entries
    c.self.inside.plain.keys c.self.invariant

pub invariant_of-self-2 : goal.invariant_of-self-2
invariant_of-self-2 c = kept_stays c.self.inside.pool c.row_of.new.self c.row_of.ensures.grows
    c.self.inside.made.entries c.self.inside.plain.keys c.self.invariant
