use Rattle.pool_nnf.proofs.Entries.{kept_stays}
use Rattle.pool_nnf.proofs.normals.Normals.add.Goals as goal

pub invariant_of-self-2 : goal.invariant_of-self-2
invariant_of-self-2 c = kept_stays c.self.inside.pool c.add.new.self c.add.ensures.grows c.self.inside.made.entries
    c.self.inside.plain.keys c.self.invariant
