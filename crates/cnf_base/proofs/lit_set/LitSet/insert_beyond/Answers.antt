use Rattle.cnf_base.proofs.Stamped.{kept_far}
use Rattle.cnf_base.proofs.lit_set.LitSet.insert_beyond.Goals as goal

pub returns-then-code-len-clause-ok : goal.returns-then-code-len-clause-ok
returns-then-code-len-clause-ok c x =
    rw (← c.self.view_is)
    (kept_far c.self.inside.stamps.items c.self.inside.far.keys c.keep.new.kept.keys c.self.inside.epoch c.args.lit
    c.in_ok-keep.ensures.ok x)
