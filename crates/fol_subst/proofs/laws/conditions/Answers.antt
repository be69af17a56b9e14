use Rattle.fol_subst.proofs.Rooms.{short_lists_suffice, short_lists_allow_shifts}
use Rattle.fol_subst.proofs.laws.conditions.Goals as goal

pub returns : goal.returns
returns c =
    record {
      replace = short_lists_suffice c.indices.ensures.bound;
      shift = short_lists_allow_shifts c.indices.ensures.bound;
    }
