use Rattle.cti_minimise.proofs.AtMosts.{at-most-taken}
use Rattle.cti_minimise.proofs.extents.is_within.Goals as goal

pub returns : goal.returns
returns c = λ yes.
    at-most-taken c.args.found.now c.args.bounds.now.numbers.now c.args.bounds.now.place c.args.bounds.now.most
    c.if-bounds-found.false c.requires (c.are_at_most-within.ensures yes) c.if-found-bounds.false
