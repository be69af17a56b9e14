use Rattle.limits.specs.Ceilings.{ceilings}
use Rattle.ea_decide.proofs.deciding.prepare.Goals as goal

pub returns-clause-room : goal.returns-clause-room
returns-clause-room c =
    c.room_law.ensures (ceilings c.args.limits.now) c.args.signature.now c.args.sentence.now c.args.strata.now
    (record {
      sorted = c.sorts-sorted.ensures.sorted;
      strata = c.requires.strata;
      fits = c.requires.fits;
      fragment =
          c.sentence-fragment.ensures.fragment;
    })
    c.args.limits.now.terms_in_range.1 c.args.limits.now.ground_size_in_range.1 c.requires.within
