use Rattle.lrat_check.proofs.Search.{no_span}
use Rattle.lrat_check.proofs.Deletion.{release_held, nothing_held, sorted_off, within_off, row_off}
use Rattle.lrat_check.proofs.table.delete_id.Goals as goal

pub returns-in-Some-clause-held : goal.returns-in-Some-clause-held
returns-in-Some-clause-held c literals k =
    rw (c.release.ensures no_span)
    (release_held literals c.args.spans.now c.in-Some.place c.args.id no_span c.requires.sorted
    c.in-Some.ensures.some.0 (c.in-Some.ensures.some.1 no_span) k)

pub returns-in-Some-clause-sorted : goal.returns-in-Some-clause-sorted
returns-in-Some-clause-sorted c = rw (c.release.ensures no_span)
    (sorted_off c.args.spans.now c.in-Some.place no_span c.in-Some.ensures.some.0 c.requires.sorted)

pub returns-in-Some-clause-within : goal.returns-in-Some-clause-within
returns-in-Some-clause-within c n h = rw (c.release.ensures no_span)
    (within_off c.args.spans.now n c.in-Some.place no_span c.in-Some.ensures.some.0 h)

pub returns-in-Some-clause-ids : goal.returns-in-Some-clause-ids
returns-in-Some-clause-ids c k d = rw (c.release.ensures no_span)
    (row_off c.args.spans.now c.in-Some.place no_span c.in-Some.ensures.some.0 k d).0

pub returns-in_default-clause-held : goal.returns-in_default-clause-held
returns-in_default-clause-held c literals = nothing_held literals c.args.spans.now c.args.id c.in_default.ensures.none
