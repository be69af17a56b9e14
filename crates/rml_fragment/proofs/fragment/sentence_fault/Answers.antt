use Rattle.std.proofs.Common.{get_or}
use Rattle.rml_fragment.specs.Faults.{Misses}
use Rattle.rml_fragment.proofs.Placed.{taken_apart, number_apart, goes_on, ends, places_end, missed}
use Rattle.rml_fragment.proofs.fragment.sentence_fault.Goals as goal

pub returns-in_default-left : goal.returns-in_default-left
returns-in_default-left c =
    places_end (Misses c.args.demand) c.args.sentences.now c.args.places.now c.loop-rest.rest.now c.loop-rest.left.now
    c.loop-rest.first c.in_default-left.len_below c.loop-rest.invariant

pub loop-rest-preserved : goal.loop-rest-preserved
loop-rest-preserved c =
    let rest = c.loop-rest.rest.now in
    let left = c.loop-rest.left.now in
    let p = c.sentence-item.result in
    let d = c.args.demand in
    goes_on (Misses d) c.args.sentences.now c.args.places.now rest _ left _ p (get_or left 0 0) c.loop-rest.first
    c.fault_unless-fault.result c.earlier-first.result
    (taken_apart rest p c.in-len1-up.len_at_least c.sentence-item.is)
    (number_apart left c.in-len1-up-left.len_at_least) c.loop-rest.invariant
    (missed d p c.is_met.result c.code.result (get_or left 0 0) c.fault_unless-fault.result c.is_met.ensures
    c.code.ensures c.fault_unless-fault.ensures) c.earlier-first.ensures

pub returns : goal.returns
returns c =
    ends (Misses c.args.demand) c.args.sentences.now c.args.places.now c.loop-rest.rest.now c.loop-rest.left.now
    c.loop-rest.first c.in_default.len_below c.loop-rest.invariant
