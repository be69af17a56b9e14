use Rattle.std.proofs.Common.{length, get_or, arith, reverse}
use Rattle.cdcl.specs.State.{held_in}
use Rattle.cdcl.specs.Found.{top_of}
use Rattle.cdcl.proofs.Asserting.{asserting, resolvent_small}
use Rattle.cdcl.proofs.Backing.{start_at_most}
use Rattle.cdcl.proofs.search.Search.learn.Goals as goal

pub add_learnt-requires-clause-unit : goal.add_learnt-requires-clause-unit
add_learnt-requires-clause-unit c =
    let s = c.analyse.new.self in
    let f = c.in_ok-learnt.ensures.found in
    let b = c.in_ok-go_back.ensures.back in
    let k = c.in_ok-learnt.ensures.solver.search in
    let level = length c.go_back.new.self.starts.items in
    let inside = k.decisions.inside level b.fewer in
    rw (c.as_slice.ensures.value, b.steps)
    (asserting (held_in s.state) s.state.trail.steps (top_of s) (get_or s.starts.items level 0)
    c.in_ok-learnt.learnt.second c.in_ok-learnt.learnt.literals.items k.state.trail f.one f.others b.above
    (start_at_most s.starts.items level k.decisions.rising b.fewer) (omega arith))

pub add_learnt-requires-clause-small : goal.add_learnt-requires-clause-small
add_learnt-requires-clause-small c =
    let s = c.analyse.new.self in
    rw (c.as_slice.ensures.value, c.in_ok-go_back.ensures.back.size)
    (resolvent_small s.state c.in_ok-learnt.learnt.literals.items (reverse c.in_ok-learnt.learnt.hints.items)
    c.in_ok-learnt.ensures.solver.search.state c.in_ok-learnt.ensures.found.learnt.resolvent)
