use Rattle.std.proofs.Common.{◌≡◌, ◌+◌, ◌<◌, List, [], ◌∷◌, ◌++◌, length, take, arith, ap, ◌∙◌}
use Rattle.cnf_base.specs.declared.cnf.Entry.{Entry}
use Rattle.cdcl.specs.declared.state.State.{State}
use Rattle.cdcl.proofs.Begins.{entry_ready, taken_more, resolvent_taken}
use Rattle.cdcl.proofs.load.load.Goals as goal

pub add_entry-requires-clause-entry : goal.add_entry-requires-clause-entry
add_entry-requires-clause-entry c =
    let es : List Entry = c.clauses-entries.result.now in
    let lt : c.loop-entry.entry-index < length es = omega arith in
    entry_ready c.args.cnf.now es c.loop-entry.entry-index c.greatest_variable-greatest.result
    c.loop-entry.search.state.trail.size c.entry-item.result c.clauses-entries.ensures.value
    c.clauses-entries.ensures.formula lt
    c.entry-item.is c.greatest_variable-greatest.ensures.up_to c.loop-entry.invariant.size

pub returns-in-Some-clause-loaded : goal.returns-in-Some-clause-loaded
returns-in-Some-clause-loaded c =
    let es : List Entry = c.clauses-entries.result.now in
    let i = c.loop-entry.entry-index in
    let lt : i < length es = omega arith in
    let held = c.refute.new.self.state.clauses in
    let q : held ≡ take i es ++ c.entry-item.result ∷ [] =
    ap (λ (s : State). s.clauses) c.in_ok-hints-in-Some.ensures.same ∙ c.in_ok-id.ensures.clauses
    ∙ ap (λ (x : List Entry). x ++ c.entry-item.result ∷ []) c.loop-entry.invariant.clauses in
    let t : held ≡ take (i + 1) c.args.cnf.now.clauses =
    taken_more es held i c.entry-item.result lt c.entry-item.is q
    ∙ ap (take (i + 1)) c.clauses-entries.ensures.value in
    resolvent_taken c.args.cnf.now.clauses held (i + 1) [] c.in_ok-hints-in-Some.hints.items t
    c.in_ok-hints-in-Some.ensures.resolvent
