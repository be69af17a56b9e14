use Rattle.std.proofs.Common.{◌≡◌, List, ◌∷◌, [], ◌++◌, length, map, arith, ap, sym, subst, ◌∙◌}
use Rattle.cnf_base.specs.Formulas.{Formula}
use Rattle.lrat_log.specs.declared.line.Line.{Line}
use Rattle.lrat_log.specs.declared.outcome.Outcome.TheVariants.{Accepted}
use Rattle.lrat_log.specs.Held.{held_of, after_lines}
use Rattle.lrat_log.specs.Accepted.{last_id, outcome_of, IsAccepted}
use Rattle.lrat_log.specs.Logs.{IsLineOver, IsLogOver}
use Rattle.renumbering.specs.Named.{named_line}
use Rattle.renumbering.proofs.Lists.{line_at, log_taken, accepted_taken, next_over, next_accepted, next_taken}
use Rattle.renumbering.proofs.back.hand_over.Goals as goal

pub line_back-requires-clause-line : goal.line_back-requires-clause-line
line_back-requires-clause-line g c = line_at
    (length c.args.names.now) c.requires.dense.0 c.args.lines.now c.loop-line.line-index c.line-item.result
    c.requires.dense.1 (omega arith) c.line-item.is

pub returns-in_err-line_back-clause-range : goal.returns-in_err-line_back-clause-range
returns-in_err-line_back-clause-range g c =
    let f = g.S.Sink.formula c.args.sink.now in
    subst (IsLogOver f.variables (length f.clauses)) (sym c.loop-line.invariant.lines)
    (log_taken f.variables (length f.clauses)
    (map (named_line c.args.names.now) c.args.lines.now) c.loop-line.line-index c.requires.range)

pub returns-in_err-line_back-clause-accepted : goal.returns-in_err-line_back-clause-accepted
returns-in_err-line_back-clause-accepted g c =
    let f = g.S.Sink.formula c.args.sink.now in
    subst (IsAccepted f) (sym c.loop-line.invariant.lines)
    (accepted_taken f.variables (held_of f) (length f.clauses)
    (map (named_line c.args.names.now) c.args.lines.now) c.loop-line.line-index c.requires.accepted)

pub take-requires-clause-range : goal.take-requires-clause-range
take-requires-clause-range g c =
    let f = g.S.Sink.formula c.args.sink.now in
    let y = c.in_ok-line_back.field-0 in
    subst (λ (h : Formula). IsLineOver h.variables (last_id (length h.clauses) (g.S.Sink.lines c.loop-line.sink)) y)
    (sym c.loop-line.invariant.formula)
    (subst (λ (ls : List Line). IsLineOver f.variables (last_id (length f.clauses) ls) y)
    (sym c.loop-line.invariant.lines)
    (next_over f (named_line c.args.names.now) c.args.lines.now c.loop-line.line-index c.line-item.result y
    (omega arith) c.line-item.is c.in_ok-line_back.ensures c.requires.range))

pub take-requires-clause-accepted : goal.take-requires-clause-accepted
take-requires-clause-accepted g c =
    let f = g.S.Sink.formula c.args.sink.now in
    let y = c.in_ok-line_back.field-0 in
    subst (λ (h : Formula). outcome_of (after_lines (held_of h) (g.S.Sink.lines c.loop-line.sink)) y ≡ Accepted)
    (sym c.loop-line.invariant.formula)
    (subst (λ (ls : List Line). outcome_of (after_lines (held_of f) ls) y ≡ Accepted) (sym c.loop-line.invariant.lines)
    (next_accepted f (named_line c.args.names.now) c.args.lines.now c.loop-line.line-index c.line-item.result y
    (omega arith) c.line-item.is c.in_ok-line_back.ensures c.requires.accepted))

pub returns-in_err-take-clause-range : goal.returns-in_err-take-clause-range
returns-in_err-take-clause-range g c =
    let f = g.S.Sink.formula c.args.sink.now in
    subst (IsLogOver f.variables (length f.clauses)) (sym (c.in_err-take.ensures.kept ∙ c.loop-line.invariant.lines))
    (log_taken f.variables (length f.clauses)
    (map (named_line c.args.names.now) c.args.lines.now) c.loop-line.line-index c.requires.range)

pub returns-in_err-take-clause-accepted : goal.returns-in_err-take-clause-accepted
returns-in_err-take-clause-accepted g c =
    let f = g.S.Sink.formula c.args.sink.now in
    subst (IsAccepted f) (sym (c.in_err-take.ensures.kept ∙ c.loop-line.invariant.lines))
    (accepted_taken f.variables (held_of f) (length f.clauses)
    (map (named_line c.args.names.now) c.args.lines.now) c.loop-line.line-index c.requires.accepted)

pub loop-line-preserved : goal.loop-line-preserved
loop-line-preserved g c =
    let f = g.S.Sink.formula c.args.sink.now in
    let y = c.in_ok-line_back.field-0 in
    record {
      formula = c.in_ok-take.ensures.formula ∙ c.loop-line.invariant.formula;
      lines = c.in_ok-take.ensures.taken ∙ ap (λ (ls : List Line). ls ++ y ∷ []) c.loop-line.invariant.lines
          ∙ next_taken f (named_line c.args.names.now) c.args.lines.now c.loop-line.line-index c.line-item.result y
          (omega arith) c.line-item.is c.in_ok-line_back.ensures;
    }
