use Rattle.std.proofs.Common.{◌≡◌, ◌+◌, ◌<◌, length, arith, reverse, ap, ◌∙◌, length-append, [], ◌∷◌}
use Rattle.lrat_log.specs.Held.{held_of, after_lines}
use Rattle.cdcl.specs.Logged.{IsLogged}
use Rattle.cdcl.proofs.GrowthLaws.{AreGrowthLaws}
use Rattle.cdcl.proofs.Logging.{logged_push, resolvent_line, resolvent_after}
use Rattle.cdcl.proofs.solver.learn_line.Goals as goal

pub take-requires-clause-range : goal.take-requires-clause-range
take-requires-clause-range g c =
    let laws : AreGrowthLaws = record {
      held = c.growth_laws.ensures.held;
      last = c.growth_laws.ensures.last;
      log = c.growth_laws.ensures.log;
      accepted = c.growth_laws.ensures.accepted;
      learnt = c.growth_laws.ensures.learnt;
    } in
    let f = g.S.Sink.formula c.args.sink.now in
    let lines = g.S.Sink.lines c.args.sink.now in
    let es = c.solver.inside.search.state.clauses in
    let w = c.in_ok-learnt.learnt in
    let logged : IsLogged f es lines = rw c.solver.view_is c.requires.logged in
    let id : c.args.id ≡ length es + 1 = (let a = c.requires.id in let e = logged.count in omega arith) in
    let few : length es < 2147483647 = (let a = c.requires.room in let e = logged.count in omega arith) in
    rw c.line_of.ensures
    (resolvent_line laws f es lines c.args.id logged id few w.literals.items (reverse w.hints.items)
    c.in_ok-learnt.ensures.learnt.resolvent)

pub take-requires-clause-accepted : goal.take-requires-clause-accepted
take-requires-clause-accepted g c =
    let laws : AreGrowthLaws = record {
      held = c.growth_laws.ensures.held;
      last = c.growth_laws.ensures.last;
      log = c.growth_laws.ensures.log;
      accepted = c.growth_laws.ensures.accepted;
      learnt = c.growth_laws.ensures.learnt;
    } in
    let f = g.S.Sink.formula c.args.sink.now in
    let lines = g.S.Sink.lines c.args.sink.now in
    let es = c.solver.inside.search.state.clauses in
    let w = c.in_ok-learnt.learnt in
    let logged : IsLogged f es lines = rw c.solver.view_is c.requires.logged in
    let id : c.args.id ≡ length es + 1 = (let a = c.requires.id in let e = logged.count in omega arith) in
    let few : length es < 2147483647 = (let a = c.requires.room in let e = logged.count in omega arith) in
    rw c.line_of.ensures
    (c.learnt_laws.ensures.resolvent (after_lines (held_of f) lines) w.literals.items (reverse w.hints.items)
    (resolvent_after laws f es lines c.args.id logged id few w.literals.items (reverse w.hints.items)
    c.in_ok-learnt.ensures.learnt.resolvent))

pub returns-clause-logged : goal.returns-clause-logged
returns-clause-logged g c =
    let laws : AreGrowthLaws = record {
      held = c.growth_laws.ensures.held;
      last = c.growth_laws.ensures.last;
      log = c.growth_laws.ensures.log;
      accepted = c.growth_laws.ensures.accepted;
      learnt = c.growth_laws.ensures.learnt;
    } in
    let f = g.S.Sink.formula c.args.sink.now in
    let lines = g.S.Sink.lines c.args.sink.now in
    let es = c.solver.inside.search.state.clauses in
    let w = c.in_ok-learnt.learnt in
    let logged : IsLogged f es lines = rw c.solver.view_is c.requires.logged in
    let id : c.args.id ≡ length es + 1 = (let a = c.requires.id in let e = logged.count in omega arith) in
    let few : length es < 2147483647 = (let a = c.requires.room in let e = logged.count in omega arith) in
    rw (c.in_ok-take.ensures.taken, c.line_of.ensures, c.in_ok-restart.ensures.clauses)
    (logged_push laws f es lines c.args.id logged id few c.learn.new.self.state.clauses w.literals.items
    (reverse w.hints.items) c.in_ok-learnt.ensures.clauses c.in_ok-learnt.ensures.learnt)

pub returns-clause-count : goal.returns-clause-count
returns-clause-count g c =
    let lines = g.S.Sink.lines c.args.sink.now in
    ap length c.in_ok-take.ensures.taken ∙ length-append lines (c.line_of.result ∷ [])
