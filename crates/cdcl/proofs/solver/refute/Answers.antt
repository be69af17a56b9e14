use Rattle.std.proofs.Common.{◌≡◌, ◌+◌, ◌<◌, [], length, arith}
use Rattle.lrat_log.specs.declared.line.Line.TheVariants.{Add}
use Rattle.lrat_log.specs.Held.{held_of, after_lines}
use Rattle.cdcl.proofs.GrowthLaws.{AreGrowthLaws}
use Rattle.cdcl.proofs.Logging.{refutation, resolvent_line, resolvent_after}
use Rattle.cdcl.proofs.solver.refute.Goals as goal

pub take-requires-clause-range : goal.take-requires-clause-range
take-requires-clause-range g c =
    let laws : AreGrowthLaws = record {
      held = c.growth_laws.ensures.held;
      last = c.growth_laws.ensures.last;
      log = c.growth_laws.ensures.log;
      accepted = c.growth_laws.ensures.accepted;
      learnt = c.growth_laws.ensures.learnt;
    } in
    let f = g.S.Sink.formula c.args.sink.now in
    let lines = g.S.Sink.lines c.args.sink.now in
    let es = c.requires.logged.0 in
    let logged = c.requires.logged.1 in
    let hints = c.args.hints.items in
    let id : c.args.id ≡ length es + 1 = (let a = c.requires.id in let e = logged.count in omega arith) in
    let few : length es < 2147483647 = (let a = c.requires.room in let e = logged.count in omega arith) in
    let line = resolvent_line laws f es lines c.args.id logged id few [] hints c.requires.logged.2 in
    rw (c.new.ensures, c.from_vec.ensures) line

pub take-requires-clause-accepted : goal.take-requires-clause-accepted
take-requires-clause-accepted g c =
    let laws : AreGrowthLaws = record {
      held = c.growth_laws.ensures.held;
      last = c.growth_laws.ensures.last;
      log = c.growth_laws.ensures.log;
      accepted = c.growth_laws.ensures.accepted;
      learnt = c.growth_laws.ensures.learnt;
    } in
    let f = g.S.Sink.formula c.args.sink.now in
    let lines = g.S.Sink.lines c.args.sink.now in
    let es = c.requires.logged.0 in
    let logged = c.requires.logged.1 in
    let hints = c.args.hints.items in
    let id : c.args.id ≡ length es + 1 = (let a = c.requires.id in let e = logged.count in omega arith) in
    let few : length es < 2147483647 = (let a = c.requires.room in let e = logged.count in omega arith) in
    let line = resolvent_line laws f es lines c.args.id logged id few [] hints c.requires.logged.2 in
    rw (c.new.ensures, c.from_vec.ensures)
    (c.learnt_laws.ensures.resolvent (after_lines (held_of f) lines) [] hints
    (resolvent_after laws f es lines c.args.id logged id few [] hints c.requires.logged.2))

pub returns-clause-refuted : goal.returns-clause-refuted
returns-clause-refuted g c =
    let laws : AreGrowthLaws = record {
      held = c.growth_laws.ensures.held;
      last = c.growth_laws.ensures.last;
      log = c.growth_laws.ensures.log;
      accepted = c.growth_laws.ensures.accepted;
      learnt = c.growth_laws.ensures.learnt;
    } in
    let f = g.S.Sink.formula c.args.sink.now in
    let lines = g.S.Sink.lines c.args.sink.now in
    let es = c.requires.logged.0 in
    let logged = c.requires.logged.1 in
    let hints = c.args.hints.items in
    let id : c.args.id ≡ length es + 1 = (let a = c.requires.id in let e = logged.count in omega arith) in
    let few : length es < 2147483647 = (let a = c.requires.room in let e = logged.count in omega arith) in
    let line = resolvent_line laws f es lines c.args.id logged id few [] hints c.requires.logged.2 in
    rw (c.in_ok-take.ensures.taken, c.new.ensures, c.from_vec.ensures)
    (refutation laws f es lines c.args.id logged id few hints c.requires.logged.2
    (c.learnt_laws.ensures.log f lines logged.learnt)
    (c.learnt_laws.ensures.resolvent (after_lines (held_of f) lines) [] hints
    (resolvent_after laws f es lines c.args.id logged id few [] hints c.requires.logged.2)))

pub returns-clause-range : goal.returns-clause-range
returns-clause-range g c =
    let laws : AreGrowthLaws = record {
      held = c.growth_laws.ensures.held;
      last = c.growth_laws.ensures.last;
      log = c.growth_laws.ensures.log;
      accepted = c.growth_laws.ensures.accepted;
      learnt = c.growth_laws.ensures.learnt;
    } in
    let f = g.S.Sink.formula c.args.sink.now in
    let lines = g.S.Sink.lines c.args.sink.now in
    let es = c.requires.logged.0 in
    let logged = c.requires.logged.1 in
    let hints = c.args.hints.items in
    let id : c.args.id ≡ length es + 1 = (let a = c.requires.id in let e = logged.count in omega arith) in
    let few : length es < 2147483647 = (let a = c.requires.room in let e = logged.count in omega arith) in
    let line = resolvent_line laws f es lines c.args.id logged id few [] hints c.requires.logged.2 in
    rw (c.in_ok-take.ensures.taken, c.new.ensures, c.from_vec.ensures)
    (laws.log f.variables (length f.clauses) lines (Add c.args.id [] hints) logged.log line)
