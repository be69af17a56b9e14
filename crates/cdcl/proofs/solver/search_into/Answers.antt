use Rattle.std.proofs.Common.{◌≡◌, ◌∙◌, ◌<◌, List, [], length, arith, ap, refl, sym, subst}
use Rattle.cnf_base.specs.declared.cnf.Entry.{Entry}
use Rattle.cnf_base.specs.Formulas.{Formula, IsFormula}
use Rattle.lrat_log.specs.Held.{held_of}
use Rattle.lrat_log.specs.Learnt.{IsResolvent}
use Rattle.cdcl.specs.Logged.{IsLogged}
use Rattle.cdcl.proofs.Begins.{logged_begins}
use Rattle.cdcl.proofs.Spending.{unrefuted}
use Rattle.cdcl.proofs.solver.search_into.Goals as goal

pub refute-requires-clause-logged : goal.refute-requires-clause-logged
refute-requires-clause-logged g c =
    let f = g.S.Sink.formula c.args.sink.now in
    let loaded = rw c.in-Refuted.is at c.in_ok-solver.ensures.loaded in
    let resolvent =
    subst (λ (x : Formula). IsResolvent (held_of x) [] c.in-Refuted.hints.items) c.formula-2.ensures loaded in (
      f.clauses,
      rw c.requires.begins
          (logged_begins f f.clauses refl (subst IsFormula c.formula-2.ensures c.in_ok-solver.ensures.formula)),
      resolvent,
    )

pub loop-spent-init : goal.loop-spent-init
loop-spent-init g c =
    let f = g.S.Sink.formula c.args.sink.now in
    let es = c.in-Ready.solver.state.clauses in
    let loaded = rw c.in-Ready.is at c.in_ok-solver.ensures.loaded in
    let same : es ≡ f.clauses = loaded ∙ ap (λ (x : Formula). x.clauses) c.formula-2.ensures in
    record {
      formula = refl;
      logged = rw c.requires.begins
          (logged_begins f es same (subst IsFormula c.formula-2.ensures c.in_ok-solver.ensures.formula));
      count = ap length c.requires.begins;
      most = omega arith;
    }

pub returns-then-spent-budget-clause-answer : goal.returns-then-spent-budget-clause-answer
returns-then-spent-budget-clause-answer g c =
    let f = g.S.Sink.formula c.args.sink.now in
    let lines = g.S.Sink.lines c.loop-spent.sink in
    let s = c.stopped.inside.search in
    let logged = c.loop-spent.invariant.logged in
    let turn = rw c.in-Conflict.is at c.in_ok-full.ensures in
    let some : 0 < length s.starts.items = rw c.stopped.view_is turn.1 in
    let same : s.state.clauses ≡ c.loop-spent.solver.state.clauses = rw c.stopped.view_is turn.0 in
    record {
      exact = c.loop-spent.invariant.count ∙ c.if-spent-budget.true;
      learnt = logged.learnt;
      accepted = c.learnt_laws.ensures.log f lines logged.learnt;
      unrefuted =
          unrefuted f s lines c.stopped.invariant some
          (subst (λ (es : List Entry). IsLogged f es lines) (sym same) logged);
    }
