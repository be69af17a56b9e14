use Rattle.std.proofs.Common.{◌≤◌, ℕ, List, map, arith, sym, subst}
use Rattle.cnf_base.specs.Formulas.{Formula}
use Rattle.lrat_log.specs.declared.line.Line.{Line}
use Rattle.lrat_log.specs.Accepted.{IsAccepted}
use Rattle.lrat_log.specs.Refutations.{IsSpent}
use Rattle.renumbering.specs.Named.{named_line}
use Rattle.cdcl.proofs.sparse.solve_dense.Goals as goal

pub search_into-requires-clause-few : goal.search_into-requires-clause-few
search_into-requires-clause-few g c =
    let f = g.S.Sink.formula c.args.sink.now in
    let d = c.args.dense.now in
    let a = c.renumbering_laws.ensures.few f d.cnf d.names.items c.requires.dense in
    let b = c.requires.few in
    let few : d.cnf.variables ≤ 2147483647 = omega arith in
    subst (λ (x : Formula). x.variables ≤ 2147483647) (sym c.new-kept.ensures.cnf) few

pub hand_over-requires-in-Spent-clause-accepted : goal.hand_over-requires-in-Spent-clause-accepted
hand_over-requires-in-Spent-clause-accepted g c =
    let f = g.S.Sink.formula c.args.sink.now in
    let d = c.args.dense.now in
    let lines = c.search_into.new.sink.lines.items in
    let s : IsSpent c.new-kept.result.cnf.now c.args.budget lines = rw c.in-Spent.is at c.in_ok-values.ensures.answer in
    let t : IsSpent d.cnf c.args.budget lines =
    subst (λ (x : Formula). IsSpent x c.args.budget lines) c.new-kept.ensures.cnf s in
    subst (λ (x : List Line). IsAccepted f (map (named_line c.as_slice-in-Spent.result.now) x))
    (sym c.as_slice-in-Spent-2.ensures.value)
    (subst (λ (x : List ℕ). IsAccepted f (map (named_line x) lines)) (sym c.as_slice-in-Spent.ensures.value)
    (c.renumbering_laws.ensures.spent f d.cnf d.names.items c.requires.dense c.args.budget lines t).accepted)

pub returns-clause-answer : goal.returns-clause-answer
returns-clause-answer g c =
    let f = g.S.Sink.formula c.args.sink.now in
    let d = c.args.dense.now in
    let lines = c.search_into.new.sink.lines.items in
    let s : IsSpent c.new-kept.result.cnf.now c.args.budget lines = rw c.in-Spent.is at c.in_ok-values.ensures.answer in
    let t : IsSpent d.cnf c.args.budget lines =
    subst (λ (x : Formula). IsSpent x c.args.budget lines) c.new-kept.ensures.cnf s in
    subst (IsSpent f c.args.budget) (sym c.in_ok-hand_over-in-Spent.ensures.all)
    (subst (λ (x : List Line). IsSpent f c.args.budget (map (named_line c.as_slice-in-Spent.result.now) x))
    (sym c.as_slice-in-Spent-2.ensures.value)
    (subst (λ (x : List ℕ). IsSpent f c.args.budget (map (named_line x) lines)) (sym c.as_slice-in-Spent.ensures.value)
    (c.renumbering_laws.ensures.spent f d.cnf d.names.items c.requires.dense c.args.budget lines t)))
