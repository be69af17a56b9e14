use Rattle.std.proofs.Common.{ap, ◌∙◌, subst}
use Rattle.cdcl.specs.Answered.{IsAnswer}
use Rattle.lrat_check.specs.Checked.{Checked}
use Rattle.ea_decide.specs.Searches.{IsSearched}
use Rattle.ea_decide.proofs.Refuting.{refutes}
use Rattle.ea_decide.proofs.searching.search.Goals as goal

pub refuted-requires-clause-refutes : goal.refuted-requires-clause-refutes
refuted-requires-clause-refutes c =
    let f = c.in_ok-checker.checker.formula in
    let lines = c.solve_into.new.sink.lines in
    refutes f c.args.budget lines (subst (IsAnswer f c.args.budget lines) c.in-Unsat.is c.in_ok-values.ensures.answer)

pub returns-in-Unsat : goal.returns-in-Unsat
returns-in-Unsat c =
    let same = c.solve_into.ensures.formula ∙ ap (λ (k : Checked). k.formula) c.in_ok-checker.ensures in
    subst (λ f. IsSearched f c.args.budget c.refuted.result) same (c.refuted.ensures c.args.budget)
