use Rattle.std.proofs.Common.{◌≡◌, refl, ap, subst}
use Rattle.cnf_base.specs.Formulas.{Formula, IsUnsatisfiable}
use Rattle.lrat_check.specs.Checked.{Checked}
use Rattle.clause_commands.proofs.lrat.judge_lines.Goals as goal

pub returns-then-is_refuted-clause-unsatisfiable : goal.returns-then-is_refuted-clause-unsatisfiable
returns-then-is_refuted-clause-unsatisfiable c =
    let same : c.in-Ok.checker.formula ≡ c.args.formula = ap (λ (d : Checked). d.formula) c.in-Ok.ensures.checked in
    λ _. subst (λ (f : Formula). IsUnsatisfiable f) same (c.if-is_refuted.ensures.unsatisfiable refl)
