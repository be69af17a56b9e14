use Rattle.std.proofs.Common.{ap, subst}
use Rattle.cnf_base.specs.Formulas.{IsUnsatisfiable}
use Rattle.lrat_check.specs.Checked.{Checked}
use Rattle.ea_decide.proofs.searching.refuted.Goals as goal

pub returns : goal.returns
returns c =
    let same = ap (λ (k : Checked). k.formula) c.new-proof.ensures in
    λ budget. (same, subst IsUnsatisfiable same c.formula-cnf.ensures.unsatisfiable)
