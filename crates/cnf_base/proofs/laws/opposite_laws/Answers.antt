use Rattle.cnf_base.proofs.Literals.{opposite-opposite, opposite-differs, variable_of-opposite, is_true-opposite}
use Rattle.cnf_base.proofs.Entries.{opposite_literal}
use Rattle.cnf_base.proofs.laws.opposite_laws.Goals as goal

pub returns : goal.returns
returns c = record {
  twice = opposite-opposite;
  differs = opposite-differs;
  variable = variable_of-opposite;
  literal = opposite_literal;
  truth = is_true-opposite;
}
