use Rattle.std.proofs.Common.{◌≡◌, ℕ, false, List, subst, sym}
use Rattle.cnf_base.specs.Formulas.{value_of}
use Rattle.cnf_base.specs.ValuesView.{values_from}
use Rattle.cnf_base.proofs.Truths.{length-values, none_true}
use Rattle.cnf_base.proofs.values.Values.all_false.Goals as goal

pub returns-clause-len : goal.returns-clause-len
returns-clause-len c = length-values 1 c.args.variables c.new.result.items

pub returns-clause-values : goal.returns-clause-values
returns-clause-values c v =
    subst (λ (ts : List ℕ). value_of (values_from 1 c.args.variables ts) v ≡ false) (sym c.new.ensures.items)
    (none_true c.args.variables v)
