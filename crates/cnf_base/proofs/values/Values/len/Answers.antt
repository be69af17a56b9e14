use Rattle.std.proofs.Common.{sym}
use Rattle.cnf_base.proofs.Truths.{length-values}
use Rattle.cnf_base.proofs.values.Values.len.Goals as goal

pub returns : goal.returns
returns c = rw (← c.self.view_is) (sym (length-values 1 c.self.inside.variables c.self.inside.trues.items))
