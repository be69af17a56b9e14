use Rattle.std.proofs.Common.{◌∙◌}
use Rattle.cnf_base.proofs.Truths.{found}
use Rattle.cnf_base.proofs.values.has.Goals as goal

pub returns : goal.returns
returns c =
    c.is_ok.ensures.value
    ∙ found c.requires.0 c.args.trues.now c.args.variable c.binary_search.result c.requires.1
    c.binary_search.ensures.position
