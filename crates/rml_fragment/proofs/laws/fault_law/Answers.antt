use Rattle.rml_fragment.proofs.Deciding.{some}
use Rattle.rml_fragment.proofs.Exact.{one, checked, faultless}
use Rattle.rml_fragment.proofs.laws.fault_law.Goals as goal

pub returns : goal.returns
returns c = record {
  some = some c.strata_laws.ensures.one c.cycle_law.ensures c.decision.ensures;
  one = one c.code_law.ensures;
  checked = checked;
  faultless = faultless c.cycle_law.ensures c.decision.ensures;
}
