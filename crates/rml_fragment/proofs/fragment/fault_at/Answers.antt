use Rattle.std.proofs.Common.{◌≡◌, subst}
use Rattle.rml_fragment.specs.First.{IsFirstOf}
use Rattle.rml_fragment.specs.Faults.{Misses}
use Rattle.rml_fragment.specs.declared.demand.Demand.{Demand}
use Rattle.rml_fragment.proofs.Placed.{missed}
use Rattle.rml_fragment.proofs.fragment.fault_at.Goals as goal

pub returns : goal.returns
returns c =
    let condition = c.args.condition.now in
    subst (λ (d : Demand). IsFirstOf (λ f. (f.at ≡ condition.at) × Misses d condition.sentence f.code)
    c.fault_unless.result)
    c.of-demand.ensures
    (missed c.of-demand.result condition.sentence c.is_met.result c.code.result condition.at c.fault_unless.result
    c.is_met.ensures c.code.ensures c.fault_unless.ensures)
