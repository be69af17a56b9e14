use Rattle.std.proofs.Common.{◌≡◌, ◌+◌, drop, sym, subst}
use Rattle.std.proofs.Math.ListN.{drop_of_length-le}
use Rattle.base.proofs.Lists.{drop_read}
use Rattle.rml_fragment.specs.Demands.{demand_of}
use Rattle.rml_fragment.specs.Faults.{Misses, ConditionMisses}
use Rattle.rml_fragment.specs.Search.{IsFirstSoFar}
use Rattle.rml_fragment.proofs.FirstFault.{step, done}
use Rattle.rml_fragment.proofs.fragment.condition_fault.Goals as goal

pub loop-condition-preserved : goal.loop-condition-preserved
loop-condition-preserved c =
    let xs = c.args.conditions.now in
    let i = c.loop-condition.condition-index in
    let x = c.condition-item.result in
    subst (λ o. IsFirstSoFar (ConditionMisses xs) (ConditionMisses (drop (i + 1) xs)) o) (sym c.earlier-first.ensures)
    (step (ConditionMisses xs) (λ f. (f.at ≡ x.at) × Misses (demand_of x.word) x.sentence f.code)
    (ConditionMisses (drop (i + 1) xs)) c.loop-condition.first c.fault_at.result
    (subst (λ zs. IsFirstSoFar (ConditionMisses xs) (ConditionMisses zs) c.loop-condition.first)
    (drop_read xs i x c.loop-condition-test.true c.condition-item.is) c.loop-condition.invariant) c.fault_at.ensures)

pub returns : goal.returns
returns c =
    let xs = c.args.conditions.now in
    let i = c.loop-condition.condition-index in
    done (ConditionMisses xs) (ConditionMisses (drop i xs)) c.loop-condition.first
    (λ f h. subst (λ zs. ConditionMisses zs f) (drop_of_length-le xs c.loop-condition-test.false) h)
    c.loop-condition.invariant
