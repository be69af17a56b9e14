use Rattle.std.proofs.Common.{◌≡◌, ◌++◌, [], inr, List, sym, subst}
use Rattle.base.specs.Lists.{SomeOf}
use Rattle.walks.specs.declared.leg.Leg.{Leg}
use Rattle.rml_bmc.proofs.FrontWalks.{first_of, begins_with_first}
use Rattle.rml_bmc.proofs.beginnings.begins_with_one.Goals as goal

pub returns-then-starts_with : goal.returns-then-starts_with
returns-then-starts_with c = λ _.
    c.loop-rest.invariant
    (begins_with_first c.loop-rest.rest.now c.args.legs.now c.walk-item.result c.as_slice.result.now _
    c.starts_with.result c.in-len1-up.len_at_least c.walk-item.is c.as_slice.ensures c.starts_with.ensures.value
    c.if-starts_with.true)

pub loop-rest-preserved : goal.loop-rest-preserved
loop-rest-preserved c = λ h.
    c.loop-rest.invariant
    (subst (SomeOf (λ walk. (more : List Leg) × (c.args.legs.now ≡ walk ++ more)))
    (sym (first_of c.loop-rest.rest.now [] c.in-len1-up.len_at_least)) (inr h))
