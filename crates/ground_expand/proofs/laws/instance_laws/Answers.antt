use Rattle.ground_expand.proofs.Within.{places_are_in}
use Rattle.ground_expand.proofs.Instances.{instance_is_true, sentence_is_true, structures_satisfy}
use Rattle.ground_expand.proofs.laws.instance_laws.Goals as goal

pub returns-clause-up : goal.returns-clause-up
returns-clause-up c =
    instance_is_true c.range_laws.ensures.along c.quantified.ensures.all (places_are_in c.place_laws.ensures.placed)

pub returns-clause-down : goal.returns-clause-down
returns-clause-down c =
    sentence_is_true c.range_laws.ensures.along c.quantified.ensures.all (places_are_in c.place_laws.ensures.placed)

pub returns-clause-structures : goal.returns-clause-structures
returns-clause-structures c =
    structures_satisfy
    (instance_is_true c.range_laws.ensures.along c.quantified.ensures.all
    (places_are_in c.place_laws.ensures.placed)) c.value_laws.ensures
