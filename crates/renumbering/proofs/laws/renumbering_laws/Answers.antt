use Rattle.renumbering.proofs.Logs.{AreLogLaws, range_named, spent_named, refutation_named, count_named, few_named}
use Rattle.renumbering.proofs.laws.renumbering_laws.Goals as goal

pub returns-clause-range : goal.returns-clause-range
returns-clause-range c f d names r lines a = range_named f d names r lines a

pub returns-clause-spent : goal.returns-clause-spent
returns-clause-spent c f d names r budget lines s =
    let laws : AreLogLaws = record { learnt = c.learnt_laws.ensures.log; accepted = c.growth_laws.ensures.accepted } in
    spent_named f d names r laws budget lines s

pub returns-clause-refutation : goal.returns-clause-refutation
returns-clause-refutation c f d names r budget lines s =
    let laws : AreLogLaws = record { learnt = c.learnt_laws.ensures.log; accepted = c.growth_laws.ensures.accepted } in
    refutation_named f d names r laws budget lines s

pub returns-clause-count : goal.returns-clause-count
returns-clause-count c f d names r = count_named f d names r

pub returns-clause-few : goal.returns-clause-few
returns-clause-few c f d names r = few_named f d names r
