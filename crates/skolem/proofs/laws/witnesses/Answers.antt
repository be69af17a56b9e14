use Rattle.skolem.proofs.Values.{KnowsTruth, each_existential_is_constant, constants_are_witnesses}
use Rattle.skolem.proofs.Values.{models_are_witnessed, constants_are_there}
use Rattle.skolem.proofs.laws.witnesses.Goals as goal

pub returns-clause-sorts : goal.returns-clause-sorts
returns-clause-sorts c = each_existential_is_constant c.witnesses.ensures.normal

pub returns-clause-constants : goal.returns-clause-constants
returns-clause-constants c =
    let known : KnowsTruth =
    record {
      all_below = c.quantified.ensures.all;
      any_below = c.quantified.ensures.any;
      along = c.range_laws.ensures.along;
      append = c.range_laws.ensures.append;
      none = c.witnesses.ensures.normal;
    } in
    constants_are_witnesses known c.exactness.ensures.models c.growth_laws.ensures.extend

pub returns-clause-models : goal.returns-clause-models
returns-clause-models c =
    let known : KnowsTruth =
    record {
      all_below = c.quantified.ensures.all;
      any_below = c.quantified.ensures.any;
      along = c.range_laws.ensures.along;
      append = c.range_laws.ensures.append;
      none = c.witnesses.ensures.normal;
    } in
    models_are_witnessed known c.exactness.ensures.models c.growth_laws.ensures.extend c.growth_laws.ensures.reduce
    c.growth_laws.ensures.all

pub returns-clause-there : goal.returns-clause-there
returns-clause-there c = constants_are_there c.exactness.ensures.models
