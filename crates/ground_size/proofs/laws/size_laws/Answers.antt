use Rattle.ground_size.proofs.Instances.{instances-counted}
use Rattle.ground_size.proofs.AxiomCounts.{axioms-counted}
use Rattle.ground_size.proofs.laws.size_laws.Goals as goal

pub returns-clause-instances : goal.returns-clause-instances
returns-clause-instances c = instances-counted c.exactness.ensures.fragments

pub returns-clause-axioms : goal.returns-clause-axioms
returns-clause-axioms c = axioms-counted c.exactness.ensures.fits c.exactness-2.ensures.models
