use Rattle.rml_sorts.proofs.Whole.{models_are_whole}
use Rattle.rml_sorts.proofs.laws.model_law.Goals as goal

pub returns : goal.returns
returns c = models_are_whole (record {
  fit = c.instance_laws.ensures.fits;
  plain = record { free = c.instance_laws.ensures.quantifier_free; plain = c.instance_laws.ensures.plain };
  sorted = c.sorted_law.ensures;
  met = c.met_law.ensures;
})
