use Rattle.rml_sorts.proofs.Whole.{drafts_are_sound}
use Rattle.rml_sorts.proofs.laws.draft_law.Goals as goal

pub returns : goal.returns
returns c = drafts_are_sound (record {
  fit = c.instance_laws.ensures.fits;
  plain = record { free = c.instance_laws.ensures.quantifier_free; plain = c.instance_laws.ensures.plain };
  sorted = c.sorted_law.ensures;
  met = c.met_law.ensures;
})
