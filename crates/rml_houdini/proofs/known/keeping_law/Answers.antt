use Rattle.rml_houdini.proofs.Sufficing.{kept_stays_kept}
use Rattle.rml_houdini.proofs.known.keeping_law.Goals as goal

pub returns : goal.returns
returns c = kept_stays_kept c.exactness.ensures.fragments c.sentence_law.ensures.conjectures
