use Rattle.rml_elaborate.proofs.Extents.{told_term}
use Rattle.rml_elaborate.proofs.large.large_term_use.Goals as goal

pub returns : goal.returns
returns c =
    told_term c.extent_laws.ensures.counts _ c.term_extent.result _ _ _ c.term_extent.ensures
    c.first_use-place.ensures c.where_large.ensures
