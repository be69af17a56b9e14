use Rattle.rml_elaborate.proofs.Extents.{told_form}
use Rattle.rml_elaborate.proofs.large.large_formula_use.Goals as goal

pub returns : goal.returns
returns c =
    told_form c.extent_laws.ensures.counts _ c.formula_extent.result _ _ _ c.formula_extent.ensures
    c.first_use-place.ensures c.where_large.ensures
