use Rattle.fol_sig.proofs.Places.{fun_at-within}
use Rattle.fol_sig.proofs.Ranges.{ranges_are_along, along_is_in_range, ranges_append, ranges_split}
use Rattle.fol_sig.proofs.laws.range_laws.Goals as goal

pub returns : goal.returns
returns c = record {
  along = ranges_are_along;
  whole = along_is_in_range;
  append = ranges_append;
  split = ranges_split;
  values = fun_at-within;
}
