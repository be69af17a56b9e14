use Rattle.std.proofs.Common.{◌≡◌, ◌<◌, ◌++◌, length, drop}
use Rattle.fol_sig.specs.Tables.{tuple_count, numbers}
use Rattle.fol_sig.specs.Tuples.{tuple_at}
use Rattle.fol_sig.proofs.tuples.tuple_of_number.Given as goal

abbrev pub invariant-loop-sort : goal.invariant-loop-sort
invariant-loop-sort l = record {
  counted : l.rest ≡ tuple_count l.sizes (numbers (drop l.sort-index l.sorts));
  less : l.left < l.rest;
  so_far : l.tuple ++ tuple_at l.sizes (numbers (drop l.sort-index l.sorts)) l.left
      ≡ tuple_at l.sizes (numbers l.sorts) l.number;
  long : length l.tuple ≡ l.sort-index;
}
