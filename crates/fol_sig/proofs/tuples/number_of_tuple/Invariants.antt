use Rattle.std.proofs.Common.{◌≡◌, ◌≤◌, ◌+◌, ◌*◌, drop}
use Rattle.fol_sig.specs.Tables.{InRange, tuple_count, place_from, numbers}
use Rattle.fol_sig.proofs.tuples.number_of_tuple.Given as goal

abbrev pub invariant-loop-i : goal.invariant-loop-i
invariant-loop-i l = record {
  same : place_from l.sizes l.at (drop l.i (numbers l.sorts)) (drop l.i l.tuple)
      ≡ place_from l.sizes 0 (numbers l.sorts) l.tuple;
  rest : InRange l.sizes (drop l.i (numbers l.sorts)) (drop l.i l.tuple);
  room : (l.at + 1) * tuple_count l.sizes (drop l.i (numbers l.sorts)) ≤ tuple_count l.sizes (numbers l.sorts);
}
