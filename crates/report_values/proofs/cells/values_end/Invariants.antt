use Rattle.std.proofs.Common.{◌≡◌, ◌-◌, []}
use Rattle.std.specs.Prelude.{slice_index}
use Rattle.fol_sig.specs.Tables.{numbers, tuple_count}
use Rattle.report_values.specs.ValueReading.{tuples_from, all_tuples, values_end}
use Rattle.report_values.proofs.cells.values_end.Given as goal

abbrev pub invariant-loop-number : goal.invariant-loop-number
invariant-loop-number l =
    values_end (slice_index l.structure.sizes l.into.0)
    (tuples_from l.sizes (numbers l.sorts) l.number (tuple_count l.sizes (numbers l.sorts) - l.number)) l.cells l.scan
    ≡ values_end (slice_index l.structure.sizes l.into.0) (all_tuples l.sizes (numbers l.sorts)) [] l.fn.first
