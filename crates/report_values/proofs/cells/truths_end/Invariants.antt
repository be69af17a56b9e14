use Rattle.std.proofs.Common.{◌≡◌, ◌-◌, []}
use Rattle.fol_sig.specs.Tables.{numbers, tuple_count}
use Rattle.report_values.specs.ValueReading.{tuples_from, all_tuples, truths_end}
use Rattle.report_values.proofs.cells.truths_end.Given as goal

abbrev pub invariant-loop-number : goal.invariant-loop-number
invariant-loop-number l =
    truths_end (tuples_from l.sizes (numbers l.sorts) l.number (tuple_count l.sizes (numbers l.sorts) - l.number))
    l.cells l.scan ≡ truths_end (all_tuples l.sizes (numbers l.sorts)) [] l.fn.first
