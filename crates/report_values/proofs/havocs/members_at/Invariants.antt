use Rattle.std.proofs.Common.{◌≡◌, ◌-◌, []}
use Rattle.fol_sig.specs.Tables.{numbers, tuple_count}
use Rattle.report_values.specs.ValueReading.{tuples_from, all_tuples}
use Rattle.report_values.specs.HavocReading.{members_at}
use Rattle.report_values.proofs.havocs.members_at.Given as goal

abbrev pub invariant-loop-number : goal.invariant-loop-number
invariant-loop-number l =
    members_at (tuples_from l.sizes (numbers l.sorts) l.number (tuple_count l.sizes (numbers l.sorts) - l.number))
    l.members l.scan ≡ members_at (all_tuples l.sizes (numbers l.sorts)) [] l.fn.first
