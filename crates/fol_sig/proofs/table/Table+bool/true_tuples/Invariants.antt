use Rattle.std.proofs.Common.{◌≡◌, false, take}
use Rattle.std.specs.List.{filter}
use Rattle.fol_sig.specs.Tables.{cell_at}
use Rattle.fol_sig.specs.Tuples.{tuples}
use Rattle.fol_sig.proofs.table.«Table+bool».true_tuples.Given as goal

abbrev pub invariant-loop-number : goal.invariant-loop-number
invariant-loop-number l =
    l.found.items
    ≡ filter (λ tuple. cell_at l.sizes l.self tuple false) (take l.number (tuples l.sizes l.self.sorts))
