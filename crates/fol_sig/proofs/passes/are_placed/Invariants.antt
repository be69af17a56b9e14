use Rattle.std.proofs.Common.{◌≡◌, ℕ, ◌<◌, true, get_or}
use Rattle.fol_sig.specs.Tables.{numbers}
use Rattle.fol_sig.specs.Passes.{is_set}
use Rattle.fol_sig.proofs.passes.are_placed.Given as goal

abbrev pub invariant-loop-sort : goal.invariant-loop-sort
invariant-loop-sort l = (i d : ℕ) → i < l.sort-index → is_set l.placed (get_or (numbers l.sorts) i d) ≡ true
