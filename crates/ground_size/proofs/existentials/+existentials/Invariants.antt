use Rattle.std.proofs.Common.{◌≡◌, drop}
use Rattle.fol_formula.specs.View.{forms}
use Rattle.ground_size.specs.Walks.{all_raised}
use Rattle.ground_size.proofs.existentials.+existentials.Given as goal

abbrev pub invariant-add_existentials_of_all-loop-p : goal.invariant-add_existentials_of_all-loop-p
invariant-add_existentials_of_all-loop-p l =
    all_raised l.positive l.negative (forms (drop l.p-index l.formulas)) l.counts ≡ all_raised l.positive l.negative
    (forms l.formulas) l.initial.counts
