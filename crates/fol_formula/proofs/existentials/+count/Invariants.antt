use Rattle.std.proofs.Common.{◌≡◌, ◌+◌, ◌<◌, ◌^◌, drop, true, false}
use Rattle.fol_formula.specs.View.{forms}
use Rattle.fol_formula.specs.Counts.{saturated}
use Rattle.fol_formula.specs.Existentials.{number_of_all}
use Rattle.fol_formula.proofs.existentials.+count.Given as goal

abbrev pub invariant-count_all-loop-p : goal.invariant-count_all-loop-p
invariant-count_all-loop-p l = record {
  fits : l.all.positive < 2 ^ 64;
  fits_too : l.all.negative < 2 ^ 64;
  positive : saturated (l.all.positive + number_of_all true (forms (drop l.p-index l.formulas)))
      ≡ saturated (number_of_all true (forms l.formulas));
  negative : saturated (l.all.negative + number_of_all false (forms (drop l.p-index l.formulas)))
      ≡ saturated (number_of_all false (forms l.formulas));
}
