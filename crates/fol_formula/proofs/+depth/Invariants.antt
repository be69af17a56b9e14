use Rattle.std.proofs.Common.{◌≡◌, ◌<◌, ◌^◌, max, drop}
use Rattle.fol_formula.specs.View.{forms, terms}
use Rattle.fol_formula.specs.Counts.{forms_depth, terms_depth, saturated}
use Rattle.fol_formula.proofs.+depth.Given as goal

abbrev pub invariant-counts::depth_of_formulas-loop-p : goal.invariant-counts::depth_of_formulas-loop-p
invariant-counts::depth_of_formulas-loop-p l =
    (l.most < 2 ^ 64)
    × (saturated (max l.most (forms_depth (forms (drop l.p-index l.formulas))))
    ≡ saturated (forms_depth (forms l.formulas)))

abbrev pub invariant-counts::depth_of_terms-loop-t : goal.invariant-counts::depth_of_terms-loop-t
invariant-counts::depth_of_terms-loop-t l =
    (l.most < 2 ^ 64)
    × (saturated (max l.most (terms_depth (terms (drop l.t-index l.terms))))
    ≡ saturated (terms_depth (terms l.terms)))
