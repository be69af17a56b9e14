use Rattle.std.proofs.Common.{◌++◌, [], reverse, subst, sym}
use Rattle.fol_formula.specs.Fits.{HasTruth}
use Rattle.told_derived.specs.Definitions.{Derived}
use Rattle.told_derived.proofs.Asked.{has_truth}
use Rattle.told_derived.proofs.derived.Derived.is_true_of.Goals as goal

pub holds_at-requires : goal.holds_at-requires
holds_at-requires c =
    subst (λ (r : Derived). HasTruth c.args.structure.now r.body (reverse c.args.tuple.now ++ []))
    (sym c.self.view_is)
    (has_truth c.args.structure.now c.args.self.now c.args.tuple.now c.requires.can c.requires.in_range)
