-- A path without the havoc of a relation fits.
use Rattle.std.proofs.Common.{List, [], ◌∷◌}
use Rattle.fol_sig.specs.Symbols.{Symbols}
use Rattle.rml_command.specs.Trees.{PrimitiveTree, assume, set_rel, set_fun, havoc, havoc_rel, abort}
use Rattle.rml_command.specs.Models.{FitsPath, FitsSteps}

pub steps-fit : (sig : Symbols) (p : List PrimitiveTree) → FitsSteps sig p → FitsPath sig p
steps-fit sig [] f = tt
steps-fit sig (assume p ∷ qs) f = (f.0, steps-fit sig qs f.1)
steps-fit sig (set_rel r by ∷ qs) f = (f.0, steps-fit sig qs f.1)
steps-fit sig (set_fun g by ∷ qs) f = (f.0, steps-fit sig qs f.1)
steps-fit sig (havoc v ∷ qs) f = (f.0, steps-fit sig qs f.1)
steps-fit sig (havoc_rel r ∷ qs) f = absurd f.0
steps-fit sig (abort ∷ qs) f = (f.0, steps-fit sig qs f.1)
