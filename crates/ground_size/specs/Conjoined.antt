-- An And whose parts are borrowed from where they stand.
use Rattle.std.specs.Prelude.{List, [], ◌∷◌}
use Rattle.std.specs.List.{flat_map}
use Rattle.fol_formula.specs.Syntax.{FormTree, negation, conjunction, forms_of}
use Rattle.ground_size.specs.declared.parts.Part.{Part}
use Rattle.ground_size.specs.declared.parts.Part.TheVariants.{All, Each, Not}

-- the formulas that a part stands for
abbrev pub forms_at : Part → List FormTree
forms_at (All ps) = conjunction (forms_of ps.now) ∷ []
forms_at (Each ps) = ps.now
forms_at (Not p) = negation p.now ∷ []

-- the formulas that some parts stand for, in order
abbrev pub parts_of : List Part → List FormTree
parts_of parts = flat_map forms_at parts

-- their And
abbrev pub and_of : List Part → FormTree
and_of parts = conjunction (forms_of (parts_of parts))
