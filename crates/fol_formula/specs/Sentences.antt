-- Sentences, which have no free index: their truth in a structure needs no elements.
use Rattle.std.specs.Prelude.{Bool, List, []}
use Rattle.fol_sig.specs.Tables.{Tables, reading}
use Rattle.fol_formula.specs.Syntax.{FormTree, conjunction, forms_of}
use Rattle.fol_formula.specs.Truth.{truth}

-- the And of sentences
abbrev pub all_of : List FormTree → FormTree
all_of ps = conjunction (forms_of ps)

-- whether a sentence is true in a structure
abbrev pub is_true : Tables → FormTree → Bool
is_true s p = truth (reading s) p []

-- whether a structure satisfies all of these sentences
abbrev pub satisfies : Tables → List FormTree → Bool
satisfies s ps = is_true s (all_of ps)
