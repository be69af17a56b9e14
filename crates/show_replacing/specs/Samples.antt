-- The symbols and formulas that calls are given.
use Rattle.std.specs.Prelude.{[], ◌∷◌}
use Rattle.fol_sig.specs.Tables.{Declared}
use Rattle.fol_formula.specs.Syntax.{FormTree, TermTree, rel, equal, conjunction, disjunction, for_all, for_some}
use Rattle.fol_formula.specs.Syntax.{form_then, no_forms, bound, app, term_then, no_terms}

-- a sort, and a relation over it
abbrev pub one_relation : Declared
one_relation = record { sorts = 1; relations = (0 ∷ []) ∷ []; functions = []; listed = [] }

-- r(x), for the nearest variable x
abbrev pub atom : FormTree
atom = rel 0 (term_then (bound 0) no_terms)

-- r(x) or x = v
abbrev pub grown : FormTree
grown = disjunction (form_then atom (form_then (equal (bound 0) (app 0 no_terms)) no_forms))

-- forall x. exists x. r(x) or x = v
abbrev pub shadowed : FormTree
shadowed = for_all 0 (for_some 0 grown)

-- f(x)
abbrev pub image : TermTree
image = app 1 (term_then (bound 0) no_terms)

-- f(f(x))
abbrev pub image_twice : TermTree
image_twice = app 1 (term_then image no_terms)

-- f(x) = x
abbrev pub fixed_point : FormTree
fixed_point = equal image (bound 0)

-- (exists x. r(x)) and (exists x. forall y. y = x)
abbrev pub two_constants : FormTree
two_constants =
    conjunction (form_then (for_some 0 atom) (form_then (for_some 0 (for_all 0 (equal (bound 0) (bound 1)))) no_forms))
