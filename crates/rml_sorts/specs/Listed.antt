-- What is assumed of a sort whose elements are listed: no two names are one element, and each element has a name.
use Rattle.std.specs.Prelude.{ℕ, List, [], ◌∷◌, ◌++◌, map}
use Rattle.fol_formula.specs.Syntax.{FormTree, TermTree, equal, negation, conjunction, disjunction, for_all, forms_of}
use Rattle.fol_formula.specs.Syntax.{bound, app, no_terms}

-- a function without arguments as a term
abbrev pub constant : ℕ → TermTree
constant f = app f no_terms

-- the two names are not one element
abbrev pub apart : ℕ → ℕ → FormTree
apart f g = negation (equal (constant f) (constant g))

-- the name's element is that of none of the others
abbrev pub apart_from : ℕ → List ℕ → List FormTree
apart_from f gs = map (apart f) gs

-- no two of the names are one element, in the order of the pairs
abbrev pub all_apart : List ℕ → List FormTree
all_apart [] = []
all_apart (f ∷ fs) = apart_from f fs ++ all_apart fs

-- the bound element is that of one of the names
abbrev pub is_one_of : List ℕ → List FormTree
is_one_of fs = map (λ f. equal (bound 0) (constant f)) fs

-- the axiom of a sort with these names: no two are one element, and each element has a name
abbrev pub listed_axiom : ℕ → List ℕ → FormTree
listed_axiom sort fs =
    conjunction (forms_of (all_apart fs ++ for_all sort (disjunction (forms_of (is_one_of fs))) ∷ []))
