-- The symbols that calls are given.
use Rattle.std.specs.Prelude.{[], ◌∷◌}
use Rattle.fol_sig.specs.Tables.{Declared}
use Rattle.fol_formula.specs.Syntax.{FormTree, rel, equal, negation, disjunction, for_all, no_forms, form_then}
use Rattle.fol_formula.specs.Syntax.{bound, no_terms, term_then}

abbrev pub no_symbols : Declared
no_symbols = record { sorts = 0; relations = []; functions = []; listed = [] }

abbrev pub one_sort : Declared
one_sort = record { sorts = 1; relations = []; functions = []; listed = [] }

-- two sorts, a relation over both, a function from the first to the second, and a variable of the first
abbrev pub two_sorts : Declared
two_sorts = record {
  sorts = 2;
  relations = (0 ∷ 1 ∷ []) ∷ [];
  functions = (0 ∷ [], record { 0 = 1 }) ∷ ([], record { 0 = 0 }) ∷ [];
  listed = [];
}

-- a sort, a relation over it, and two variables
abbrev pub two_variables : Declared
two_variables = record {
  sorts = 1;
  relations = (0 ∷ []) ∷ [];
  functions = ([], record { 0 = 0 }) ∷ ([], record { 0 = 0 }) ∷ [];
  listed = [];
}

-- where the relation holds of the outer variable, it is the inner one; for any two
abbrev pub alone : FormTree
alone =
    disjunction (form_then (negation (rel 0 (term_then (bound 1) no_terms)))
    (form_then (equal (bound 1) (bound 0)) no_forms))

-- where the relation holds of some element, there is no other element
abbrev pub all_alone : FormTree
all_alone = for_all 0 (for_all 0 alone)
