-- Sentences that bound of how many tuples a relation is true.
use Rattle.std.specs.Prelude.{ℕ, zero, suc, ◌+◌, ◌*◌, List, [], ◌∷◌, length}
use Rattle.fol_formula.specs.Syntax.{FormTree, FormTrees, TermTrees, rel, equal, negation, conjunction, disjunction}
use Rattle.fol_formula.specs.Syntax.{for_all, for_some, no_forms, form_then, bound, no_terms, term_then}

-- under a quantifier for each of these sorts
abbrev pub for_each : List ℕ → FormTree → FormTree
for_each [] p = p
for_each (k ∷ ks) p = for_all k (for_each ks p)

-- the same with `exists`
abbrev pub for_some_each : List ℕ → FormTree → FormTree
for_some_each [] p = p
for_some_each (k ∷ ks) p = for_some k (for_some_each ks p)

-- under n times these quantifiers, tuple by tuple
abbrev pub for_some_tuples : ℕ → List ℕ → FormTree → FormTree
for_some_tuples zero ks p = p
for_some_tuples (suc n) ks p = for_some_each ks (for_some_tuples n ks p)

-- the tuple of m variables behind which so many others are bound
abbrev pub variables : ℕ → ℕ → TermTrees
variables behind zero = no_terms
variables behind (suc m) = term_then (bound (behind + m)) (variables behind m)

-- the equations of the m variables that are bound last with those of that tuple
abbrev pub tuple_equations : ℕ → ℕ → FormTrees
tuple_equations behind zero = no_forms
tuple_equations behind (suc m) = form_then (equal (bound m) (bound (behind + m))) (tuple_equations behind m)

-- that the m variables that are bound last are those of one of n tuples that are bound before them
abbrev pub tuple_choices : ℕ → ℕ → FormTrees
tuple_choices m zero = no_forms
tuple_choices m (suc n) = form_then (conjunction (tuple_equations (suc n * m) m)) (tuple_choices m n)

-- what is said of a tuple of m variables: the relation is false of it, or it is one of n tuples
abbrev pub is_one : ℕ → ℕ → ℕ → FormTree
is_one r m n = disjunction (form_then (negation (rel r (variables 0 m))) (tuple_choices m n))

-- the relation with arguments of these sorts is true of at most n tuples: each is one of n that there are
abbrev pub tuple_bound : ℕ → List ℕ → ℕ → FormTree
tuple_bound r ks n = for_some_tuples n ks (for_each ks (is_one r (length ks) n))
