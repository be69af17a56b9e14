-- Sentences that bound the sizes of sorts.
use Rattle.std.specs.Prelude.{ℕ, zero, suc, nat_le, if◌then◌else◌}
use Rattle.fol_formula.specs.Syntax.{
  FormTree,
  FormTrees,
  equal,
  disjunction,
  for_all,
  for_some,
  no_forms,
  form_then,
  bound,
}

-- the equations of the variable that is bound last with each of n that are bound before it
abbrev pub equations : ℕ → FormTrees
equations zero = no_forms
equations (suc n) = form_then (equal (bound 0) (bound (suc n))) (equations n)

-- under n quantifiers `exists` of one sort
abbrev pub for_some_times : ℕ → ℕ → FormTree → FormTree
for_some_times zero k p = p
for_some_times (suc n) k p = for_some k (for_some_times n k p)

-- the sort has at most n elements: each is one of n that there are
abbrev pub size_bound : ℕ → ℕ → FormTree
size_bound k n = for_some_times n k (for_all k (disjunction (equations n)))

-- the equations of variable j with each of i that are bound last, in front of others
abbrev pub equations_with : ℕ → ℕ → FormTrees → FormTrees
equations_with j zero others = others
equations_with j (suc i) others = form_then (equal (bound i) (bound j)) (equations_with j i others)

-- the equation of each two of n + 1 variables
abbrev pub pair_equations : ℕ → FormTrees
pair_equations zero = no_forms
pair_equations (suc n) = equations_with (suc n) (suc n) (pair_equations n)

-- under n quantifiers `forall` of one sort
abbrev pub for_all_times : ℕ → ℕ → FormTree → FormTree
for_all_times zero k p = p
for_all_times (suc n) k p = for_all k (for_all_times n k p)

-- the sort has at most n elements: of n + 1 elements two are equal
abbrev pub pair_bound : ℕ → ℕ → FormTree
pair_bound k n = for_all_times (suc n) k (disjunction (pair_equations n))

-- the most elements on which a bound is said by pairs
abbrev pub most_paired : ℕ
most_paired = 6

-- a bound that needs no constants, where it is on few elements
abbrev pub short_bound : ℕ → ℕ → FormTree
short_bound k n = if nat_le n most_paired then pair_bound k n else size_bound k n
