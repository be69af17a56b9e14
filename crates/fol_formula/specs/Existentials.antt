-- How many existentials the normal form of a formula has, counted by polarity, without the normal form.
use Rattle.std.specs.Prelude.{◌≡◌, ℕ, ◌+◌, Bool, true, false, not}
use Rattle.fol_formula.specs.Syntax.{FormTree, FormTrees, top, bottom, rel, equal, negation, conjunction, disjunction}
use Rattle.fol_formula.specs.Syntax.{implication, equivalence, for_all, for_some, no_forms, form_then}
use Rattle.fol_formula.specs.Counts.{saturated}
use Rattle.fol_formula.specs.declared.existentials.Existentials.{Existentials}

-- how many existentials the normal form of the formula has, or where `positive` is false that of its negation; the
-- quantifiers inside terms don't count
abbrev mutual
  pub number_of : Bool → FormTree → ℕ
  number_of positive top = 0
  number_of positive bottom = 0
  number_of positive (rel r args) = 0
  number_of positive (equal a b) = 0
  number_of positive (negation p) = number_of (not positive) p
  number_of positive (conjunction ps) = number_of_all positive ps
  number_of positive (disjunction ps) = number_of_all positive ps
  number_of positive (implication p q) = number_of (not positive) p + number_of positive q
  number_of positive (equivalence p q) = number_of true p + number_of false p + (number_of true q + number_of false q)
  number_of true (for_all k p) = number_of true p
  number_of false (for_all k p) = number_of false p + 1
  number_of true (for_some k p) = number_of true p + 1
  number_of false (for_some k p) = number_of false p

  pub number_of_all : Bool → FormTrees → ℕ
  number_of_all positive no_forms = 0
  number_of_all positive (form_then p ps) = number_of positive p + number_of_all positive ps

-- both counts, which stop at the greatest number of 64 bits
pub record CountsBoth (e : Existentials) (yes opposed : ℕ) : Type 0 where
  pub positive : e.positive ≡ saturated yes
  pub negative : e.negative ≡ saturated opposed
