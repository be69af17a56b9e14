-- The normal form of a formula, in which negations stand at atoms alone, and the fragments as it shows them.
use Rattle.std.specs.Prelude.{Bool, true, false, not, ◌↔◌, ◌≡◌, List, ℕ}
use Rattle.fol_sig.specs.Tables.{Reading}
use Rattle.fol_formula.specs.Syntax.{FormTree, FormTrees, top, bottom, rel, equal, negation, conjunction, disjunction}
use Rattle.fol_formula.specs.Syntax.{implication, equivalence, for_all, for_some, no_forms, form_then}
use Rattle.fol_formula.specs.Truth.{truth, same_truth}
use Rattle.fol_formula.specs.Fragments.{IsUniversal, IsExistsForall, IsNormalForm}

-- the And of two formulas
abbrev pub both : FormTree → FormTree → FormTree
both p q = conjunction (form_then p (form_then q no_forms))

-- the Or of two formulas
abbrev pub either : FormTree → FormTree → FormTree
either p q = disjunction (form_then p (form_then q no_forms))

-- the normal form of the formula, and of its negation
abbrev mutual
  pub normal_form : Bool → FormTree → FormTree
  normal_form true top = top
  normal_form false top = bottom
  normal_form true bottom = bottom
  normal_form false bottom = top
  normal_form true (rel r args) = rel r args
  normal_form false (rel r args) = negation (rel r args)
  normal_form true (equal a b) = equal a b
  normal_form false (equal a b) = negation (equal a b)
  normal_form positive (negation p) = normal_form (not positive) p
  normal_form true (conjunction ps) = conjunction (normal_forms true ps)
  normal_form false (conjunction ps) = disjunction (normal_forms false ps)
  normal_form true (disjunction ps) = disjunction (normal_forms true ps)
  normal_form false (disjunction ps) = conjunction (normal_forms false ps)
  normal_form true (implication p q) = either (normal_form false p) (normal_form true q)
  normal_form false (implication p q) = both (normal_form true p) (normal_form false q)
  normal_form true (equivalence p q) =
      either (both (normal_form true p) (normal_form true q)) (both (normal_form false p) (normal_form false q))
  normal_form false (equivalence p q) =
      either (both (normal_form true p) (normal_form false q)) (both (normal_form false p) (normal_form true q))
  normal_form true (for_all k p) = for_all k (normal_form true p)
  normal_form false (for_all k p) = for_some k (normal_form false p)
  normal_form true (for_some k p) = for_some k (normal_form true p)
  normal_form false (for_some k p) = for_all k (normal_form false p)

  pub normal_forms : Bool → FormTrees → FormTrees
  normal_forms positive no_forms = no_forms
  normal_forms positive (form_then p ps) = form_then (normal_form positive p) (normal_forms positive ps)

-- The quantifiers of a formula as they are written; those of terms don't count.

-- no existential stands in it
abbrev mutual
  pub HasNoExistential : FormTree → Type 0
  HasNoExistential top = Unit {0}
  HasNoExistential bottom = Unit {0}
  HasNoExistential (rel r args) = Unit {0}
  HasNoExistential (equal a b) = Unit {0}
  HasNoExistential (negation p) = HasNoExistential p
  HasNoExistential (conjunction ps) = HaveNoExistential ps
  HasNoExistential (disjunction ps) = HaveNoExistential ps
  HasNoExistential (implication p q) = HasNoExistential p × HasNoExistential q
  HasNoExistential (equivalence p q) = HasNoExistential p × HasNoExistential q
  HasNoExistential (for_all k p) = HasNoExistential p
  HasNoExistential (for_some k p) = ⊥

  pub HaveNoExistential : FormTrees → Type 0
  HaveNoExistential no_forms = Unit {0}
  HaveNoExistential (form_then p ps) = HasNoExistential p × HaveNoExistential ps

-- no existential stands in the scope of a universal
abbrev mutual
  pub HasNoExistentialUnderUniversal : FormTree → Type 0
  HasNoExistentialUnderUniversal top = Unit {0}
  HasNoExistentialUnderUniversal bottom = Unit {0}
  HasNoExistentialUnderUniversal (rel r args) = Unit {0}
  HasNoExistentialUnderUniversal (equal a b) = Unit {0}
  HasNoExistentialUnderUniversal (negation p) = HasNoExistentialUnderUniversal p
  HasNoExistentialUnderUniversal (conjunction ps) = HaveNoExistentialUnderUniversal ps
  HasNoExistentialUnderUniversal (disjunction ps) = HaveNoExistentialUnderUniversal ps
  HasNoExistentialUnderUniversal (implication p q) = HasNoExistentialUnderUniversal p × HasNoExistentialUnderUniversal q
  HasNoExistentialUnderUniversal (equivalence p q) = HasNoExistentialUnderUniversal p × HasNoExistentialUnderUniversal q
  HasNoExistentialUnderUniversal (for_all k p) = HasNoExistential p
  HasNoExistentialUnderUniversal (for_some k p) = HasNoExistentialUnderUniversal p

  pub HaveNoExistentialUnderUniversal : FormTrees → Type 0
  HaveNoExistentialUnderUniversal no_forms = Unit {0}
  HaveNoExistentialUnderUniversal (form_then p ps) =
      HasNoExistentialUnderUniversal p × HaveNoExistentialUnderUniversal ps

-- by polarity a formula is universal exactly where its normal form has no existential
abbrev pub UniversalByNormalForm : Type 0
UniversalByNormalForm =
    (positive : Bool) (p : FormTree) → IsUniversal positive p ↔ HasNoExistential (normal_form positive p)

-- and exists-forall exactly where that has no existential in the scope of a universal
abbrev pub ExistsForallByNormalForm : Type 0
ExistsForallByNormalForm =
    (positive : Bool) (p : FormTree) → IsExistsForall positive p
    ↔ HasNoExistentialUnderUniversal (normal_form positive p)

-- a form of each formula, which is true where the formula is, and one of its negation, which is true where it is not
abbrev pub KeepsTruth : (Bool → FormTree → FormTree) → Type 0
KeepsTruth form = (s : Reading) (positive : Bool) (p : FormTree) (env : List ℕ)
    → truth s (form positive p) env ≡ same_truth positive (truth s p env)

-- so are the normal forms
abbrev pub NormalFormKeepsTruth : Type 0
NormalFormKeepsTruth = KeepsTruth normal_form

-- what is in normal form already stays
abbrev pub NormalFormStays : Type 0
NormalFormStays = (p : FormTree) → IsNormalForm p → normal_form true p ≡ p
