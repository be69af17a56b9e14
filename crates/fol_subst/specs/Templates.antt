-- A formula whose free indices are parameters, the last one 0, and what it becomes where arguments stand in their
-- place.
use Rattle.std.specs.Prelude.{◌≡◌, ℕ, ◌==◌, Bool, not, List, reverse}
use Rattle.fol_sig.specs.Symbols.{Symbols}
use Rattle.fol_formula.specs.Syntax.{FormTree, FormTrees, TermTree, TermTrees, top, bottom, rel, equal, negation}
use Rattle.fol_formula.specs.Syntax.{conjunction, disjunction, implication, equivalence, for_all, for_some, no_forms}
use Rattle.fol_formula.specs.Syntax.{form_then, bound, app, ite, no_terms, term_then, list_of, size_of}
use Rattle.fol_formula.specs.Counts.{form_nodes, form_depth, term_nodes, term_depth}
use Rattle.fol_formula.specs.Fits.{FitsForm, FitsTerms}
use Rattle.fol_formula.specs.Fragments.{IsQuantifierFree, AreQuantifierFreeTerms, HasPlainTerms}
use Rattle.fol_subst.specs.Replace.{put_form, change_rel, rel_instance}
use Rattle.fol_subst.specs.Extents.{extent, none, one, beside, over, put_in, places_form}
use Rattle.fol_subst.specs.Kept.{kept}
use Rattle.fol_subst.specs.declared.extent.Extent.{Extent}

-- the arguments in the place of the parameters
abbrev pub instance : FormTree → TermTrees → FormTree
instance body args = put_form 0 (reverse (list_of args)) body

-- whether a parameter stands in it
abbrev pub mentions : FormTree → ℕ → Bool
mentions body i = not ((places_form i body).depth == 0)

-- how many nodes there are, and how deep; counts stop at 1000001
abbrev mutual
  pub form_extent : FormTree → Extent
  form_extent top = one
  form_extent bottom = one
  form_extent (rel r args) = over (terms_extent args)
  form_extent (equal a b) = over (beside (term_extent a) (term_extent b))
  form_extent (negation p) = over (form_extent p)
  form_extent (conjunction ps) = over (forms_extent ps)
  form_extent (disjunction ps) = over (forms_extent ps)
  form_extent (implication p q) = over (beside (form_extent p) (form_extent q))
  form_extent (equivalence p q) = over (beside (form_extent p) (form_extent q))
  form_extent (for_all k p) = over (form_extent p)
  form_extent (for_some k p) = over (form_extent p)

  pub forms_extent : FormTrees → Extent
  forms_extent no_forms = none
  forms_extent (form_then p ps) = beside (form_extent p) (forms_extent ps)

  pub term_extent : TermTree → Extent
  term_extent (bound i) = one
  term_extent (app f args) = over (terms_extent args)
  term_extent (ite p a b) = over (beside (form_extent p) (beside (term_extent a) (term_extent b)))

  pub terms_extent : TermTrees → Extent
  terms_extent no_terms = none
  terms_extent (term_then t ts) = beside (term_extent t) (terms_extent ts)

-- its extent once these arguments are put in too
abbrev pub filled : FormTree → Extent → TermTrees → Extent
filled body so_far no_terms = so_far
filled body so_far (term_then t ts) = filled body (put_in so_far (places_form (size_of ts) body) (term_extent t)) ts

-- ---- laws

-- it is what a relation becomes that is replaced by the formula
abbrev pub InstancesReplaceRelations : Type 0
InstancesReplaceRelations =
    (r : ℕ) (body : FormTree) (args : TermTrees) → rel_instance (change_rel r body) r args ≡ instance body args

-- where the arguments have the sorts of the parameters, the instance fits the sorts that the arguments fit
abbrev pub InstancesFit : Type 0
InstancesFit = (sig : Symbols) (sorts ks : List ℕ) (body : FormTree) (args : TermTrees) → FitsForm sig (reverse ks) body
    → FitsTerms sig sorts args ks → FitsForm sig sorts (instance body args)

-- without quantifiers in the formula and in the arguments, the instance has none
abbrev pub InstancesAreQuantifierFree : Type 0
InstancesAreQuantifierFree = (body : FormTree) (args : TermTrees) → IsQuantifierFree body → AreQuantifierFreeTerms args
    → IsQuantifierFree (instance body args)

-- without quantifiers inside terms and in the arguments, no quantifier stands inside a term of the instance
abbrev pub InstancesHavePlainTerms : Type 0
InstancesHavePlainTerms = (body : FormTree) (args : TermTrees) → HasPlainTerms body → AreQuantifierFreeTerms args
    → HasPlainTerms (instance body args)

-- an argument whose parameter does not stand in the formula may be any
abbrev pub OtherArgumentsDoNotCount : Type 0
OtherArgumentsDoNotCount = (r : ℕ) (body : FormTree) (args : TermTrees)
    → instance body (kept (change_rel r body) args) ≡ instance body args

-- the extent of an instance is found without the instance
abbrev pub ExtentsAreFilled : Type 0
ExtentsAreFilled =
    (body : FormTree) (args : TermTrees) → filled body (form_extent body) args ≡ form_extent (instance body args)

-- extents are counts of nodes and depths
pub record ExtentsAreCounts : Type 0 where
  pub form : (p : FormTree) → form_extent p ≡ extent (form_nodes p) (form_depth p)
  pub term : (t : TermTree) → term_extent t ≡ extent (term_nodes t) (term_depth t)
