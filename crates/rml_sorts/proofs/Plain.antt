-- Where no quantifier stands inside an `ite`, formulas have plain terms; where none stands at all, they have none.
use Rattle.std.proofs.Common.{◌≡◌, ℕ, zero, suc, Bool, true, false, List, [], ◌∷◌, ◌++◌, slice_index_or, refl}
use Rattle.std.specs.List.{AllByRecursion}
use Rattle.fol_formula.specs.Syntax.{FormTree, FormTrees, TermTree, TermTrees, top, bottom, rel, equal, negation}
use Rattle.fol_formula.specs.Syntax.{conjunction, disjunction, implication, equivalence, for_all, for_some, no_forms}
use Rattle.fol_formula.specs.Syntax.{form_then, bound, app, ite, no_terms, term_then}
use Rattle.fol_subst.specs.Templates.{InstancesAreQuantifierFree, InstancesHavePlainTerms}
use Rattle.fol_formula.specs.Fragments.{IsQuantifierFree, AreQuantifierFree, IsQuantifierFreeTerm}
use Rattle.fol_formula.specs.Fragments.{AreQuantifierFreeTerms, HasPlainTerms, HavePlainTerms}
use Rattle.rml_terms.specs.declared.tree.Quantifier.{Quantifier}
use Rattle.rml_terms.specs.declared.tree.Quantifier.TheVariants.{Forall, Exists}
use Rattle.rml_terms.specs.Tree.{ExprTree, ExprTrees, True, False, Apply, Ite, Equal, Not, And, Or, Implies, Iff}
use Rattle.rml_terms.specs.Tree.{Quantified, no_expr, and_expr}
use Rattle.rml_names.specs.Vocabulary.{Vocabulary}
use Rattle.rml_names.specs.declared.meaning.Meaning.{Meaning}
use Rattle.rml_names.specs.declared.meaning.Meaning.TheVariants as meaning
use Rattle.rml_names.specs.Meanings.{bytes_of, BoundName, meaning_of, sort_number, binding}
use Rattle.rml_elaborate.specs.Formulas.{atom_of, application_of, quantified, formula_of, formulas_of, term_of}
use Rattle.rml_elaborate.specs.Formulas.{terms_of}
use Rattle.rml_quantifiers.specs.Quantifiers.{quantifiers_in, quantifiers_in_each}

pub nil_left : {A : Type 0} (xs ys : List A) → xs ++ ys ≡ [] → xs ≡ []
nil_left [] ys h = refl
nil_left (x ∷ xs) ys h = cc

pub nil_right : {A : Type 0} (xs ys : List A) → xs ++ ys ≡ [] → ys ≡ []
nil_right [] ys h = h
nil_right (x ∷ xs) ys h = cc

-- a formula without quantifiers has plain terms
mutual
  free_is_plain : (p : FormTree) → IsQuantifierFree p → HasPlainTerms p
  free_is_plain top h = tt
  free_is_plain bottom h = tt
  free_is_plain (rel r args) h = h
  free_is_plain (equal a b) h = h
  free_is_plain (negation p) h = free_is_plain p h
  free_is_plain (conjunction ps) h = free_are_plain ps h
  free_is_plain (disjunction ps) h = free_are_plain ps h
  free_is_plain (implication p q) h = (free_is_plain p h.0, free_is_plain q h.1)
  free_is_plain (equivalence p q) h = (free_is_plain p h.0, free_is_plain q h.1)
  free_is_plain (for_all k p) h = absurd h
  free_is_plain (for_some k p) h = absurd h

  free_are_plain : (ps : FormTrees) → AreQuantifierFree ps → HavePlainTerms ps
  free_are_plain no_forms h = tt
  free_are_plain (form_then p ps) h = (free_is_plain p h.0, free_are_plain ps h.1)

-- laws on instances
pub record InstancesArePlain : Type 0 where
  pub free : InstancesAreQuantifierFree
  pub plain : InstancesHavePlainTerms

module _ (laws : InstancesArePlain) (bodies : List FormTree) (right : AllByRecursion IsQuantifierFree bodies) where
  body_free : (d : ℕ) → IsQuantifierFree (slice_index_or bodies d bottom)
  body_free d = at bodies d right
    where
      at : (xs : List FormTree) (d : ℕ) → AllByRecursion IsQuantifierFree xs
          → IsQuantifierFree (slice_index_or xs d bottom)
      at [] d h = tt
      at (x ∷ xs) zero h = h.0
      at (x ∷ xs) (suc d) h = at xs d h.1

  atom_free : (x : Meaning) (args : TermTrees) → AreQuantifierFreeTerms args
      → IsQuantifierFree (atom_of bodies x args)
  atom_free (meaning.Bound i k) args h = tt
  atom_free (meaning.Relation r) args h = h
  atom_free (meaning.Function f) args h = tt
  atom_free (meaning.Derived d) args h = laws.free (slice_index_or bodies d bottom) args (body_free d) h
  atom_free meaning.Unknown args h = tt

  atom_plain : (x : Meaning) (args : TermTrees) → AreQuantifierFreeTerms args → HasPlainTerms (atom_of bodies x args)
  atom_plain (meaning.Bound i k) args h = tt
  atom_plain (meaning.Relation r) args h = h
  atom_plain (meaning.Function f) args h = tt
  atom_plain (meaning.Derived d) args h = laws.plain (slice_index_or bodies d bottom) args
      (free_is_plain (slice_index_or bodies d bottom) (body_free d)) h
  atom_plain meaning.Unknown args h = tt

application_free : (x : Meaning) (args : TermTrees) → AreQuantifierFreeTerms args
    → IsQuantifierFreeTerm (application_of x args)
application_free (meaning.Bound i k) args h = tt
application_free (meaning.Relation r) args h = tt
application_free (meaning.Function f) args h = h
application_free (meaning.Derived d) args h = tt
application_free meaning.Unknown args h = tt

quantified_plain : (q : Quantifier) (k : ℕ) (p : FormTree) → HasPlainTerms p → HasPlainTerms (quantified q k p)
quantified_plain Forall k p h = h
quantified_plain Exists k p h = h

module _ (laws : InstancesArePlain) (text : List ℕ) (v : Vocabulary) (bodies : List FormTree)
    (right : AllByRecursion IsQuantifierFree bodies) where
  mutual
    pub formula_free : (bs : List BoundName) (e : ExprTree) → quantifiers_in true e ≡ []
        → IsQuantifierFree (formula_of text v bodies bs e)
    formula_free bs (True at) h = tt
    formula_free bs (False at) h = tt
    formula_free bs (Apply name args) h =
        atom_free laws bodies right (meaning_of v bs (bytes_of text name)) (terms_of text v bodies bs args) (terms_free bs true args h)
    formula_free bs (Ite at c a b) h = tt
    formula_free bs (Equal at a b) h = (
      term_free bs true a (nil_left (quantifiers_in true a) _ h),
      term_free bs true b
          (nil_right (quantifiers_in true a) _ h),
    )
    formula_free bs (Not at a) h = formula_free bs a h
    formula_free bs (And at args) h = formulas_free bs args h
    formula_free bs (Or at args) h = formulas_free bs args h
    formula_free bs (Implies at a b) h = (
      formula_free bs a (nil_left (quantifiers_in true a) _ h),
      formula_free bs b
          (nil_right (quantifiers_in true a) _ h),
    )
    formula_free bs (Iff at a b) h = (
      formula_free bs a (nil_left (quantifiers_in true a) _ h),
      formula_free bs b
          (nil_right (quantifiers_in true a) _ h),
    )
    formula_free bs (Quantified q at b a) h = absurd (cc)

    formulas_free : (bs : List BoundName) (es : ExprTrees) → quantifiers_in_each true es ≡ []
        → AreQuantifierFree (formulas_of text v bodies bs es)
    formulas_free bs no_expr h = tt
    formulas_free bs (and_expr e es) h = (
      formula_free bs e (nil_left (quantifiers_in true e) _ h),
      formulas_free bs es
          (nil_right (quantifiers_in true e) _ h),
    )

    pub term_free : (bs : List BoundName) (all : Bool) (e : ExprTree) → quantifiers_in all e ≡ []
        → IsQuantifierFreeTerm (term_of text v bodies bs e)
    term_free bs all (True at) h = tt
    term_free bs all (False at) h = tt
    term_free bs all (Apply name args) h =
        application_free (meaning_of v bs (bytes_of text name)) (terms_of text v bodies bs args) (terms_free bs all args h)
    term_free bs all (Ite at c a b) h =
        let ab = nil_right (quantifiers_in true c) (quantifiers_in true a ++ quantifiers_in true b) h in (
          formula_free bs c (nil_left (quantifiers_in true c) _ h),
          term_free bs true a
              (nil_left (quantifiers_in true a) (quantifiers_in true b) ab),
          term_free bs true b
              (nil_right (quantifiers_in true a) (quantifiers_in true b) ab),
        )
    term_free bs all (Equal at a b) h = tt
    term_free bs all (Not at a) h = tt
    term_free bs all (And at args) h = tt
    term_free bs all (Or at args) h = tt
    term_free bs all (Implies at a b) h = tt
    term_free bs all (Iff at a b) h = tt
    term_free bs all (Quantified q at b a) h = tt

    pub terms_free : (bs : List BoundName) (all : Bool) (es : ExprTrees) → quantifiers_in_each all es ≡ []
        → AreQuantifierFreeTerms (terms_of text v bodies bs es)
    terms_free bs all no_expr h = tt
    terms_free bs all (and_expr e es) h = (
      term_free bs all e (nil_left (quantifiers_in all e) _ h),
      terms_free bs all es
          (nil_right (quantifiers_in all e) _ h),
    )

  mutual
    pub formula_plain : (bs : List BoundName) (e : ExprTree) → quantifiers_in false e ≡ []
        → HasPlainTerms (formula_of text v bodies bs e)
    formula_plain bs (True at) h = tt
    formula_plain bs (False at) h = tt
    formula_plain bs (Apply name args) h =
        atom_plain laws bodies right (meaning_of v bs (bytes_of text name)) (terms_of text v bodies bs args) (terms_free bs false args h)
    formula_plain bs (Ite at c a b) h = tt
    formula_plain bs (Equal at a b) h = (
      term_free bs false a (nil_left (quantifiers_in false a) _ h),
      term_free bs false b
          (nil_right (quantifiers_in false a) _ h),
    )
    formula_plain bs (Not at a) h = formula_plain bs a h
    formula_plain bs (And at args) h = formulas_plain bs args h
    formula_plain bs (Or at args) h = formulas_plain bs args h
    formula_plain bs (Implies at a b) h = (
      formula_plain bs a (nil_left (quantifiers_in false a) _ h),
      formula_plain bs b
          (nil_right (quantifiers_in false a) _ h),
    )
    formula_plain bs (Iff at a b) h = (
      formula_plain bs a (nil_left (quantifiers_in false a) _ h),
      formula_plain bs b
          (nil_right (quantifiers_in false a) _ h),
    )
    formula_plain bs (Quantified q at b a) h =
        quantified_plain q (sort_number text v b.sort) (formula_of text v bodies (binding text v b ∷ bs) a)
        (formula_plain (binding text v b ∷ bs) a h)

    formulas_plain : (bs : List BoundName) (es : ExprTrees) → quantifiers_in_each false es ≡ []
        → HavePlainTerms (formulas_of text v bodies bs es)
    formulas_plain bs no_expr h = tt
    formulas_plain bs (and_expr e es) h = (
      formula_plain bs e (nil_left (quantifiers_in false e) _ h),
      formulas_plain bs es
          (nil_right (quantifiers_in false e) _ h),
    )
