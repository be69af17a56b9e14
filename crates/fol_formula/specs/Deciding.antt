-- The tests of the fragments, as the code makes them.
use Rattle.std.specs.Prelude.{Bool, true, false, ◌&&◌}
use Rattle.fol_formula.specs.Syntax.{FormTree, FormTrees, TermTree, TermTrees, top, bottom, rel, equal, negation}
use Rattle.fol_formula.specs.Syntax.{conjunction, disjunction, implication, equivalence, for_all, for_some, no_forms}
use Rattle.fol_formula.specs.Syntax.{form_then, bound, app, ite, no_terms, term_then}
use Rattle.fol_formula.specs.declared.classes.PrefixClasses.{PrefixClasses}

-- the classes of a formula without quantifiers
abbrev pub every_class : PrefixClasses
every_class = record { universal = true; existential = true; exists_forall = true; forall_exists = true }

-- the classes of the negation of a formula that has these
abbrev pub opposite : PrefixClasses → PrefixClasses
opposite c =
    record {
      universal = c.existential;
      existential = c.universal;
      exists_forall = c.forall_exists;
      forall_exists = c.exists_forall;
    }

-- the classes that both have
abbrev pub common : PrefixClasses → PrefixClasses → PrefixClasses
common c d = record {
  universal = c.universal && d.universal;
  existential = c.existential && d.existential;
  exists_forall = c.exists_forall && d.exists_forall;
  forall_exists = c.forall_exists && d.forall_exists;
}

-- as it stands and negated, as a side of an equivalence
abbrev pub both_ways : PrefixClasses → PrefixClasses
both_ways c = record {
  universal = c.universal && c.existential;
  existential = c.universal && c.existential;
  exists_forall = c.exists_forall && c.forall_exists;
  forall_exists = c.exists_forall && c.forall_exists;
}

-- under a universal quantifier
abbrev pub under_all : PrefixClasses → PrefixClasses
under_all c =
    record {
      universal = c.universal;
      existential = false;
      exists_forall = c.universal;
      forall_exists = c.forall_exists;
    }

-- under an existential quantifier
abbrev pub under_some : PrefixClasses → PrefixClasses
under_some c =
    record {
      universal = false;
      existential = c.existential;
      exists_forall = c.exists_forall;
      forall_exists = c.existential;
    }

-- The classes of a formula, and those that all of a row have. The quantifiers inside terms don't count.
abbrev mutual
  pub classes : FormTree → PrefixClasses
  classes top = every_class
  classes bottom = every_class
  classes (rel r args) = every_class
  classes (equal a b) = every_class
  classes (negation p) = opposite (classes p)
  classes (conjunction ps) = common_classes ps
  classes (disjunction ps) = common_classes ps
  classes (implication p q) = common (opposite (classes p)) (classes q)
  classes (equivalence p q) = common (both_ways (classes p)) (both_ways (classes q))
  classes (for_all k p) = under_all (classes p)
  classes (for_some k p) = under_some (classes p)

  pub common_classes : FormTrees → PrefixClasses
  common_classes no_forms = every_class
  common_classes (form_then p ps) = common (classes p) (common_classes ps)

-- whether no quantifier stands in it, also inside terms
abbrev mutual
  pub is_quantifier_free : FormTree → Bool
  is_quantifier_free top = true
  is_quantifier_free bottom = true
  is_quantifier_free (rel r args) = are_quantifier_free_terms args
  is_quantifier_free (equal a b) = is_quantifier_free_term a && is_quantifier_free_term b
  is_quantifier_free (negation p) = is_quantifier_free p
  is_quantifier_free (conjunction ps) = are_quantifier_free ps
  is_quantifier_free (disjunction ps) = are_quantifier_free ps
  is_quantifier_free (implication p q) = is_quantifier_free p && is_quantifier_free q
  is_quantifier_free (equivalence p q) = is_quantifier_free p && is_quantifier_free q
  is_quantifier_free (for_all k p) = false
  is_quantifier_free (for_some k p) = false

  pub are_quantifier_free : FormTrees → Bool
  are_quantifier_free no_forms = true
  are_quantifier_free (form_then p ps) = is_quantifier_free p && are_quantifier_free ps

  pub is_quantifier_free_term : TermTree → Bool
  is_quantifier_free_term (bound i) = true
  is_quantifier_free_term (app f args) = are_quantifier_free_terms args
  is_quantifier_free_term (ite p a b) = is_quantifier_free p && (is_quantifier_free_term a && is_quantifier_free_term b)

  pub are_quantifier_free_terms : TermTrees → Bool
  are_quantifier_free_terms no_terms = true
  are_quantifier_free_terms (term_then t ts) = is_quantifier_free_term t && are_quantifier_free_terms ts

-- whether no quantifier stands inside a term
abbrev mutual
  pub has_plain_terms : FormTree → Bool
  has_plain_terms top = true
  has_plain_terms bottom = true
  has_plain_terms (rel r args) = are_quantifier_free_terms args
  has_plain_terms (equal a b) = is_quantifier_free_term a && is_quantifier_free_term b
  has_plain_terms (negation p) = has_plain_terms p
  has_plain_terms (conjunction ps) = have_plain_terms ps
  has_plain_terms (disjunction ps) = have_plain_terms ps
  has_plain_terms (implication p q) = has_plain_terms p && has_plain_terms q
  has_plain_terms (equivalence p q) = has_plain_terms p && has_plain_terms q
  has_plain_terms (for_all k p) = has_plain_terms p
  has_plain_terms (for_some k p) = has_plain_terms p

  pub have_plain_terms : FormTrees → Bool
  have_plain_terms no_forms = true
  have_plain_terms (form_then p ps) = has_plain_terms p && have_plain_terms ps

-- whether no `ite` stands in the term
abbrev mutual
  pub is_ite_free : TermTree → Bool
  is_ite_free (bound i) = true
  is_ite_free (app f args) = are_ite_free args
  is_ite_free (ite p a b) = false

  pub are_ite_free : TermTrees → Bool
  are_ite_free no_terms = true
  are_ite_free (term_then t ts) = is_ite_free t && are_ite_free ts

-- whether it is an atom without `ite`; `top` and `bottom` are no atoms
abbrev pub is_plain_atom : FormTree → Bool
is_plain_atom (rel r args) = are_ite_free args
is_plain_atom (equal a b) = is_ite_free a && is_ite_free b
is_plain_atom _ = false

-- whether it is in positive normal form without `ite`
abbrev mutual
  pub is_normal_form : FormTree → Bool
  is_normal_form top = true
  is_normal_form bottom = true
  is_normal_form (rel r args) = are_ite_free args
  is_normal_form (equal a b) = is_ite_free a && is_ite_free b
  is_normal_form (negation p) = is_plain_atom p
  is_normal_form (conjunction ps) = are_normal_forms ps
  is_normal_form (disjunction ps) = are_normal_forms ps
  is_normal_form (implication p q) = false
  is_normal_form (equivalence p q) = false
  is_normal_form (for_all k p) = is_normal_form p
  is_normal_form (for_some k p) = is_normal_form p

  pub are_normal_forms : FormTrees → Bool
  are_normal_forms no_forms = true
  are_normal_forms (form_then p ps) = is_normal_form p && are_normal_forms ps
