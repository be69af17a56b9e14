-- What a pool knows of the tree of a node: how many nodes it has and how deep it is, as far as 64 bits count, and
-- whether an existential stands in it.
use Rattle.std.specs.Prelude.{ℕ, Bool, true, false, ◌||◌}
use Rattle.fol_formula.specs.Syntax.{FormTree, FormTrees, top, bottom, rel, equal, negation, conjunction, disjunction}
use Rattle.fol_formula.specs.Syntax.{implication, equivalence, for_all, for_some, no_forms, form_then}
use Rattle.fol_formula.specs.Counts.{form_nodes, forms_nodes, term_nodes, terms_nodes, form_depth, forms_depth}
use Rattle.fol_formula.specs.Counts.{term_depth, terms_depth, saturated}
use Rattle.fol_pool.specs.Trees.{Tree, a_form, some_forms, a_term, some_terms}
use Rattle.fol_pool.specs.declared.facts.TreeFacts.{TreeFacts}

abbrev pub tree_nodes : Tree → ℕ
tree_nodes (a_form p) = form_nodes p
tree_nodes (some_forms ps) = forms_nodes ps
tree_nodes (a_term t) = term_nodes t
tree_nodes (some_terms ts) = terms_nodes ts

abbrev pub tree_depth : Tree → ℕ
tree_depth (a_form p) = form_depth p
tree_depth (some_forms ps) = forms_depth ps
tree_depth (a_term t) = term_depth t
tree_depth (some_terms ts) = terms_depth ts

-- an existential stands in the formula as it is written; those of terms don't count
abbrev mutual
  pub has_existential : FormTree → Bool
  has_existential top = false
  has_existential bottom = false
  has_existential (rel r args) = false
  has_existential (equal a b) = false
  has_existential (negation p) = has_existential p
  has_existential (conjunction ps) = have_existential ps
  has_existential (disjunction ps) = have_existential ps
  has_existential (implication p q) = has_existential p || has_existential q
  has_existential (equivalence p q) = has_existential p || has_existential q
  has_existential (for_all k p) = has_existential p
  has_existential (for_some k p) = true

  pub have_existential : FormTrees → Bool
  have_existential no_forms = false
  have_existential (form_then p ps) = has_existential p || have_existential ps

abbrev pub tree_existential : Tree → Bool
tree_existential (a_form p) = has_existential p
tree_existential (some_forms ps) = have_existential ps
tree_existential (a_term t) = false
tree_existential (some_terms ts) = false

-- all three, as they are kept
abbrev pub tree_facts : Tree → TreeFacts
tree_facts t = record {
  nodes = saturated (tree_nodes t);
  depth = saturated (tree_depth t);
  existential = tree_existential t;
}
