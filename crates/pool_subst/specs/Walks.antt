-- What becomes of a tree by rules, in two steps: its parts are changed first, and then what stands at its top.
use Rattle.std.specs.Prelude.{ℕ}
use Rattle.fol_formula.specs.Syntax.{rel, bound, app}
use Rattle.fol_subst.specs.Rules.{Rules, form_by, forms_by, term_by, terms_by}
use Rattle.fol_pool.specs.Trees.{Tree, a_form, some_forms, a_term, some_terms}

-- under so many binders
abbrev pub tree_by : Rules → ℕ → Tree → Tree
tree_by rules depth (a_form p) = a_form (form_by rules depth p)
tree_by rules depth (some_forms ps) = some_forms (forms_by rules depth ps)
tree_by rules depth (a_term t) = a_term (term_by rules depth t)
tree_by rules depth (some_terms ts) = some_terms (terms_by rules depth ts)

-- the parts alone are changed
abbrev pub parts_by : Rules → ℕ → Tree → Tree
parts_by rules depth (a_form (rel q args)) = a_form (rel q (terms_by rules depth args))
parts_by rules depth (a_term (bound i)) = a_term (bound i)
parts_by rules depth (a_term (app f args)) = a_term (app f (terms_by rules depth args))
parts_by rules depth t = tree_by rules depth t

-- what stands at the top alone is changed
abbrev pub top_by : Rules → ℕ → Tree → Tree
top_by rules depth (a_form (rel q args)) = a_form (rules.relation q args)
top_by rules depth (a_term (bound i)) = a_term (rules.index depth i)
top_by rules depth (a_term (app f args)) = a_term (rules.function depth f args)
top_by rules depth t = t
