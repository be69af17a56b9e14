-- The tree that a shape stands for, over the trees of a pool's nodes.
use Rattle.std.specs.Prelude.{ℕ, ◌<◌, List}
use Rattle.fol_formula.specs.Syntax.{top, bottom, rel, equal, negation, conjunction, disjunction, implication}
use Rattle.fol_formula.specs.Syntax.{equivalence, for_all, for_some, no_forms, form_then, bound, app, ite, no_terms}
use Rattle.fol_formula.specs.Syntax.{term_then}
use Rattle.fol_pool.specs.Trees.{Tree, a_form, some_forms, a_term, some_terms, form_at, forms_at, term_at, terms_at}
use Rattle.fol_pool.specs.Trees.{HasForm, HasForms, HasTerm, HasTerms}
use Rattle.fol_pool.specs.declared.shape.Shape.{Shape}
use Rattle.fol_pool.specs.declared.shape.Shape.TheVariants as shape

abbrev pub tree_of : List Tree → Shape → Tree
tree_of ts shape.True = a_form top
tree_of ts shape.False = a_form bottom
tree_of ts (shape.Rel r args) = a_form (rel r.0 (terms_at ts args.0))
tree_of ts (shape.Eq a b) = a_form (equal (term_at ts a.0) (term_at ts b.0))
tree_of ts (shape.Not p) = a_form (negation (form_at ts p.0))
tree_of ts (shape.And ps) = a_form (conjunction (forms_at ts ps.0))
tree_of ts (shape.Or ps) = a_form (disjunction (forms_at ts ps.0))
tree_of ts (shape.Implies p q) = a_form (implication (form_at ts p.0) (form_at ts q.0))
tree_of ts (shape.Iff p q) = a_form (equivalence (form_at ts p.0) (form_at ts q.0))
tree_of ts (shape.Forall k p) = a_form (for_all k.0 (form_at ts p.0))
tree_of ts (shape.Exists k p) = a_form (for_some k.0 (form_at ts p.0))
tree_of ts shape.NoForms = some_forms no_forms
tree_of ts (shape.FormThen p ps) = some_forms (form_then (form_at ts p.0) (forms_at ts ps.0))
tree_of ts (shape.Bound i) = a_term (bound i)
tree_of ts (shape.App f args) = a_term (app f.0 (terms_at ts args.0))
tree_of ts (shape.Ite p a b) = a_term (ite (form_at ts p.0) (term_at ts a.0) (term_at ts b.0))
tree_of ts shape.NoTerms = some_terms no_terms
tree_of ts (shape.TermThen t rest) = some_terms (term_then (term_at ts t.0) (terms_at ts rest.0))

-- each part is a node, and what stands there is what its place wants
abbrev pub IsOver : List Tree → Shape → Type 0
IsOver ts shape.True = Unit {0}
IsOver ts shape.False = Unit {0}
IsOver ts (shape.Rel r args) = HasTerms ts args.0
IsOver ts (shape.Eq a b) = HasTerm ts a.0 × HasTerm ts b.0
IsOver ts (shape.Not p) = HasForm ts p.0
IsOver ts (shape.And ps) = HasForms ts ps.0
IsOver ts (shape.Or ps) = HasForms ts ps.0
IsOver ts (shape.Implies p q) = HasForm ts p.0 × HasForm ts q.0
IsOver ts (shape.Iff p q) = HasForm ts p.0 × HasForm ts q.0
IsOver ts (shape.Forall k p) = HasForm ts p.0
IsOver ts (shape.Exists k p) = HasForm ts p.0
IsOver ts shape.NoForms = Unit {0}
IsOver ts (shape.FormThen p ps) = HasForm ts p.0 × HasForms ts ps.0
IsOver ts (shape.Bound i) = Unit {0}
IsOver ts (shape.App f args) = HasTerms ts args.0
IsOver ts (shape.Ite p a b) = HasForm ts p.0 × HasTerm ts a.0 × HasTerm ts b.0
IsOver ts shape.NoTerms = Unit {0}
IsOver ts (shape.TermThen t rest) = HasTerm ts t.0 × HasTerms ts rest.0

-- each part has a smaller number
abbrev pub PartsAreBelow : ℕ → Shape → Type 0
PartsAreBelow n shape.True = Unit {0}
PartsAreBelow n shape.False = Unit {0}
PartsAreBelow n (shape.Rel r args) = args.0 < n
PartsAreBelow n (shape.Eq a b) = (a.0 < n) × (b.0 < n)
PartsAreBelow n (shape.Not p) = p.0 < n
PartsAreBelow n (shape.And ps) = ps.0 < n
PartsAreBelow n (shape.Or ps) = ps.0 < n
PartsAreBelow n (shape.Implies p q) = (p.0 < n) × (q.0 < n)
PartsAreBelow n (shape.Iff p q) = (p.0 < n) × (q.0 < n)
PartsAreBelow n (shape.Forall k p) = p.0 < n
PartsAreBelow n (shape.Exists k p) = p.0 < n
PartsAreBelow n shape.NoForms = Unit {0}
PartsAreBelow n (shape.FormThen p ps) = (p.0 < n) × (ps.0 < n)
PartsAreBelow n (shape.Bound i) = Unit {0}
PartsAreBelow n (shape.App f args) = args.0 < n
PartsAreBelow n (shape.Ite p a b) = (p.0 < n) × (a.0 < n) × (b.0 < n)
PartsAreBelow n shape.NoTerms = Unit {0}
PartsAreBelow n (shape.TermThen t rest) = (t.0 < n) × (rest.0 < n)
