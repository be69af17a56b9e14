-- The primitives that the updates of a text stand for.
use Rattle.std.specs.Prelude.{ℕ, List, [], Option, Some, None}
use Rattle.fol_formula.specs.Syntax.{FormTree, FormTrees, TermTree, TermTrees, rel, equal, negation, conjunction}
use Rattle.fol_formula.specs.Syntax.{disjunction, no_forms, form_then, bound, app, ite, size_of, no_terms, term_then}
use Rattle.rml_terms.specs.declared.tree.Name.{Name}
use Rattle.rml_terms.specs.declared.tree.Binder.{Binder}
use Rattle.rml_terms.specs.Tree.{ExprTree}
use Rattle.rml_command.specs.Trees.{PrimitiveTree, set_rel, set_fun, havoc, havoc_rel, abort}
use Rattle.rml_command.specs.Fresh.{parameters}
use Rattle.rml_names.specs.Vocabulary.{Vocabulary}
use Rattle.rml_names.specs.declared.meaning.Meaning.{Meaning}
use Rattle.rml_names.specs.declared.meaning.Meaning.TheVariants.{Relation, Function}
use Rattle.rml_names.specs.Meanings.{argument_sorts, with_parameters, with_binders}
use Rattle.rml_elaborate.specs.Formulas.{formula_of, term_of}

-- ---- updates at one tuple

-- each parameter is the term
abbrev pub equations : TermTrees → FormTrees
equations no_terms = no_forms
equations (term_then t ts) = form_then (equal (bound (size_of ts)) t) (equations ts)

-- the parameters are these terms, one by one
abbrev pub at_tuple : TermTrees → FormTree
at_tuple ts = conjunction (equations ts)

-- insert r(t..) is r(x..) := r(x..) | (x1 = t1 & ..)
abbrev pub right_of_insertion : ℕ → TermTrees → FormTree
right_of_insertion r ts =
    disjunction (form_then (rel r (parameters (size_of ts))) (form_then (at_tuple ts) no_forms))

-- the primitive of an `insert`; what stands for a target that is no relation is read by nobody
abbrev pub insertion : Meaning → TermTrees → PrimitiveTree
insertion (Relation r) ts = set_rel r (right_of_insertion r ts)
insertion _ ts = abort

-- remove r(t..) is r(x..) := r(x..) & ~(x1 = t1 & ..)
abbrev pub right_of_removal : ℕ → TermTrees → FormTree
right_of_removal r ts =
    conjunction (form_then (rel r (parameters (size_of ts))) (form_then (negation (at_tuple ts)) no_forms))

-- the primitive of a `remove`, likewise
abbrev pub removal : Meaning → TermTrees → PrimitiveTree
removal (Relation r) ts = set_rel r (right_of_removal r ts)
removal _ ts = abort

-- put f(t..) = u is f(x..) := ite(x1 = t1 & .., u, f(x..))
abbrev pub right_of_placement : ℕ → TermTrees → TermTree → TermTree
right_of_placement f ts u = ite (at_tuple ts) u (app f (parameters (size_of ts)))

-- the primitive of a `put`; what stands for a target that is no function is read by nobody
abbrev pub placement : Meaning → TermTrees → TermTree → PrimitiveTree
placement (Function f) ts u = set_fun f (right_of_placement f ts u)
placement _ ts u = abort

module _ (text : List ℕ) (v : Vocabulary) (bodies : List FormTree) where
  -- r(x..) := phi, f(x..) := t, v := * and r(x..) := *
  abbrev pub assignment : Meaning → List Name → Option ExprTree → PrimitiveTree
  assignment (Relation r) ps (Some e) =
      set_rel r (formula_of text v bodies (with_parameters text [] ps (argument_sorts v (Relation r))) e)
  assignment (Function f) ps (Some e) =
      set_fun f (term_of text v bodies (with_parameters text [] ps (argument_sorts v (Function f))) e)
  assignment (Relation r) ps None = havoc_rel r
  assignment (Function f) ps None = havoc f
  assignment _ ps _ = abort

  -- the right side of a definition, with its parameters free
  abbrev pub definition : List Binder → ExprTree → FormTree
  definition bs e = formula_of text v bodies (with_binders text v [] bs) e
