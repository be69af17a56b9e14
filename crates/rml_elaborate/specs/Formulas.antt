-- The formulas and terms that expressions stand for. A use of a derived relation stands for its right side, with the
-- arguments in the place of the parameters. An expression that is not what it has to be where it stands is a fault;
-- what these functions give for it is read by nobody.
use Rattle.std.specs.Prelude.{ℕ, List, ◌∷◌, slice_index_or}
use Rattle.fol_formula.specs.Syntax.{FormTree, FormTrees, TermTree, TermTrees, top, bottom, rel, equal, negation}
use Rattle.fol_formula.specs.Syntax.{conjunction, disjunction, implication, equivalence, for_all, for_some, no_forms}
use Rattle.fol_formula.specs.Syntax.{form_then, bound, app, ite, no_terms, term_then}
use Rattle.rml_terms.specs.declared.tree.Quantifier.{Quantifier}
use Rattle.rml_terms.specs.declared.tree.Quantifier.TheVariants.{Forall, Exists}
use Rattle.rml_terms.specs.Tree.{ExprTree, ExprTrees, True, False, Apply, Ite, Equal, Not, And, Or, Implies, Iff}
use Rattle.rml_terms.specs.Tree.{Quantified, no_expr, and_expr}
use Rattle.fol_subst.specs.Templates.{instance}
use Rattle.rml_names.specs.Vocabulary.{Vocabulary}
use Rattle.rml_names.specs.declared.meaning.Meaning.{Meaning}
use Rattle.rml_names.specs.declared.meaning.Meaning.TheVariants.{Bound, Relation, Function, Derived}
use Rattle.rml_names.specs.Meanings.{bytes_of, BoundName, meaning_of, sort_number, binding}

-- A relation before its arguments; a derived relation is written out, by `bodies`, the right sides of the derived
-- relations with all uses written out; another name is no atom.
abbrev pub atom_of : List FormTree → Meaning → TermTrees → FormTree
atom_of bodies (Relation r) args = rel r args
atom_of bodies (Derived d) args = instance (slice_index_or bodies d bottom) args
atom_of bodies _ args = bottom

-- a bound name, or a function with its arguments
abbrev pub application_of : Meaning → TermTrees → TermTree
application_of (Bound i k) args = bound i
application_of (Function f) args = app f args
application_of _ args = bound 0

abbrev pub quantified : Quantifier → ℕ → FormTree → FormTree
quantified Forall k p = for_all k p
quantified Exists k p = for_some k p

module _ (text : List ℕ) (v : Vocabulary) (bodies : List FormTree) where
  abbrev mutual
    -- the formula of an expression in a formula's place
    pub formula_of : List BoundName → ExprTree → FormTree
    formula_of bs (True at) = top
    formula_of bs (False at) = bottom
    formula_of bs (Apply name args) = atom_of bodies (meaning_of v bs (bytes_of text name)) (terms_of bs args)
    formula_of bs (Ite at c a b) = bottom
    formula_of bs (Equal at a b) = equal (term_of bs a) (term_of bs b)
    formula_of bs (Not at a) = negation (formula_of bs a)
    formula_of bs (And at args) = conjunction (formulas_of bs args)
    formula_of bs (Or at args) = disjunction (formulas_of bs args)
    formula_of bs (Implies at a b) = implication (formula_of bs a) (formula_of bs b)
    formula_of bs (Iff at a b) = equivalence (formula_of bs a) (formula_of bs b)
    formula_of bs (Quantified q at b a) =
        quantified q (sort_number text v b.sort) (formula_of (binding text v b ∷ bs) a)

    pub formulas_of : List BoundName → ExprTrees → FormTrees
    formulas_of bs no_expr = no_forms
    formulas_of bs (and_expr e es) = form_then (formula_of bs e) (formulas_of bs es)

    -- the term of an expression in a term's place
    pub term_of : List BoundName → ExprTree → TermTree
    term_of bs (True at) = bound 0
    term_of bs (False at) = bound 0
    term_of bs (Apply name args) = application_of (meaning_of v bs (bytes_of text name)) (terms_of bs args)
    term_of bs (Ite at c a b) = ite (formula_of bs c) (term_of bs a) (term_of bs b)
    term_of bs (Equal at a b) = bound 0
    term_of bs (Not at a) = bound 0
    term_of bs (And at args) = bound 0
    term_of bs (Or at args) = bound 0
    term_of bs (Implies at a b) = bound 0
    term_of bs (Iff at a b) = bound 0
    term_of bs (Quantified q at b a) = bound 0

    pub terms_of : List BoundName → ExprTrees → TermTrees
    terms_of bs no_expr = no_terms
    terms_of bs (and_expr e es) = term_then (term_of bs e) (terms_of bs es)
