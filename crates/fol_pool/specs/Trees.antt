-- What stands at the nodes of a pool, as plain trees: formulas, terms, and rows of these.
use Rattle.std.specs.Prelude.{◌≡◌, ℕ, ◌<◌, ◌++◌, List, length, get_or, refl}
use Rattle.std.specs.Coded.{Coded, code_by}
use Rattle.fol_formula.specs.Syntax.{FormTree, FormTrees, TermTree, TermTrees, top, rel, equal, negation, conjunction}
use Rattle.fol_formula.specs.Syntax.{no_forms, bound, no_terms}
use Rattle.fol_formula.specs.Code.{form_code}

pub data Tree : Type 0 where
  a_form : FormTree → Tree
  some_forms : FormTrees → Tree
  a_term : TermTree → Tree
  some_terms : TermTrees → Tree

-- a formula that has the tree in it, by which trees are told apart
abbrev pub as_form : Tree → FormTree
as_form (a_form p) = negation p
as_form (some_forms ps) = conjunction ps
as_form (a_term t) = equal t t
as_form (some_terms ts) = rel 0 ts

abbrev pub of_form : FormTree → Tree
of_form (negation p) = a_form p
of_form (conjunction ps) = some_forms ps
of_form (equal a b) = a_term a
of_form (rel r ts) = some_terms ts
of_form _ = a_form top

pub of_form-as_form : (t : Tree) → of_form (as_form t) ≡ t
of_form-as_form (a_form p) = refl
of_form-as_form (some_forms ps) = refl
of_form-as_form (a_term t) = refl
of_form-as_form (some_terms ts) = refl

abbrev pub tree_code : Coded Tree
tree_code = code_by FormTree form_code as_form of_form of_form-as_form

-- the tree of the node with this number; `top` where there is none
abbrev pub tree_at : List Tree → ℕ → Tree
tree_at ts n = get_or ts n (a_form top)

-- there is a node with this number, and this is its tree
abbrev pub IsAt : List Tree → ℕ → Tree → Type 0
IsAt ts n t = (n < length ts) × (tree_at ts n ≡ t)

-- no tree stands at two nodes
abbrev pub EachOnce : List Tree → Type 0
EachOnce ts = (i j : ℕ) → i < length ts → j < length ts → tree_at ts i ≡ tree_at ts j → i ≡ j

-- each node keeps its number and its tree
abbrev pub Grows : List Tree → List Tree → Type 0
Grows old new = (more : List Tree) × (new ≡ old ++ more)

-- the formula at a node; `top` where none stands there
abbrev pub as_formula : Tree → FormTree
as_formula (a_form p) = p
as_formula _ = top

-- the row of formulas at a node; an empty one where none stands there
abbrev pub as_formulas : Tree → FormTrees
as_formulas (some_forms ps) = ps
as_formulas _ = no_forms

-- the term at a node; an index where none stands there
abbrev pub as_term : Tree → TermTree
as_term (a_term t) = t
as_term _ = bound 0

-- the row of terms at a node; an empty one where none stands there
abbrev pub as_terms : Tree → TermTrees
as_terms (some_terms ts) = ts
as_terms _ = no_terms

abbrev pub form_at : List Tree → ℕ → FormTree
form_at ts n = as_formula (tree_at ts n)

abbrev pub forms_at : List Tree → ℕ → FormTrees
forms_at ts n = as_formulas (tree_at ts n)

abbrev pub term_at : List Tree → ℕ → TermTree
term_at ts n = as_term (tree_at ts n)

abbrev pub terms_at : List Tree → ℕ → TermTrees
terms_at ts n = as_terms (tree_at ts n)

-- a formula stands at the node
abbrev pub HasForm : List Tree → ℕ → Type 0
HasForm ts n = IsAt ts n (a_form (form_at ts n))

-- a row of formulas stands there
abbrev pub HasForms : List Tree → ℕ → Type 0
HasForms ts n = IsAt ts n (some_forms (forms_at ts n))

-- a term stands there
abbrev pub HasTerm : List Tree → ℕ → Type 0
HasTerm ts n = IsAt ts n (a_term (term_at ts n))

-- a row of terms stands there
abbrev pub HasTerms : List Tree → ℕ → Type 0
HasTerms ts n = IsAt ts n (some_terms (terms_at ts n))
