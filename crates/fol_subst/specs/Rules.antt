-- A formula with its indices, relations and functions changed by rules. Shifting indices (Shift), putting arguments
-- into indices and replacing a symbol (Replace) are its three cases.
use Rattle.std.specs.Prelude.{ℕ, suc}
use Rattle.fol_formula.specs.Syntax.{FormTree, FormTrees, TermTree, TermTrees, top, bottom, rel, equal, negation}
use Rattle.fol_formula.specs.Syntax.{conjunction, disjunction, implication, equivalence, for_all, for_some, no_forms}
use Rattle.fol_formula.specs.Syntax.{form_then, bound, app, ite, no_terms, term_then, size_of}

-- What an index under so many binders becomes, and what a relation and a function (this one under so many binders)
-- become before arguments that are changed already.
pub record Rules : Type 0 where
  pub index : ℕ → ℕ → TermTree
  pub relation : ℕ → TermTrees → FormTree
  pub function : ℕ → ℕ → TermTrees → TermTree

-- relations and functions stay, and only indices change
abbrev pub of_indices : (ℕ → ℕ → TermTree) → Rules
of_indices becomes = record {
  index = becomes;
  relation = λ q args. rel q args;
  function = λ depth f args. app f args;
}

-- under `depth` binders
abbrev mutual
  pub form_by : Rules → ℕ → FormTree → FormTree
  form_by rules depth top = top
  form_by rules depth bottom = bottom
  form_by rules depth (rel q args) = rules.relation q (terms_by rules depth args)
  form_by rules depth (equal a b) = equal (term_by rules depth a) (term_by rules depth b)
  form_by rules depth (negation p) = negation (form_by rules depth p)
  form_by rules depth (conjunction ps) = conjunction (forms_by rules depth ps)
  form_by rules depth (disjunction ps) = disjunction (forms_by rules depth ps)
  form_by rules depth (implication p q) = implication (form_by rules depth p) (form_by rules depth q)
  form_by rules depth (equivalence p q) = equivalence (form_by rules depth p) (form_by rules depth q)
  form_by rules depth (for_all k p) = for_all k (form_by rules (suc depth) p)
  form_by rules depth (for_some k p) = for_some k (form_by rules (suc depth) p)

  pub forms_by : Rules → ℕ → FormTrees → FormTrees
  forms_by rules depth no_forms = no_forms
  forms_by rules depth (form_then p ps) = form_then (form_by rules depth p) (forms_by rules depth ps)

  pub term_by : Rules → ℕ → TermTree → TermTree
  term_by rules depth (bound i) = rules.index depth i
  term_by rules depth (app f args) = rules.function depth f (terms_by rules depth args)
  term_by rules depth (ite p a b) = ite (form_by rules depth p) (term_by rules depth a) (term_by rules depth b)

  pub terms_by : Rules → ℕ → TermTrees → TermTrees
  terms_by rules depth no_terms = no_terms
  terms_by rules depth (term_then t ts) = term_then (term_by rules depth t) (terms_by rules depth ts)

-- each relation and each function stands before a number of arguments that it allows
abbrev mutual
  pub EachForm : (ℕ → ℕ → Type 0) → (ℕ → ℕ → Type 0) → FormTree → Type 0
  EachForm R F top = Unit {0}
  EachForm R F bottom = Unit {0}
  EachForm R F (rel q args) = R q (size_of args) × EachTerms R F args
  EachForm R F (equal a b) = EachTerm R F a × EachTerm R F b
  EachForm R F (negation p) = EachForm R F p
  EachForm R F (conjunction ps) = EachForms R F ps
  EachForm R F (disjunction ps) = EachForms R F ps
  EachForm R F (implication p q) = EachForm R F p × EachForm R F q
  EachForm R F (equivalence p q) = EachForm R F p × EachForm R F q
  EachForm R F (for_all k p) = EachForm R F p
  EachForm R F (for_some k p) = EachForm R F p

  pub EachForms : (ℕ → ℕ → Type 0) → (ℕ → ℕ → Type 0) → FormTrees → Type 0
  EachForms R F no_forms = Unit {0}
  EachForms R F (form_then p ps) = EachForm R F p × EachForms R F ps

  pub EachTerm : (ℕ → ℕ → Type 0) → (ℕ → ℕ → Type 0) → TermTree → Type 0
  EachTerm R F (bound i) = Unit {0}
  EachTerm R F (app f args) = F f (size_of args) × EachTerms R F args
  EachTerm R F (ite p a b) = EachForm R F p × EachTerm R F a × EachTerm R F b

  pub EachTerms : (ℕ → ℕ → Type 0) → (ℕ → ℕ → Type 0) → TermTrees → Type 0
  EachTerms R F no_terms = Unit {0}
  EachTerms R F (term_then t ts) = EachTerm R F t × EachTerms R F ts
