-- What stands at a node as a pool grows, by the tree that stands there.
use Rattle.std.proofs.Common.{◌≡◌, ℕ, ◌+◌, ◌<◌, List, [], ◌∷◌, ◌++◌, length, get_or, take, map, sym, ap, ◌∙◌}
use Rattle.std.proofs.lemmas.List.{take_more}
use Rattle.fol_formula.specs.Syntax.{FormTree, FormTrees, TermTree, TermTrees, equal, form_then, term_then, ite}
use Rattle.fol_formula.specs.Syntax.{forms_then, terms_then}
use Rattle.fol_formula.specs.View.{form, term}
use Rattle.fol_formula.specs.Lists.{FormLists, TermLists}
use Rattle.fol_formula.specs.declared.Formula.{Formula}
use Rattle.fol_formula.specs.declared.Term.{Term}
use Rattle.fol_pool.specs.Trees.{Tree, IsAt, Grows, a_form, some_forms, a_term, some_terms, as_formula, as_formulas}
use Rattle.fol_pool.specs.Trees.{as_term, as_terms, HasForms, HasTerms, form_at, forms_at, term_at, terms_at}
use Rattle.fol_pool.specs.declared.shape.Node.{Node}
use Rattle.fol_pool.specs.Growing.{stays_at, grows_on, is_forms, is_terms}

-- two parts that were taken in one after the other
module _ (one two : List Tree) (a b : ℕ) (grows : Grows one two) where
  pub two_forms : (F : FormTree → FormTree → FormTree) (p q whole : FormTree) → IsAt one a (a_form p)
      → IsAt two b (a_form q) → whole ≡ F p q → F (form_at two a) (form_at two b) ≡ whole
  two_forms F p q whole first second is =
      let there = stays_at one two grows a (a_form p) first in
      (λ i. F (as_formula (there.1 i)) (as_formula (second.1 i))) ∙ sym is

  pub two_terms : (t u : TermTree) (whole : FormTree) → IsAt one a (a_term t) → IsAt two b (a_term u)
      → whole ≡ equal t u → equal (term_at two a) (term_at two b) ≡ whole
  two_terms t u whole first second is =
      let there = stays_at one two grows a (a_term t) first in
      (λ i. equal (as_term (there.1 i)) (as_term (second.1 i))) ∙ sym is

-- the parts of a choice that were taken in one after the other
pub choice : (one two three : List Tree) (a b c : ℕ) (p : FormTree) (t u whole : TermTree) → Grows one two
    → Grows two three → IsAt one a (a_form p) → IsAt two b (a_term t) → IsAt three c (a_term u) → whole ≡ ite p t u
    → ite (form_at three a) (term_at three b) (term_at three c) ≡ whole
choice one two three a b c p t u whole g h first second third is =
    let there = stays_at one three (grows_on one two three g h) a (a_form p) first in
    let here = stays_at two three h b (a_term t) second in
    (λ i. ite (as_formula (there.1 i)) (as_term (here.1 i)) (as_term (third.1 i))) ∙ sym is

-- a row with one more part in front of it
module _ (start old taken new : List Tree) (row first next : Node) (before : Grows start old)
    (grows : Grows old taken) (more : Grows taken new) where
  pub row_grows : Grows start new
  row_grows = grows_on start taken new (grows_on start old taken before grows) more

  module _ (lists : FormLists) (ps : List Formula) (n k : ℕ) (p : Formula) (rest : HasForms old row.0)
      (lt : k < length ps) (is : p ≡ get_or ps k p) (count : n ≡ k + 1)
      (made : IsAt new next.0 (some_forms (form_then (form_at taken first.0) (forms_at taken row.0)))) where
    pub forms_row : HasForms new next.0
    forms_row = is_forms new next.0 (form_then (form_at taken first.0) (forms_at taken row.0)) made

    pub forms_whole : (whole : FormTrees) → IsAt taken first.0 (a_form (form p))
        → forms_then (map form (take n ps)) (forms_at old row.0) ≡ whole
        → forms_then (map form (take k ps)) (forms_at new next.0) ≡ whole
    forms_whole whole part so =
        let r = forms_at old row.0 in
        let there = stays_at old taken grows row.0 (some_forms r) rest in
        let front : take n ps ≡ take k ps ++ p ∷ [] =
        ap (λ (m : ℕ). take m ps) count ∙ take_more ps k p lt
        ∙ ap (λ (q : Formula). take k ps ++ q ∷ []) (sym is) in
        let head : forms_at new next.0 ≡ form_then (form p) r =
        ap as_formulas made.1 ∙ (λ i. form_then (as_formula (part.1 i)) (as_formulas (there.1 i))) in
        ap (forms_then (map form (take k ps))) head ∙ sym (lists.pushed (take k ps) p r)
        ∙ ap (λ (l : List Formula). forms_then (map form l) r) (sym front) ∙ so

  module _ (lists : TermLists) (us : List Term) (n k : ℕ) (u : Term) (rest : HasTerms old row.0)
      (lt : k < length us) (is : u ≡ get_or us k u) (count : n ≡ k + 1)
      (made : IsAt new next.0 (some_terms (term_then (term_at taken first.0) (terms_at taken row.0)))) where
    pub terms_row : HasTerms new next.0
    terms_row = is_terms new next.0 (term_then (term_at taken first.0) (terms_at taken row.0)) made

    pub terms_whole : (whole : TermTrees) → IsAt taken first.0 (a_term (term u))
        → terms_then (map term (take n us)) (terms_at old row.0) ≡ whole
        → terms_then (map term (take k us)) (terms_at new next.0) ≡ whole
    terms_whole whole part so =
        let r = terms_at old row.0 in
        let there = stays_at old taken grows row.0 (some_terms r) rest in
        let front : take n us ≡ take k us ++ u ∷ [] =
        ap (λ (m : ℕ). take m us) count ∙ take_more us k u lt
        ∙ ap (λ (v : Term). take k us ++ v ∷ []) (sym is) in
        let head : terms_at new next.0 ≡ term_then (term u) r =
        ap as_terms made.1 ∙ (λ i. term_then (as_term (part.1 i)) (as_terms (there.1 i))) in
        ap (terms_then (map term (take k us))) head ∙ sym (lists.pushed (take k us) u r)
        ∙ ap (λ (l : List Term). terms_then (map term l) r) (sym front) ∙ so
