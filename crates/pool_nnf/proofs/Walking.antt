-- What a walk makes of the parts of a node, one after the other, is what is made of the node.
use Rattle.std.proofs.Common.{◌≡◌, ℕ, ◌<◌, Bool, true, false, List, [], ◌∷◌, ◌++◌, map, sym, ap, subst}
use Rattle.std.proofs.Common.{◌∙◌}
use Rattle.std.specs.Prelude.{not, Result, Ok, Err, IfOk}
use Rattle.fol_formula.specs.NormalForms.{both}
use Rattle.fol_formula.specs.Syntax.{FormTree, FormTrees, TermTree, TermTrees, ite, term_then, equal}
use Rattle.fol_formula.specs.Syntax.{forms_then, forms_of, disjunction, equivalence}
use Rattle.fol_nnf.specs.Normal.{Leaf as LeafOf, given, made, joined, normal, normals, leaves, leaves_of_terms}
use Rattle.fol_nnf.specs.Normal.{one_of, equal_literal, two}
use Rattle.fol_pool.specs.Trees.{Tree, IsAt, Grows, a_form, tree_at, as_formula, as_term}
use Rattle.fol_pool.specs.Trees.{as_terms, form_at, forms_at, term_at, terms_at, HasForm, HasForms, HasTerm, HasTerms}
use Rattle.fol_pool.specs.Shapes.{tree_of}
use Rattle.fol_pool.specs.declared.shape.Node.{Node}
use Rattle.fol_pool.specs.declared.shape.Shape.{Shape}
use Rattle.fol_pool.specs.declared.shape.Shape.TheVariants as shape
use Rattle.fol_pool.specs.Growing.{stays_at, read_stays, grows_on}
use Rattle.fol_pool.specs.Rows.{AreForms, formulas, forms_stay, forms_push, then_push, row_front, row_end}
use Rattle.fol_pool.specs.Rows.{lent_formulas}

-- what is so of an answer, and what follows from that
pub if_ok : {A E : Type 0} (r : Result A E) (P Q : A → Type 0) → ((a : A) → P a → Q a) → IfOk r P → IfOk r Q
if_ok (Ok a) P Q follows h = follows a h
if_ok (Err e) P Q follows h = tt

-- the leaves of a choice
module _ (t0 t1 t2 t3 t4 : List Tree) (g1 : Grows t0 t1) (g2 : Grows t1 t2) (g3 : Grows t2 t3) (g4 : Grows t3 t4)
    (p a b yes no : ℕ) (condition : HasForm t0 p) (then : HasTerm t0 a) (otherwise : HasTerm t0 b) where
  pub choice_leaves : (ms ns : List (LeafOf TermTree)) → IsAt t1 yes (a_form (normal true (form_at t0 p)))
      → ms ≡ leaves (term_at t1 a) → IsAt t3 no (a_form (normal false (form_at t2 p))) → ns ≡ leaves (term_at t3 b)
      → map (given (form_at t4 yes)) ms ++ map (given (form_at t4 no)) ns
      ≡ leaves (ite (form_at t0 p) (term_at t0 a) (term_at t0 b))
  choice_leaves ms ns first is second other =
      let g12 = grows_on t0 t1 t2 g1 g2 in
      let g13 = grows_on t0 t2 t3 g12 g3 in
      let g24 = grows_on t2 t3 t4 g3 g4 in
      let g14 = grows_on t1 t2 t4 g2 g24 in
      let yes_is : form_at t4 yes ≡ normal true (form_at t0 p) =
      ap as_formula (stays_at t1 t4 g14 yes (a_form (normal true (form_at t0 p))) first).1 in
      let no_is : form_at t4 no ≡ normal false (form_at t0 p) =
      ap as_formula (stays_at t3 t4 g4 no (a_form (normal false (form_at t2 p))) second).1
      ∙ ap (normal false) (read_stays t0 t2 g12 as_formula p condition.0) in
      let first_is : ms ≡ leaves (term_at t0 a) = is ∙ ap leaves (read_stays t0 t1 g1 as_term a then.0) in
      let second_is : ns ≡ leaves (term_at t0 b) = other ∙ ap leaves (read_stays t0 t3 g13 as_term b otherwise.0) in
      λ i. map (given (yes_is i)) (first_is i) ++ map (given (no_is i)) (second_is i)

-- the leaves of a row, and of an equation
module _ (t0 t1 : List Tree) (grows : Grows t0 t1) where
  pub row_leaves : (t rest : ℕ) → HasTerms t0 rest → (ms : List (LeafOf TermTree)) (ns : List (LeafOf TermTrees))
      → ms ≡ leaves (term_at t0 t) → ns ≡ leaves_of_terms (terms_at t1 rest)
      → joined term_then ms ns ≡ leaves_of_terms (term_then (term_at t0 t) (terms_at t0 rest))
  row_leaves t rest h ms ns first second =
      let behind : ns ≡ leaves_of_terms (terms_at t0 rest) =
      second ∙ ap leaves_of_terms (read_stays t0 t1 grows as_terms rest h.0) in
      λ i. joined term_then (first i) (behind i)

  pub equation_leaves : (positive : Bool) (a b : ℕ) → HasTerm t0 b → (ms ns : List (LeafOf TermTree))
      → ms ≡ leaves (term_at t0 a) → ns ≡ leaves (term_at t1 b)
      → one_of (joined (equal_literal positive) ms ns) ≡ normal positive (equal (term_at t0 a) (term_at t0 b))
  equation_leaves positive a b h ms ns first second =
      let behind : ns ≡ leaves (term_at t0 b) = second ∙ ap leaves (read_stays t0 t1 grows as_term b h.0) in
      λ i. one_of (joined (equal_literal positive) (first i) (behind i))

-- a row, of which the first formulas were made, `rest` is left, and `start` is the pool as the walk began
module _ (start old : List Tree) (grows : Grows start old) (positive : Bool) (parts : List Node) (rest : Node)
    (row : HasForms start rest.0) (whole : FormTrees) (ps : List FormTree) (are : AreForms old parts ps)
    (so : forms_then ps (normals positive (forms_at start rest.0)) ≡ whole) where
  module _ (first after : Node) (is : tree_of old (shape.FormThen first after) ≡ tree_at old rest.0)
      (lt : after.0 < rest.0) (there : HasForms old after.0) where
    pub more_parts : (new : List Tree) (part : Node) (pushed : List Node) → Grows old new
        → IsAt new part.0 (a_form (normal positive (form_at old first.0))) → pushed ≡ parts ++ part ∷ []
        → (qs : List FormTree) × AreForms new pushed qs
        × (forms_then qs (normals positive (forms_at start after.0)) ≡ whole)
    more_parts new part pushed more made e =
        let p = normal positive (form_at old first.0) in
        let stay = forms_stay old new more parts ps are in
        let front = row_front start old grows rest row first after is lt there in (
          ps ++ p ∷ [],
          subst (λ (ns : List Node). AreForms new ns (ps ++ p ∷ [])) (sym e) (forms_push new parts ps part p stay made),
          then_push ps p (normals positive (forms_at start after.0))
              ∙ ap (λ (qs : FormTrees). forms_then ps (normals positive qs)) (sym front) ∙ so,
        )

  -- where none is left
  pub whole_row : (s : Shape) → tree_of old s ≡ tree_at old rest.0 → ((a b : Node) → s ≡ shape.FormThen a b → ⊥)
      → (lent : List Node) → lent ≡ parts → forms_of (formulas old lent) ≡ whole
  whole_row s is none lent e =
      let end = row_end start old grows rest row s is none in
      ap forms_of (lent_formulas old parts lent ps are e)
      ∙ ap (λ (qs : FormTrees). forms_then ps (normals positive qs)) (sym end) ∙ so

-- the two ways in which an equivalence or its negation holds
module _ (t0 t1 t2 t3 t4 : List Tree) (g1 : Grows t0 t1) (g2 : Grows t1 t2) (g3 : Grows t2 t3) (g4 : Grows t3 t4)
    (positive : Bool) (p q : ℕ) (first : HasForm t0 p) (second : HasForm t0 q) where
  pub equivalence_made : (of_p of_q of_not_p of_not_q : ℕ) → IsAt t1 of_p (a_form (normal true (form_at t0 p)))
      → IsAt t2 of_q (a_form (normal positive (form_at t1 q))) → IsAt t3 of_not_p (a_form (normal false (form_at t2 p)))
      → IsAt t4 of_not_q (a_form (normal (not positive) (form_at t3 q)))
      → disjunction (two (both (form_at t4 of_p) (form_at t4 of_q)) (both (form_at t4 of_not_p) (form_at t4 of_not_q)))
      ≡ normal positive (equivalence (form_at t0 p) (form_at t0 q))
  equivalence_made of_p of_q of_not_p of_not_q a b c d =
      let g02 = grows_on t0 t1 t2 g1 g2 in
      let g03 = grows_on t0 t2 t3 g02 g3 in
      let g24 = grows_on t2 t3 t4 g3 g4 in
      let g14 = grows_on t1 t2 t4 g2 g24 in
      let of_p_is : form_at t4 of_p ≡ normal true (form_at t0 p) =
      ap as_formula (stays_at t1 t4 g14 of_p (a_form (normal true (form_at t0 p))) a).1 in
      let of_q_is : form_at t4 of_q ≡ normal positive (form_at t0 q) =
      ap as_formula (stays_at t2 t4 g24 of_q (a_form (normal positive (form_at t1 q))) b).1
      ∙ ap (normal positive) (read_stays t0 t1 g1 as_formula q second.0) in
      let of_not_p_is : form_at t4 of_not_p ≡ normal false (form_at t0 p) =
      ap as_formula (stays_at t3 t4 g4 of_not_p (a_form (normal false (form_at t2 p))) c).1
      ∙ ap (normal false) (read_stays t0 t2 g02 as_formula p first.0) in
      let of_not_q_is : form_at t4 of_not_q ≡ normal (not positive) (form_at t0 q) =
      ap as_formula d.1 ∙ ap (normal (not positive)) (read_stays t0 t3 g03 as_formula q second.0) in
      λ i. disjunction (two (both (of_p_is i) (of_q_is i)) (both (of_not_p_is i) (of_not_q_is i)))
