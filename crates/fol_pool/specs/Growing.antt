-- Laws: what stands at a node stays there as the pool grows.
use Rattle.std.specs.Prelude.{◌≡◌, ℕ, ◌<◌, List, ◌++◌, length}
use Rattle.std.proofs.Common.{sym, ap, subst, ◌∙◌, arith, append_assoc}
use Rattle.std.proofs.lemmas.List.{get_or_append_left, length-append}
use Rattle.fol_formula.specs.Syntax.{FormTree, FormTrees, TermTree, TermTrees, top}
use Rattle.fol_pool.specs.Trees.{Tree, IsAt, Grows, a_form, some_forms, a_term, some_terms, tree_at, as_formula}
use Rattle.fol_pool.specs.Trees.{as_formulas, as_term, as_terms, HasForm, HasForms, HasTerm, HasTerms}

module _ (old new : List Tree) (grows : Grows old new) where
  -- a node is one of more nodes
  pub stays_below : (n : ℕ) → n < length old → n < length new
  stays_below n lt =
      subst (λ (l : List Tree). n < length l) (sym grows.1) (omega (arith, lt, length-append old grows.0))

  -- and its tree is the same
  pub tree_stays : (n : ℕ) → n < length old → tree_at new n ≡ tree_at old n
  tree_stays n lt =
      ap (λ (l : List Tree). tree_at l n) grows.1 ∙ get_or_append_left old grows.0 (a_form top) n lt

  pub stays_at : (n : ℕ) (t : Tree) → IsAt old n t → IsAt new n t
  stays_at n t h = (stays_below n h.0, tree_stays n h.0 ∙ h.1)

  -- so is what is read of it
  pub read_stays : {A : Type 0} (read : Tree → A) (n : ℕ) → n < length old → read (tree_at new n) ≡ read (tree_at old n)
  read_stays read n lt = ap read (tree_stays n lt)

  pub has_form : (n : ℕ) → HasForm old n → HasForm new n
  has_form n h =
      (stays_below n h.0, subst (λ (t : Tree). t ≡ a_form (as_formula t)) (sym (tree_stays n h.0)) h.1)

  pub has_forms : (n : ℕ) → HasForms old n → HasForms new n
  has_forms n h =
      (stays_below n h.0, subst (λ (t : Tree). t ≡ some_forms (as_formulas t)) (sym (tree_stays n h.0)) h.1)

  pub has_term : (n : ℕ) → HasTerm old n → HasTerm new n
  has_term n h =
      (stays_below n h.0, subst (λ (t : Tree). t ≡ a_term (as_term t)) (sym (tree_stays n h.0)) h.1)

  pub has_terms : (n : ℕ) → HasTerms old n → HasTerms new n
  has_terms n h =
      (stays_below n h.0, subst (λ (t : Tree). t ≡ some_terms (as_terms t)) (sym (tree_stays n h.0)) h.1)

pub grows_on : (a b c : List Tree) → Grows a b → Grows b c → Grows a c
grows_on a b c g h =
    (g.0 ++ h.0, h.1 ∙ ap (λ (l : List Tree). l ++ h.0) g.1 ∙ append_assoc a g.0 h.0)

-- ---- what stands at a node is of its kind

module _ (ts : List Tree) (n : ℕ) where
  pub is_form : (p : FormTree) → IsAt ts n (a_form p) → HasForm ts n
  is_form p h = (h.0, h.1 ∙ ap (λ (t : Tree). a_form (as_formula t)) (sym h.1))

  pub is_forms : (ps : FormTrees) → IsAt ts n (some_forms ps) → HasForms ts n
  is_forms ps h = (h.0, h.1 ∙ ap (λ (t : Tree). some_forms (as_formulas t)) (sym h.1))

  pub is_term : (u : TermTree) → IsAt ts n (a_term u) → HasTerm ts n
  is_term u h = (h.0, h.1 ∙ ap (λ (t : Tree). a_term (as_term t)) (sym h.1))

  pub is_terms : (us : TermTrees) → IsAt ts n (some_terms us) → HasTerms ts n
  is_terms us h = (h.0, h.1 ∙ ap (λ (t : Tree). some_terms (as_terms t)) (sym h.1))
