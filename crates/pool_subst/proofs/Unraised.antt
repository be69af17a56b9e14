-- What is raised by nothing stays as it is.
use Rattle.std.proofs.Common.{◌≡◌, ℕ, ◌+◌, Bool, true, false, cond, nat_lt, List, suc, refl, sym, ap, ◌∙◌, add-zero}
use Rattle.fol_formula.specs.Syntax.{FormTree, FormTrees, TermTree, TermTrees, top, bottom, rel, equal, negation}
use Rattle.fol_formula.specs.Syntax.{conjunction, disjunction, implication, equivalence, for_all, for_some, no_forms}
use Rattle.fol_formula.specs.Syntax.{form_then, bound, app, ite, no_terms, term_then}
use Rattle.fol_subst.specs.Shift.{shift_form, shift_forms, shift_term, shift_terms}
use Rattle.fol_pool.specs.Trees.{Tree, IsAt, HasTerm, a_term, term_at}

index : (b : Bool) (i : ℕ) → cond b i (i + 0) ≡ i
index true i = refl
index false i = add-zero i

mutual
  form : (p : FormTree) (d : ℕ) → shift_form d 0 p ≡ p
  form top d = refl
  form bottom d = refl
  form (rel q args) d = ap (rel q) (terms args d)
  form (equal a b) d = λ i. equal (term a d i) (term b d i)
  form (negation p) d = ap negation (form p d)
  form (conjunction ps) d = ap conjunction (forms ps d)
  form (disjunction ps) d = ap disjunction (forms ps d)
  form (implication p q) d = λ i. implication (form p d i) (form q d i)
  form (equivalence p q) d = λ i. equivalence (form p d i) (form q d i)
  form (for_all k p) d = ap (for_all k) (form p (suc d))
  form (for_some k p) d = ap (for_some k) (form p (suc d))

  forms : (ps : FormTrees) (d : ℕ) → shift_forms d 0 ps ≡ ps
  forms no_forms d = refl
  forms (form_then p ps) d = λ i. form_then (form p d i) (forms ps d i)

  term : (t : TermTree) (d : ℕ) → shift_term d 0 t ≡ t
  term (bound n) d = ap bound (index (nat_lt n d) n)
  term (app f args) d = ap (app f) (terms args d)
  term (ite p a b) d = λ i. ite (form p d i) (term a d i) (term b d i)

  terms : (ts : TermTrees) (d : ℕ) → shift_terms d 0 ts ≡ ts
  terms no_terms d = refl
  terms (term_then t ts) d = λ i. term_then (term t d i) (terms ts d i)

-- a node of such a term
pub unraised : (ts : List Tree) (n by : ℕ) → by ≡ 0 → HasTerm ts n
    → IsAt ts n (a_term (shift_term 0 by (term_at ts n)))
unraised ts n by none has =
    let t = term_at ts n in
    (has.0, has.1 ∙ ap a_term (sym (term t 0)) ∙ ap (λ k. a_term (shift_term 0 k t)) (sym none))
