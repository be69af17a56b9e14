-- What a scope makes of a formula is what its rules make.
use Rattle.std.proofs.Common.{◌≡◌, ℕ, zero, suc, ◌-◌, ◌<◌, ◌≤◌, nat_lt, cond, List, ◌∷◌, inl, inr, refl, sym, ap}
use Rattle.std.proofs.Common.{◌∙◌, arith}
use Rattle.std.proofs.lemmas.Bool.{cases_lt, lt-ltb, le-ltb}
use Rattle.std.specs.Prelude.{slice_index_or}
use Rattle.fol_formula.specs.Syntax.{FormTree, FormTrees, TermTree, TermTrees, top, bottom, rel, equal, negation}
use Rattle.fol_formula.specs.Syntax.{conjunction, disjunction, implication, equivalence, for_all, for_some, no_forms}
use Rattle.fol_formula.specs.Syntax.{form_then, bound, app, ite, no_terms, term_then}
use Rattle.fol_subst.specs.Rules.{form_by, forms_by, term_by, terms_by}
use Rattle.skolem.specs.Constants.{Slot, binder, index_term, named_form, named_forms, named_term, named_terms}
use Rattle.pool_skolem.specs.Naming.{naming}

-- a scope under so many quantifiers that stay
abbrev under : ℕ → List Slot → List Slot
under zero scope = scope
under (suc depth) scope = binder ∷ under depth scope

module _ (scope : List Slot) where
  inside : (depth i : ℕ) → i < depth → slice_index_or (under depth scope) i binder ≡ binder
  inside zero i lt = absurd (omega (arith, lt))
  inside (suc depth) zero lt = refl
  inside (suc depth) (suc i) lt = inside depth i (omega (arith, lt))

  outside : (depth i : ℕ) → depth ≤ i
      → slice_index_or (under depth scope) i binder ≡ slice_index_or scope (i - depth) binder
  outside zero i le = ap (λ (n : ℕ). slice_index_or scope n binder) (omega arith)
  outside (suc depth) zero le = absurd (omega (arith, le))
  outside (suc depth) (suc i) le =
      outside depth i (omega (arith, le)) ∙ ap (λ (n : ℕ). slice_index_or scope n binder) (omega arith)

  slot : (depth i : ℕ) → index_term i (slice_index_or (under depth scope) i binder)
      ≡ cond (nat_lt i depth) (bound i) (index_term i (slice_index_or scope (i - depth) binder))
  slot depth i =
      elim (cases_lt i depth) [
        | inl lt ↦ rw (lt-ltb i depth lt) (ap (index_term i) (inside depth i lt))
        | inr le ↦ rw (le-ltb i depth le) (ap (index_term i) (outside depth i le))
      ]

module _ (scope : List Slot) where
  mutual
    form : (p : FormTree) (d : ℕ) → named_form (under d scope) p ≡ form_by (naming scope) d p
    form top d = refl
    form bottom d = refl
    form (rel r args) d = ap (rel r) (terms args d)
    form (equal a b) d = λ i. equal (term a d i) (term b d i)
    form (negation p) d = ap negation (form p d)
    form (conjunction ps) d = ap conjunction (forms ps d)
    form (disjunction ps) d = ap disjunction (forms ps d)
    form (implication p q) d = λ i. implication (form p d i) (form q d i)
    form (equivalence p q) d = λ i. equivalence (form p d i) (form q d i)
    form (for_all k p) d = ap (for_all k) (form p (suc d))
    form (for_some k p) d = ap (for_some k) (form p (suc d))

    forms : (ps : FormTrees) (d : ℕ) → named_forms (under d scope) ps ≡ forms_by (naming scope) d ps
    forms no_forms d = refl
    forms (form_then p ps) d = λ i. form_then (form p d i) (forms ps d i)

    term : (t : TermTree) (d : ℕ) → named_term (under d scope) t ≡ term_by (naming scope) d t
    term (bound n) d = slot scope d n
    term (app f args) d = ap (app f) (terms args d)
    term (ite p a b) d = λ i. ite (form p d i) (term a d i) (term b d i)

    terms : (ts : TermTrees) (d : ℕ) → named_terms (under d scope) ts ≡ terms_by (naming scope) d ts
    terms no_terms d = refl
    terms (term_then t ts) d = λ i. term_then (term t d i) (terms ts d i)

pub named_by : (scope : List Slot) (p : FormTree) → form_by (naming scope) 0 p ≡ named_form scope p
named_by scope p = sym (form scope p 0)
