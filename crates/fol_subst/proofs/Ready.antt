-- What fits a signature has as many arguments as it takes.
use Rattle.std.proofs.Common.{◌≡◌, ℕ, suc, ◌≤◌, List, [], ◌∷◌, length, ap, ◌∙◌, refl, sym, subst}
use Rattle.std.specs.Prelude.{reverse}
use Rattle.std.proofs.lemmas.List.{length-reverse}
use Rattle.fol_sig.specs.Symbols.{Symbols}
use Rattle.fol_formula.specs.Syntax.{FormTree, FormTrees, TermTree, TermTrees, top, bottom, rel, equal, negation}
use Rattle.fol_formula.specs.Syntax.{conjunction, disjunction, implication, equivalence, for_all, for_some, no_forms}
use Rattle.fol_formula.specs.Syntax.{form_then, bound, app, ite, no_terms, term_then, size_of}
use Rattle.fol_formula.specs.Fits.{FitsForm, FitsForms, FitsTerm, FitsTerms, BoundForm, BoundTerm}
use Rattle.fol_formula.specs.Closed.{FitsIsBound, FitsIsBoundTerm}
use Rattle.fol_subst.specs.Replace.{Change, change_rel, change_fun, change_const, CanChange}
use Rattle.fol_subst.specs.Rules.{EachForm, EachForms, EachTerm, EachTerms}
use Rattle.fol_subst.specs.Room.{RelTakes, AppTakes, RelReady, AppReady, ReadyForm}
use Rattle.fol_subst.specs.Outcome.{CanReplace}

pub fits_count : (sig : Symbols) (ts : TermTrees) (sorts ks : List ℕ) → FitsTerms sig sorts ts ks
    → size_of ts ≡ length ks
fits_count sig no_terms sorts [] h = refl
fits_count sig no_terms sorts (k ∷ ks) h = absurd h
fits_count sig (term_then t ts) sorts [] h = absurd h
fits_count sig (term_then t ts) sorts (k ∷ ks) h = ap suc (fits_count sig ts sorts ks h.1)

-- Each relation and each function stands before a number of arguments that is allowed, where it is allowed as many
-- as the signature gives it.
module _ (sig : Symbols) (R F : ℕ → ℕ → Type 0) (relation : (q n : ℕ) → n ≤ 8 → n ≡ length (sig.sorts_of q) → R q n)
    (function : (f n : ℕ) → n ≤ 8 → n ≡ length (sig.from_of f) → F f n) where
  mutual
    pub each_form : (p : FormTree) (sorts : List ℕ) → FitsForm sig sorts p → EachForm R F p
    each_form top sorts h = tt
    each_form bottom sorts h = tt
    each_form (rel q args) sorts h =
        let count = fits_count sig args sorts (sig.sorts_of q) h.2 in (
          relation q (size_of args) (subst (λ n. n ≤ 8) (sym count) h.1) count,
          each_terms args sorts (sig.sorts_of q) h.2,
        )
    each_form (equal a b) sorts h = (each_term a sorts h.0 h.1, each_term b sorts h.0 h.2)
    each_form (negation p) sorts h = each_form p sorts h
    each_form (conjunction ps) sorts h = each_forms ps sorts h
    each_form (disjunction ps) sorts h = each_forms ps sorts h
    each_form (implication p q) sorts h = (each_form p sorts h.0, each_form q sorts h.1)
    each_form (equivalence p q) sorts h = (each_form p sorts h.0, each_form q sorts h.1)
    each_form (for_all k p) sorts h = each_form p (k ∷ sorts) h.1
    each_form (for_some k p) sorts h = each_form p (k ∷ sorts) h.1

    each_forms : (ps : FormTrees) (sorts : List ℕ) → FitsForms sig sorts ps → EachForms R F ps
    each_forms no_forms sorts h = tt
    each_forms (form_then p ps) sorts h = (each_form p sorts h.0, each_forms ps sorts h.1)

    each_term : (t : TermTree) (sorts : List ℕ) (k : ℕ) → FitsTerm sig sorts t k → EachTerm R F t
    each_term (bound i) sorts k h = tt
    each_term (app f args) sorts k h =
        let count = fits_count sig args sorts (sig.from_of f) h.3 in (
          function f (size_of args) (subst (λ n. n ≤ 8) (sym count) h.2) count,
          each_terms args sorts (sig.from_of f) h.3,
        )
    each_term (ite p a b) sorts k h = (each_form p sorts h.0, each_term a sorts k h.1, each_term b sorts k h.2)

    each_terms : (ts : TermTrees) (sorts ks : List ℕ) → FitsTerms sig sorts ts ks → EachTerms R F ts
    each_terms no_terms sorts ks h = tt
    each_terms (term_then t ts) sorts [] h = absurd h
    each_terms (term_then t ts) sorts (k ∷ ks) h = (each_term t sorts k h.0, each_terms ts sorts ks h.1)

module _ (bound_form : FitsIsBound) (bound_term : FitsIsBoundTerm) (sig : Symbols) (sorts' : List ℕ) where
  rel_ready : (c : Change) (q n : ℕ) → CanChange sig sorts' c → n ≡ length (sig.sorts_of q) → RelTakes c q n
  rel_ready (change_rel r by) q n h e = λ same.
      subst (λ m. BoundForm m by) (length-reverse (sig.sorts_of r) ∙ ap (λ m. length (sig.sorts_of m)) (sym same)
      ∙ sym e) (bound_form sig (reverse (sig.sorts_of r)) by h.1)
  rel_ready (change_fun g by) q n h e = tt
  rel_ready (change_const g index) q n h e = tt

  app_ready : (c : Change) (f n : ℕ) → CanChange sig sorts' c → n ≡ length (sig.from_of f) → AppTakes c f n
  app_ready (change_rel r by) f n h e = tt
  app_ready (change_fun g by) f n h e = λ same.
      subst (λ m. BoundTerm m by) (length-reverse (sig.from_of g) ∙ ap (λ m. length (sig.from_of m)) (sym same)
      ∙ sym e) (bound_term sig (reverse (sig.from_of g)) by (sig.into_of g) h.1)
  app_ready (change_const g index) f n h e = λ same. e ∙ ap (λ m. length (sig.from_of m)) same ∙ ap length h.1

  pub fits_ready : (c : Change) → CanChange sig sorts' c → (p : FormTree) (sorts : List ℕ) → FitsForm sig sorts p
      → ReadyForm c p
  fits_ready c can =
      each_form sig (RelReady c) (AppReady c) (λ q n few e. (few, rel_ready c q n can e))
      (λ f n few e. (few, app_ready c f n can e))

pub can_ready : FitsIsBound → FitsIsBoundTerm → (within : FormTree) (c : Change) → CanReplace within c
    → ReadyForm c within
can_ready bound_form bound_term within c h =
    fits_ready bound_form bound_term h.sig h.sorts c h.change_fits within h.sorts h.within_fits
