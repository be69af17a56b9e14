-- What rules change fits where it did, and so what is shifted, put in and replaced.
use Rattle.std.proofs.Common.{◌≡◌, ℕ, zero, suc, ◌+◌, ◌-◌, ◌<◌, Bool, true, false, ◌==◌, cond, List, [], ◌∷◌, ◌++◌}
use Rattle.std.proofs.Common.{length, get_or, refl, sym, ap, ◌∙◌, subst, ⊎_elim, arith, length-append}
use Rattle.std.specs.Prelude.{reverse}
use mathlib.Core.List.{reverse_aux}
use Rattle.std.proofs.lemmas.Bool.{cases_lt, eqb-true}
use Rattle.std.proofs.lemmas.List.{get_or_append_left, get_or-append_right, get_or-append-add}
use Rattle.fol_sig.specs.Symbols.{Symbols}
use Rattle.fol_formula.specs.Syntax.{FormTree, FormTrees, TermTree, TermTrees, top, bottom, rel, equal, negation}
use Rattle.fol_formula.specs.Syntax.{conjunction, disjunction, implication, equivalence, for_all, for_some, no_forms}
use Rattle.fol_formula.specs.Syntax.{form_then, bound, app, ite, no_terms, term_then, list_of}
use Rattle.fol_formula.specs.Fits.{FitsForm, FitsForms, FitsTerm, FitsTerms}
use Rattle.fol_subst.specs.Rules.{Rules, form_by, forms_by, term_by, terms_by}
use Rattle.fol_subst.specs.Shift.{raised, shifting, shift_form}
use Rattle.fol_subst.specs.Replace.{picked, putting, put_form, put_term, Change, change_rel, change_fun, change_const}
use Rattle.fol_subst.specs.Replace.{rel_instance, app_instance, changing, changed_form, CanChange}
use Rattle.fol_subst.proofs.Truth.{raised-below, raised-above, get_or-raised, argument, picked-below, picked-above}

module _ (sig : Symbols) where
  -- Under `sorts` the rules make what fits of what fits under `was`.
  pub record KeepsFitting (rules : Rules) (sorts was : List ℕ) : Type 0 where
    pub index : (i k : ℕ) (front : List ℕ) → i < length (front ++ was) → get_or (front ++ was) i 0 ≡ k
        → FitsTerm sig (front ++ sorts) (rules.index (length front) i) k
    pub relation : (q : ℕ) (args : TermTrees) (front : List ℕ) → FitsForm sig (front ++ sorts) (rel q args)
        → FitsForm sig (front ++ sorts) (rules.relation q args)
    pub function : (f k : ℕ) (args : TermTrees) (front : List ℕ) → FitsTerm sig (front ++ sorts) (app f args) k
        → FitsTerm sig (front ++ sorts) (rules.function (length front) f args) k

  module _ (rules : Rules) (sorts was : List ℕ) (keeps : KeepsFitting rules sorts was) where
    mutual
      pub fits-by : (p : FormTree) (front : List ℕ) → FitsForm sig (front ++ was) p
          → FitsForm sig (front ++ sorts) (form_by rules (length front) p)
      fits-by top front h = tt
      fits-by bottom front h = tt
      fits-by (rel q args) front h =
          keeps.relation q (terms_by rules (length front) args) front
          (h.0, h.1, fits_terms-by args front (sig.sorts_of q) h.2)
      fits-by (equal a b) front h = (h.0, fits_term-by a front h.0 h.1, fits_term-by b front h.0 h.2)
      fits-by (negation p) front h = fits-by p front h
      fits-by (conjunction ps) front h = fits_forms-by ps front h
      fits-by (disjunction ps) front h = fits_forms-by ps front h
      fits-by (implication p q) front h = (fits-by p front h.0, fits-by q front h.1)
      fits-by (equivalence p q) front h = (fits-by p front h.0, fits-by q front h.1)
      fits-by (for_all k p) front h = (h.0, fits-by p (k ∷ front) h.1)
      fits-by (for_some k p) front h = (h.0, fits-by p (k ∷ front) h.1)

      fits_forms-by : (ps : FormTrees) (front : List ℕ) → FitsForms sig (front ++ was) ps
          → FitsForms sig (front ++ sorts) (forms_by rules (length front) ps)
      fits_forms-by no_forms front h = tt
      fits_forms-by (form_then p ps) front h = (fits-by p front h.0, fits_forms-by ps front h.1)

      pub fits_term-by : (t : TermTree) (front : List ℕ) (k : ℕ) → FitsTerm sig (front ++ was) t k
          → FitsTerm sig (front ++ sorts) (term_by rules (length front) t) k
      fits_term-by (bound i) front k h = keeps.index i k front h.0 h.1
      fits_term-by (app f args) front k h =
          keeps.function f k (terms_by rules (length front) args) front
          (h.0, h.1, h.2, fits_terms-by args front (sig.from_of f) h.3)
      fits_term-by (ite p a b) front k h = (fits-by p front h.0, fits_term-by a front k h.1, fits_term-by b front k h.2)

      fits_terms-by : (ts : TermTrees) (front ks : List ℕ) → FitsTerms sig (front ++ was) ts ks
          → FitsTerms sig (front ++ sorts) (terms_by rules (length front) ts) ks
      fits_terms-by no_terms front [] h = tt
      fits_terms-by no_terms front (k ∷ ks) h = absurd h
      fits_terms-by (term_then t ts) front [] h = absurd h
      fits_terms-by (term_then t ts) front (k ∷ ks) h = (fits_term-by t front k h.0, fits_terms-by ts front ks h.1)

  -- sorts are put into the list
  raised-within : (mid back front : List ℕ) (i : ℕ) → i < length (front ++ back)
      → raised (length front) (length mid) i < length (front ++ (mid ++ back))
  raised-within mid back front i lt =
      ⊎_elim
      (λ below. let e = raised-below (length front) (length mid) i below in
      omega (arith, e, length-append front (mid ++ back)))
      (λ above. let e = raised-above (length front) (length mid) i above in
      omega (arith, e, length-append front (mid ++ back), length-append mid back, length-append front back))
      (cases_lt i (length front))

  shift_keeps : (mid back : List ℕ) → KeepsFitting (shifting (length mid)) (mid ++ back) back
  shift_keeps mid back = record {
    index = λ i k front lt is. (raised-within mid back front i lt, get_or-raised front mid back i ∙ is);
    relation = λ q args front h. h;
    function = λ f k args front h. h;
  }

  -- terms of these sorts
  abbrev pub FitsList : List ℕ → List TermTree → List ℕ → Type 0
  FitsList sorts [] [] = Unit {0}
  FitsList sorts [] (k ∷ ks) = ⊥
  FitsList sorts (t ∷ ts) [] = ⊥
  FitsList sorts (t ∷ ts) (k ∷ ks) = FitsTerm sig sorts t k × FitsList sorts ts ks

  list-fits : (sorts : List ℕ) (ts : TermTrees) (ks : List ℕ) → FitsTerms sig sorts ts ks
      → FitsList sorts (list_of ts) ks
  list-fits sorts no_terms [] h = tt
  list-fits sorts no_terms (k ∷ ks) h = absurd h
  list-fits sorts (term_then t ts) [] h = absurd h
  list-fits sorts (term_then t ts) (k ∷ ks) h = (h.0, list-fits sorts ts ks h.1)

  reversed-fits : (sorts : List ℕ) (ts us : List TermTree) (ks ls : List ℕ) → FitsList sorts ts ks
      → FitsList sorts us ls → FitsList sorts (reverse_aux ts us) (reverse_aux ks ls)
  reversed-fits sorts [] us [] ls h g = g
  reversed-fits sorts [] us (k ∷ ks) ls h g = absurd h
  reversed-fits sorts (t ∷ ts) us [] ls h g = absurd h
  reversed-fits sorts (t ∷ ts) us (k ∷ ks) ls h g = reversed-fits sorts ts (t ∷ us) ks (k ∷ ls) h.1 (h.0, g)

  at-fits : (sorts : List ℕ) (ts : List TermTree) (ks : List ℕ) (i : ℕ) (other : TermTree) → FitsList sorts ts ks
      → i < length ks → FitsTerm sig sorts (get_or ts i other) (get_or ks i 0)
  at-fits sorts [] [] i other h lt = absurd (omega arith)
  at-fits sorts [] (k ∷ ks) i other h lt = absurd h
  at-fits sorts (t ∷ ts) [] i other h lt = absurd h
  at-fits sorts (t ∷ ts) (k ∷ ks) zero other h lt = h.0
  at-fits sorts (t ∷ ts) (k ∷ ks) (suc i) other h lt = at-fits sorts ts ks i other h.1 (omega arith)

  -- arguments of the sorts of the parameters
  put_keeps : (sorts params : List ℕ) (args : List TermTree) → FitsList sorts args params
      → KeepsFitting (putting args) sorts params
  put_keeps sorts params args fit = record {
    index = λ i k front lt is. picked_fits i k front lt is;
    relation = λ q ts front h. h;
    function = λ f k ts front h. h;
  }
    where
      picked_fits : (i k : ℕ) (front : List ℕ) → i < length (front ++ params) → get_or (front ++ params) i 0 ≡ k
          → FitsTerm sig (front ++ sorts) (picked (length front) args i) k
      picked_fits i k front lt is =
          ⊎_elim
          (λ below.
          subst (λ t. FitsTerm sig (front ++ sorts) t k) (sym (picked-below (length front) args i below)) (
            omega (arith, length-append front sorts),
            get_or_append_left front sorts 0 i below
                ∙ sym (get_or_append_left front params 0 i below) ∙ is,
          ))
          (λ above.
          let j = i - length front in
          let inside : j < length params = omega (arith, length-append front params) in
          let sort : get_or params j 0 ≡ k =
          sym (get_or-append_right front params (length front) i 0 refl above) ∙ is in
          subst (λ t. FitsTerm sig (front ++ sorts) t k) (sym (picked-above (length front) args i above))
          (fits_term-by (shifting (length front)) (front ++ sorts) sorts (shift_keeps front sorts) (argument args j) []
          k
          (subst (λ m. FitsTerm sig sorts (argument args j) m) sort
          (at-fits sorts args params j (bound (j - length args)) fit inside))))
          (cases_lt i (length front))

  module _ (sorts : List ℕ) (args : TermTrees) (ks : List ℕ) (fit : FitsTerms sig sorts args ks) where
    args_keep : KeepsFitting (putting (reverse (list_of args))) sorts (reverse ks)
    args_keep =
        put_keeps sorts (reverse ks) (reverse (list_of args))
        (reversed-fits sorts (list_of args) [] ks [] (list-fits sorts args ks fit) tt)

    pub form-instance : (by : FormTree) → FitsForm sig (reverse ks) by
        → FitsForm sig sorts (put_form 0 (reverse (list_of args)) by)
    form-instance by h = fits-by (putting (reverse (list_of args))) sorts (reverse ks) args_keep by [] h

    pub term-instance : (by : TermTree) (k : ℕ) → FitsTerm sig (reverse ks) by k
        → FitsTerm sig sorts (put_term 0 (reverse (list_of args)) by) k
    term-instance by k h = fits_term-by (putting (reverse (list_of args))) sorts (reverse ks) args_keep by [] k h

  module _ (sorts : List ℕ) where
    rel-fits : (c : Change) (q : ℕ) (args : TermTrees) (front : List ℕ) → CanChange sig sorts c
        → FitsForm sig (front ++ sorts) (rel q args) → FitsForm sig (front ++ sorts) (rel_instance c q args)
    rel-fits (change_rel r by) q args front can h = which (q == r) refl
      where
        which : (b : Bool) → (q == r) ≡ b
            → FitsForm sig (front ++ sorts) (cond b (put_form 0 (reverse (list_of args)) by) (rel q args))
        which true e =
            form-instance (front ++ sorts) args (sig.sorts_of q) h.2 by
            (subst (λ m. FitsForm sig (reverse (sig.sorts_of m)) by) (sym (eqb-true q r e)) can.1)
        which false e = h
    rel-fits (change_fun g by) q args front can h = h
    rel-fits (change_const g index) q args front can h = h

    app-fits : (c : Change) (f k : ℕ) (args : TermTrees) (front : List ℕ) → CanChange sig sorts c
        → FitsTerm sig (front ++ sorts) (app f args) k
        → FitsTerm sig (front ++ sorts) (app_instance c (length front) f args) k
    app-fits (change_rel r by) f k args front can h = h
    app-fits (change_fun g by) f k args front can h = which (f == g) refl
      where
        which : (b : Bool) → (f == g) ≡ b
            → FitsTerm sig (front ++ sorts) (cond b (put_term 0 (reverse (list_of args)) by) (app f args)) k
        which true e =
            term-instance (front ++ sorts) args (sig.from_of f) h.3 by k
            (subst (λ m. FitsTerm sig (reverse (sig.from_of f)) by m) h.1
            (subst (λ m. FitsTerm sig (reverse (sig.from_of m)) by (sig.into_of m)) (sym (eqb-true f g e)) can.1))
        which false e = h
    app-fits (change_const g index) f k args front can h = which (f == g) refl
      where
        which : (b : Bool) → (f == g) ≡ b
            → FitsTerm sig (front ++ sorts) (cond b (bound (length front + index)) (app f args)) k
        which true e = (
          omega (arith, length-append front sorts, can.2),
          get_or-append-add front sorts index 0 ∙ can.3
              ∙ ap sig.into_of (sym (eqb-true f g e)) ∙ h.1,
        )
        which false e = h

    change_keeps : (c : Change) → CanChange sig sorts c → KeepsFitting (changing c) sorts sorts
    change_keeps c can = record {
      index = λ i k front lt is. (lt, is);
      relation = λ q args front h. rel-fits c q args front can h;
      function = λ f k args front h. app-fits c f k args front can h;
    }

    pub changed-fits : (c : Change) → CanChange sig sorts c → (p : FormTree) → FitsForm sig sorts p
        → FitsForm sig sorts (changed_form c 0 p)
    changed-fits c can p h = fits-by (changing c) sorts sorts (change_keeps c can) p [] h

pub shifted-fits : (sig : Symbols) (p : FormTree) (front mid back : List ℕ) (from by : ℕ) → length front ≡ from
    → length mid ≡ by → FitsForm sig (front ++ back) p → FitsForm sig (front ++ (mid ++ back)) (shift_form from by p)
shifted-fits sig p front mid back from by l m h =
    subst (λ n. FitsForm sig (front ++ (mid ++ back)) (shift_form n by p)) l
    (subst (λ n. FitsForm sig (front ++ (mid ++ back)) (shift_form (length front) n p)) m
    (fits-by sig (shifting (length mid)) (mid ++ back) back (shift_keeps sig mid back) p front h))
