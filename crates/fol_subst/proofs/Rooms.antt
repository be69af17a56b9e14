-- The room that the building of a result needs, from its limits, and for each argument that it keeps.
use Rattle.std.proofs.Common.{◌≡◌, ℕ, zero, suc, ◌+◌, ◌-◌, ◌<◌, ◌≤◌, ◌^◌, Bool, true, false, ◌==◌, cond, max, List, []}
use Rattle.std.proofs.Common.{◌∷◌, ◌++◌, length, get_or, drop, map, refl, sym, ap, ◌∙◌, subst, ⊎_elim, ◌⊎◌, arith, inl}
use Rattle.std.proofs.Common.{inr, length-drop}
use Rattle.std.specs.Prelude.{reverse}
use Rattle.std.proofs.lemmas.Bool.{cases_lt, eqb-true, eq-eqb, ne_eqb}
use Rattle.std.proofs.lemmas.List.{reverse-append, length-reverse, length-map, get_or_append_left, get_or-append-add}
use Rattle.std.proofs.lemmas.List.{get_or-map, get_or_default, get_or_past}
use Rattle.fol_formula.specs.Syntax.{FormTree, FormTrees, TermTree, TermTrees, top, bottom, rel, equal, negation}
use Rattle.fol_formula.specs.Syntax.{conjunction, disjunction, implication, equivalence, for_all, for_some, no_forms}
use Rattle.fol_formula.specs.Syntax.{form_then, bound, app, ite, no_terms, term_then, list_of, terms_then, size_of}
use Rattle.fol_formula.specs.View.{term, terms}
use Rattle.fol_formula.specs.declared.Term.{Term}
use Rattle.fol_formula.specs.Fits.{BoundForm, BoundForms, BoundTerm, BoundTerms}
use Rattle.fol_formula.specs.Counts.{form_nodes, form_depth, forms_depth, term_depth, terms_depth}
use Rattle.fol_formula.specs.Lists.{TermLists, RowsAreLists}
use Rattle.fol_subst.specs.Shift.{raised, shift_form, shift_forms, shift_term, shift_terms}
use Rattle.fol_subst.specs.Replace.{picked, put_form, put_forms, put_term, put_terms, Change, change_rel, change_fun}
use Rattle.fol_subst.specs.Replace.{rel_instance, app_instance, changing, changed_form, changed_terms, changed_term}
use Rattle.fol_formula.specs.Indices.{IndicesFit, IndicesFitAll, IndicesFitTerm, IndicesFitTerms}
use Rattle.fol_subst.specs.Limits.{is_too_large}
use Rattle.fol_subst.specs.Room.{RoomForm, RoomForms, RoomTerm, RoomTerms, ReadyTerm, ReadyTerms}
use Rattle.fol_subst.specs.Extents.{places_of, put_in, extent_term, extent_instance}
use Rattle.fol_subst.specs.declared.extent.Extent.{Extent}
use Rattle.fol_subst.specs.Kept.{kept, kept_one}
use Rattle.fol_formula.specs.Closed.{FitsIsBound}
use Rattle.fol_subst.specs.Outcome.{ShortListsSuffice, ShortListsAllowShifts}
use Rattle.fol_subst.proofs.Fitting.{changed-fits}
use Rattle.fol_subst.proofs.Truth.{raised-below, raised-above, argument, picked-below, picked-above, length-list_of}
use Rattle.fol_subst.proofs.Truth.{map-reverse, size_of-by}
use Rattle.fol_subst.proofs.Sizes.{below, reach_form, reach_forms, reach_term, reach_terms, under_suc}
use Rattle.fol_subst.proofs.Counting.{reach_of, places-of, shallow}

-- a result within the limits has room
mutual
  pub room-form : (p : FormTree) (d : ℕ) → IndicesFit p → d + form_depth p < 2 ^ 63 → RoomForm d p
  room-form top d h l = tt
  room-form bottom d h l = tt
  room-form (rel r args) d h l = room-terms args d h (omega arith)
  room-form (equal a b) d h l = (room-term a d h.0 (omega arith), room-term b d h.1 (omega arith))
  room-form (negation p) d h l = room-form p d h (omega arith)
  room-form (conjunction ps) d h l = room-forms ps d h (omega arith)
  room-form (disjunction ps) d h l = room-forms ps d h (omega arith)
  room-form (implication p q) d h l = (room-form p d h.0 (omega arith), room-form q d h.1 (omega arith))
  room-form (equivalence p q) d h l = (room-form p d h.0 (omega arith), room-form q d h.1 (omega arith))
  room-form (for_all k p) d h l = (omega arith, room-form p (suc d) h (omega arith))
  room-form (for_some k p) d h l = (omega arith, room-form p (suc d) h (omega arith))

  room-forms : (ps : FormTrees) (d : ℕ) → IndicesFitAll ps → d + forms_depth ps < 2 ^ 63 → RoomForms d ps
  room-forms no_forms d h l = tt
  room-forms (form_then p ps) d h l = (room-form p d h.0 (omega arith), room-forms ps d h.1 (omega arith))

  room-term : (t : TermTree) (d : ℕ) → IndicesFitTerm t → d + term_depth t < 2 ^ 63 → RoomTerm d t
  room-term (bound i) d h l = h
  room-term (app f args) d h l = room-terms args d h (omega arith)
  room-term (ite p a b) d h l =
      (room-form p d h.0 (omega arith), room-term a d h.1 (omega arith), room-term b d h.2 (omega arith))

  room-terms : (ts : TermTrees) (d : ℕ) → IndicesFitTerms ts → d + terms_depth ts < 2 ^ 63 → RoomTerms d ts
  room-terms no_terms d h l = tt
  room-terms (term_then t ts) d h l = (room-term t d h.0 (omega arith), room-terms ts d h.1 (omega arith))

-- under fewer binders too
mutual
  pub less-form : (p : FormTree) (d e : ℕ) → RoomForm e p → d ≤ e → RoomForm d p
  less-form top d e h l = tt
  less-form bottom d e h l = tt
  less-form (rel r args) d e h l = less-terms args d e h l
  less-form (equal a b) d e h l = (less-term a d e h.0 l, less-term b d e h.1 l)
  less-form (negation p) d e h l = less-form p d e h l
  less-form (conjunction ps) d e h l = less-forms ps d e h l
  less-form (disjunction ps) d e h l = less-forms ps d e h l
  less-form (implication p q) d e h l = (less-form p d e h.0 l, less-form q d e h.1 l)
  less-form (equivalence p q) d e h l = (less-form p d e h.0 l, less-form q d e h.1 l)
  less-form (for_all k p) d e h l = (omega (arith, h.0), less-form p (suc d) (suc e) h.1 (omega arith))
  less-form (for_some k p) d e h l = (omega (arith, h.0), less-form p (suc d) (suc e) h.1 (omega arith))

  less-forms : (ps : FormTrees) (d e : ℕ) → RoomForms e ps → d ≤ e → RoomForms d ps
  less-forms no_forms d e h l = tt
  less-forms (form_then p ps) d e h l = (less-form p d e h.0 l, less-forms ps d e h.1 l)

  pub less-term : (t : TermTree) (d e : ℕ) → RoomTerm e t → d ≤ e → RoomTerm d t
  less-term (bound i) d e h l = h
  less-term (app f args) d e h l = less-terms args d e h l
  less-term (ite p a b) d e h l = (less-form p d e h.0 l, less-term a d e h.1 l, less-term b d e h.2 l)

  less-terms : (ts : TermTrees) (d e : ℕ) → RoomTerms e ts → d ≤ e → RoomTerms d ts
  less-terms no_terms d e h l = tt
  less-terms (term_then t ts) d e h l = (less-term t d e h.0 l, less-terms ts d e h.1 l)

raised-above-all : (from by i : ℕ) → i ≤ raised from by i
raised-above-all from by i =
    ⊎_elim
    (λ (l : i < from). let e = raised-below from by i l in omega (arith, e))
    (λ (l : from ≤ i). let e = raised-above from by i l in omega (arith, e))
    (cases_lt i from)

-- what is shifted has room where the shifted has
mutual
  unshifted-form : (p : FormTree) (from by d : ℕ) → RoomForm d (shift_form from by p) → RoomForm d p
  unshifted-form top from by d h = tt
  unshifted-form bottom from by d h = tt
  unshifted-form (rel r args) from by d h = unshifted-terms args from by d h
  unshifted-form (equal a b) from by d h = (unshifted-term a from by d h.0, unshifted-term b from by d h.1)
  unshifted-form (negation p) from by d h = unshifted-form p from by d h
  unshifted-form (conjunction ps) from by d h = unshifted-forms ps from by d h
  unshifted-form (disjunction ps) from by d h = unshifted-forms ps from by d h
  unshifted-form (implication p q) from by d h = (unshifted-form p from by d h.0, unshifted-form q from by d h.1)
  unshifted-form (equivalence p q) from by d h = (unshifted-form p from by d h.0, unshifted-form q from by d h.1)
  unshifted-form (for_all k p) from by d h = (h.0, unshifted-form p (suc from) by (suc d) h.1)
  unshifted-form (for_some k p) from by d h = (h.0, unshifted-form p (suc from) by (suc d) h.1)

  unshifted-forms : (ps : FormTrees) (from by d : ℕ) → RoomForms d (shift_forms from by ps) → RoomForms d ps
  unshifted-forms no_forms from by d h = tt
  unshifted-forms (form_then p ps) from by d h = (unshifted-form p from by d h.0, unshifted-forms ps from by d h.1)

  unshifted-term : (t : TermTree) (from by d : ℕ) → RoomTerm d (shift_term from by t) → RoomTerm d t
  unshifted-term (bound i) from by d h = let e = raised-above-all from by i in omega (arith, e, h)
  unshifted-term (app f args) from by d h = unshifted-terms args from by d h
  unshifted-term (ite p a b) from by d h =
      (unshifted-form p from by d h.0, unshifted-term a from by d h.1, unshifted-term b from by d h.2)

  unshifted-terms : (ts : TermTrees) (from by d : ℕ) → RoomTerms d (shift_terms from by ts) → RoomTerms d ts
  unshifted-terms no_terms from by d h = tt
  unshifted-terms (term_then t ts) from by d h = (unshifted-term t from by d h.0, unshifted-terms ts from by d h.1)

below-some : (n : ℕ) → 0 < n → 0 < below n
below-some zero h = absurd (omega arith)
below-some (suc n) h = omega arith

some-below : (n : ℕ) → 0 < below n → 0 < n
some-below zero h = absurd (omega arith)
some-below (suc n) h = omega arith

below-left : (a b : ℕ) → 0 < a → 0 < below (max a b)
below-left a b h = below-some (max a b) (omega arith)

below-right : (a b : ℕ) → 0 < b → 0 < below (max a b)
below-right a b h = below-some (max a b) (omega arith)

either_some : (a b : ℕ) → 0 < max a b → (0 < a) ⊎ (0 < b)
either_some a b h = ⊎_elim (λ (l : 0 < a). inl l) (λ (l : a ≤ 0). inr (omega arith)) (cases_lt 0 a)

either_below : (a b : ℕ) → 0 < below (max a b) → (0 < a) ⊎ (0 < b)
either_below a b h = either_some a b (some-below (max a b) h)

index-reach : (i n : ℕ) → 0 < reach_term n (bound i) → i ≡ n
index-reach i n h = which (i == n) refl h
  where
    which : (b : Bool) → (i == n) ≡ b → 0 < cond b 1 0 → i ≡ n
    which true e l = eqb-true i n e
    which false e l = absurd (omega arith)

argument-inside : (xs : List TermTree) (j : ℕ) → j < length xs → argument xs j ≡ get_or xs j (bound 0)
argument-inside xs j inside = get_or_default xs j _ (bound 0) inside

-- an argument that is put in has room where the whole has
module _ (xs : List TermTree) (j d : ℕ) (inside : j < length xs) where
  abbrev Argument : Type 0
  Argument = RoomTerm d (get_or xs j (bound 0))

  mutual
    used-form : (p : FormTree) (e : ℕ) → RoomForm (d + e) (put_form e xs p) → 0 < reach_form (j + e) p → Argument
    used-form top e h u = absurd (omega arith)
    used-form bottom e h u = absurd (omega arith)
    used-form (rel r args) e h u = used-terms args e h (some-below _ u)
    used-form (equal a b) e h u =
        ⊎_elim (λ (l : 0 < reach_term (j + e) a). used-term a e h.0 l)
        (λ (l : 0 < reach_term (j + e) b). used-term b e h.1 l) (either_below _ _ u)
    used-form (negation p) e h u = used-form p e h (some-below _ u)
    used-form (conjunction ps) e h u = used-forms ps e h (some-below _ u)
    used-form (disjunction ps) e h u = used-forms ps e h (some-below _ u)
    used-form (implication p q) e h u =
        ⊎_elim (λ (l : 0 < reach_form (j + e) p). used-form p e h.0 l)
        (λ (l : 0 < reach_form (j + e) q). used-form q e h.1 l) (either_below _ _ u)
    used-form (equivalence p q) e h u =
        ⊎_elim (λ (l : 0 < reach_form (j + e) p). used-form p e h.0 l)
        (λ (l : 0 < reach_form (j + e) q). used-form q e h.1 l) (either_below _ _ u)
    used-form (for_all k p) e h u =
        used-form p (suc e) (subst (λ n. RoomForm n (put_form (suc e) xs p)) (under_suc d e) h.1)
        (subst (λ n. 0 < reach_form n p) (under_suc j e) (some-below _ u))
    used-form (for_some k p) e h u =
        used-form p (suc e) (subst (λ n. RoomForm n (put_form (suc e) xs p)) (under_suc d e) h.1)
        (subst (λ n. 0 < reach_form n p) (under_suc j e) (some-below _ u))

    used-forms : (ps : FormTrees) (e : ℕ) → RoomForms (d + e) (put_forms e xs ps) → 0 < reach_forms (j + e) ps
        → Argument
    used-forms no_forms e h u = absurd (omega arith)
    used-forms (form_then p ps) e h u =
        ⊎_elim (λ (l : 0 < reach_form (j + e) p). used-form p e h.0 l)
        (λ (l : 0 < reach_forms (j + e) ps). used-forms ps e h.1 l) (either_some _ _ u)

    used-term : (t : TermTree) (e : ℕ) → RoomTerm (d + e) (put_term e xs t) → 0 < reach_term (j + e) t → Argument
    used-term (bound i) e h u =
        let is = index-reach i (j + e) u in
        let at : i - e ≡ j = omega (arith, is) in
        subst (RoomTerm d) (ap (argument xs) at ∙ argument-inside xs j inside)
        (unshifted-term (argument xs (i - e)) 0 e d
        (less-term _ d (d + e) (subst (RoomTerm (d + e)) (picked-above e xs i (omega (arith, is))) h)
        (omega arith)))
    used-term (app f args) e h u = used-terms args e h (some-below _ u)
    used-term (ite p a b) e h u =
        ⊎_elim
        (λ (l : 0 < reach_form (j + e) p). used-form p e h.0 l)
        (λ (l : 0 < max (reach_term (j + e) a) (reach_term (j + e) b)). ⊎_elim
        (λ (m : 0 < reach_term (j + e) a). used-term a e h.1 m)
        (λ (m : 0 < reach_term (j + e) b). used-term b e h.2 m) (either_some _ _ l))
        (either_below _ _ u)

    used-terms : (ts : TermTrees) (e : ℕ) → RoomTerms (d + e) (put_terms e xs ts) → 0 < reach_terms (j + e) ts
        → Argument
    used-terms no_terms e h u = absurd (omega arith)
    used-terms (term_then t ts) e h u =
        ⊎_elim (λ (l : 0 < reach_term (j + e) t). used-term t e h.0 l)
        (λ (l : 0 < reach_terms (j + e) ts). used-terms ts e h.1 l) (either_some _ _ u)

-- arguments that agree wherever they are used make one result
module _ (xs ys : List TermTree) where
  abbrev AgreeAt : (ℕ → ℕ) → Type 0
  AgreeAt f = (j : ℕ) → 0 < f j → argument xs j ≡ argument ys j

  mutual
    same-form : (p : FormTree) (e : ℕ) → AgreeAt (λ j. reach_form (j + e) p) → put_form e xs p ≡ put_form e ys p
    same-form top e s = refl
    same-form bottom e s = refl
    same-form (rel r ts) e s = ap (rel r) (same-terms ts e (λ j u. s j (below-some _ u)))
    same-form (equal a b) e s =
        let e1 = same-term a e (λ j u. s j (below-left _ _ u)) in
        let e2 = same-term b e (λ j u. s j (below-right _ _ u)) in
        cc (e1, e2)
    same-form (negation p) e s = ap negation (same-form p e (λ j u. s j (below-some _ u)))
    same-form (conjunction ps) e s = ap conjunction (same-forms ps e (λ j u. s j (below-some _ u)))
    same-form (disjunction ps) e s = ap disjunction (same-forms ps e (λ j u. s j (below-some _ u)))
    same-form (implication p q) e s =
        let e1 = same-form p e (λ j u. s j (below-left _ _ u)) in
        let e2 = same-form q e (λ j u. s j (below-right _ _ u)) in
        cc (e1, e2)
    same-form (equivalence p q) e s =
        let e1 = same-form p e (λ j u. s j (below-left _ _ u)) in
        let e2 = same-form q e (λ j u. s j (below-right _ _ u)) in
        cc (e1, e2)
    same-form (for_all k p) e s =
        ap (for_all k)
        (same-form p (suc e)
        (λ j u. s j (below-some _ (subst (λ m. 0 < reach_form m p) (sym (under_suc j e)) u))))
    same-form (for_some k p) e s =
        ap (for_some k)
        (same-form p (suc e)
        (λ j u. s j (below-some _ (subst (λ m. 0 < reach_form m p) (sym (under_suc j e)) u))))

    same-forms : (ps : FormTrees) (e : ℕ) → AgreeAt (λ j. reach_forms (j + e) ps)
        → put_forms e xs ps ≡ put_forms e ys ps
    same-forms no_forms e s = refl
    same-forms (form_then p ps) e s =
        let e1 = same-form p e (λ j u. s j (omega (arith, u))) in
        let e2 = same-forms ps e (λ j u. s j (omega (arith, u))) in
        cc (e1, e2)

    same-term : (t : TermTree) (e : ℕ) → AgreeAt (λ j. reach_term (j + e) t) → put_term e xs t ≡ put_term e ys t
    same-term (bound i) e s =
        ⊎_elim
        (λ (l : i < e). picked-below e xs i l ∙ sym (picked-below e ys i l))
        (λ (l : e ≤ i).
        let used : 0 < reach_term (i - e + e) (bound i) = rw (eq-eqb i (i - e + e) (omega arith)) (omega arith) in
        picked-above e xs i l ∙ ap (shift_term 0 e) (s (i - e) used) ∙ sym (picked-above e ys i l))
        (cases_lt i e)
    same-term (app f ts) e s = ap (app f) (same-terms ts e (λ j u. s j (below-some _ u)))
    same-term (ite p a b) e s =
        let e1 = same-form p e (λ j u. s j (below-left _ _ u)) in
        let e2 = same-term a e (λ j u. s j (below-right _ _ (omega (arith, u)))) in
        let e3 = same-term b e (λ j u. s j (below-right _ _ (omega (arith, u)))) in
        cc (e1, e2, e3)

    same-terms : (ts : TermTrees) (e : ℕ) → AgreeAt (λ j. reach_terms (j + e) ts)
        → put_terms e xs ts ≡ put_terms e ys ts
    same-terms no_terms e s = refl
    same-terms (term_then t ts) e s =
        let e1 = same-term t e (λ j u. s j (omega (arith, u))) in
        let e2 = same-terms ts e (λ j u. s j (omega (arith, u))) in
        cc (e1, e2)

-- the arguments in reverse order
pub reversed_args : RowsAreLists → (ts : List Term) (a : TermTrees) → terms ts ≡ a
    → map term (reverse ts) ≡ reverse (list_of a)
reversed_args rows ts a e = map-reverse term ts ∙ ap reverse (sym (rows.term_list ts) ∙ ap list_of e)

size_of-kept : (c : Change) (ts : TermTrees) → size_of (kept c ts) ≡ size_of ts
size_of-kept c no_terms = refl
size_of-kept c (term_then t ts) = ap suc (size_of-kept c ts)

length-reversed : (ts : TermTrees) → length (reverse (list_of ts)) ≡ size_of ts
length-reversed ts = length-reverse (list_of ts) ∙ length-list_of ts

-- the arguments in reverse order, by their parameters
front-argument : (t : TermTree) (ts : TermTrees) (j : ℕ) → j < size_of ts
    → get_or (reverse (list_of (term_then t ts))) j (bound 0) ≡ get_or (reverse (list_of ts)) j (bound 0)
front-argument t ts j lt =
    ap (λ z. get_or z j (bound 0)) (reverse-append (t ∷ []) (list_of ts))
    ∙ get_or_append_left (reverse (list_of ts)) (t ∷ []) (bound 0) j (let e = length-reversed ts in omega (arith, e))

last-argument : (t : TermTree) (ts : TermTrees) → get_or (reverse (list_of (term_then t ts))) (size_of ts) (bound 0) ≡ t
last-argument t ts =
    ap (λ z. get_or z (size_of ts) (bound 0)) (reverse-append (t ∷ []) (list_of ts))
    ∙ ap (λ n. get_or (reverse (list_of ts) ++ (t ∷ [])) n (bound 0)) (let e = length-reversed ts in omega (arith, e))
    ∙ get_or-append-add (reverse (list_of ts)) (t ∷ []) 0 (bound 0)

-- a parameter that has a place
kept-some : (c : Change) (i : ℕ) (t : TermTree) → 0 < reach_of c i → cond ((places_of c i).depth == 0) (bound 0) t ≡ t
kept-some c i t u =
    let e = ap (λ z. z.depth) (places-of c i) in
    rw (ne_eqb (places_of c i).depth 0 (λ z. absurd (omega (arith, e)))) refl

kept-argument : (c : Change) (ts : TermTrees) (j : ℕ) → j < size_of ts → 0 < reach_of c j
    → get_or (reverse (list_of (kept c ts))) j (bound 0) ≡ get_or (reverse (list_of ts)) j (bound 0)
kept-argument c no_terms j lt u = absurd (omega arith)
kept-argument c (term_then t ts) j lt u =
    let new = cond ((places_of c (size_of ts)).depth == 0) (bound 0) t in
    ⊎_elim
    (λ (l : j < size_of ts).
    front-argument new (kept c ts) j (let e = size_of-kept c ts in omega (arith, e)) ∙ kept-argument c ts j l u
    ∙ sym (front-argument t ts j l))
    (λ (l : size_of ts ≤ j).
    let at : j ≡ size_of ts = omega arith in
    let here : j ≡ size_of (kept c ts) = at ∙ sym (size_of-kept c ts) in
    ap (λ n. get_or (reverse (list_of (term_then new (kept c ts)))) n (bound 0)) here
    ∙ last-argument new (kept c ts)
    ∙ kept-some c (size_of ts) t (subst (λ n. 0 < reach_of c n) at u)
    ∙ sym (last-argument t ts)
    ∙ ap (λ n. get_or (reverse (list_of (term_then t ts))) n (bound 0)) (sym at))
    (cases_lt j (size_of ts))

kept-inside : (c : Change) (ts : TermTrees) (j : ℕ) → j < length (reverse (list_of (kept c ts))) → 0 < reach_of c j
    → argument (reverse (list_of (kept c ts))) j ≡ argument (reverse (list_of ts)) j
kept-inside c ts j lt u =
    let n = length-reversed (kept c ts) in
    let m = size_of-kept c ts in
    let l = length-reversed ts in
    argument-inside (reverse (list_of (kept c ts))) j lt ∙ kept-argument c ts j (omega (arith, lt, n, m)) u
    ∙ sym (argument-inside (reverse (list_of ts)) j (omega (arith, lt, n, m, l)))

-- beyond the arguments there is an index outside of them, and there are as many
kept-beyond : (c : Change) (ts : TermTrees) (j : ℕ) → length (reverse (list_of (kept c ts))) ≤ j
    → argument (reverse (list_of (kept c ts))) j ≡ argument (reverse (list_of ts)) j
kept-beyond c ts j le =
    let many : length (reverse (list_of (kept c ts))) ≡ length (reverse (list_of ts)) =
    length-reversed (kept c ts) ∙ size_of-kept c ts ∙ sym (length-reversed ts) in
    get_or_past (reverse (list_of (kept c ts))) j _ le
    ∙ ap (λ n. bound (j - n)) many
    ∙ sym (get_or_past (reverse (list_of ts)) j _ (omega (arith, many, le)))

kept-same : (c : Change) (ts : TermTrees) (j : ℕ) → 0 < reach_of c j
    → argument (reverse (list_of (kept c ts))) j ≡ argument (reverse (list_of ts)) j
kept-same c ts j u =
    ⊎_elim (λ lt. kept-inside c ts j lt u) (λ le. kept-beyond c ts j le)
    (cases_lt j (length (reverse (list_of (kept c ts)))))

kept-room : (c : Change) (d : ℕ) (ts : TermTrees)
    → ((j : ℕ) → j < size_of ts → 0 < reach_of c j → RoomTerm d (get_or (reverse (list_of ts)) j (bound 0)))
    → RoomTerms d (kept c ts)
kept-room c d no_terms h = tt
kept-room c d (term_then t ts) h = (
  which ((places_of c (size_of ts)).depth == 0) refl,
  kept-room c d ts (λ j lt u. subst (RoomTerm d) (front-argument t ts j lt) (h j (omega (arith, lt)) u)),
)
  where
    used : (places_of c (size_of ts)).depth == 0 ≡ false → 0 < reach_of c (size_of ts)
    used e = let is = ap (λ z. z.depth) (places-of c (size_of ts)) in
        ⊎_elim (λ (l : 0 < reach_of c (size_of ts)). l)
        (λ (l : reach_of c (size_of ts) ≤ 0). absurd (different (sym e ∙ eq-eqb _ 0 (omega (arith, is)))))
        (cases_lt 0 (reach_of c (size_of ts)))
      where
        different : false ≡ true → ⊥
        different z = cc

    which : (b : Bool) → ((places_of c (size_of ts)).depth == 0) ≡ b → RoomTerm d (cond b (bound 0) t)
    which true e = omega arith
    which false e = subst (RoomTerm d) (last-argument t ts) (h (size_of ts) (omega arith) (used e))

-- what is left out does not count
outermost : (f : ℕ → ℕ) (j : ℕ) → 0 < f (j + 0) → 0 < f j
outermost f j u = let e : j + 0 ≡ j = omega arith in subst (λ m. 0 < f m) e u

pub kept-form : (r : ℕ) (by : FormTree) (new : TermTrees)
    → put_form 0 (reverse (list_of (kept (change_rel r by) new))) by ≡ put_form 0 (reverse (list_of new)) by
kept-form r by new =
    same-form (reverse (list_of (kept (change_rel r by) new))) (reverse (list_of new)) by 0
    (λ j u. kept-same (change_rel r by) new j (outermost (λ m. reach_form m by) j u))

kept-term : (g : ℕ) (by : TermTree) (new : TermTrees)
    → put_term 0 (reverse (list_of (kept (change_fun g by) new))) by ≡ put_term 0 (reverse (list_of new)) by
kept-term g by new =
    same-term (reverse (list_of (kept (change_fun g by) new))) (reverse (list_of new)) by 0
    (λ j u. kept-same (change_fun g by) new j (outermost (λ m. reach_term m by) j u))

-- what a replaced atom or application makes
built-form : RowsAreLists → (r : ℕ) (by : FormTree) (new : TermTrees) (all ts : List Term) → ts ≡ reverse all
    → terms all ≡ kept (change_rel r by) new → put_form 0 (map term ts) by ≡ put_form 0 (reverse (list_of new)) by
built-form rows r by new all ts is made =
    ap (λ z. put_form 0 z by) (ap (map term) is ∙ reversed_args rows all (kept (change_rel r by) new) made)
    ∙ kept-form r by new

built-term : RowsAreLists → (g : ℕ) (by : TermTree) (new : TermTrees) (all ts : List Term) → ts ≡ reverse all
    → terms all ≡ kept (change_fun g by) new → put_term 0 (map term ts) by ≡ put_term 0 (reverse (list_of new)) by
built-term rows g by new all ts is made =
    ap (λ z. put_term 0 z by) (ap (map term) is ∙ reversed_args rows all (kept (change_fun g by) new) made)
    ∙ kept-term g by new

-- the arguments that are kept have room
pub kept_room-form : (r : ℕ) (by : FormTree) (depth : ℕ) (new : TermTrees)
    → RoomForm depth (put_form 0 (reverse (list_of new)) by) → RoomTerms depth (kept (change_rel r by) new)
kept_room-form r by depth new room =
    kept-room (change_rel r by) depth new (λ j lt u.
    used-form (reverse (list_of new)) j depth (let e = length-reversed new in omega (arith, lt, e)) by 0
    (subst (λ n. RoomForm n (put_form 0 (reverse (list_of new)) by)) (let e : depth ≡ depth + 0 = omega arith in e)
    room) (subst (λ m. 0 < reach_form m by) (let e : j ≡ j + 0 = omega arith in e) u))

pub kept_room-term : (g : ℕ) (by : TermTree) (depth : ℕ) (new : TermTrees)
    → RoomTerm depth (put_term 0 (reverse (list_of new)) by) → RoomTerms depth (kept (change_fun g by) new)
kept_room-term g by depth new room =
    kept-room (change_fun g by) depth new (λ j lt u.
    used-term (reverse (list_of new)) j depth (let e = length-reversed new in omega (arith, lt, e)) by 0
    (subst (λ n. RoomTerm n (put_term 0 (reverse (list_of new)) by)) (let e : depth ≡ depth + 0 = omega arith in e)
    room) (subst (λ m. 0 < reach_term m by) (let e : j ≡ j + 0 = omega arith in e) u))

-- an index at its depth, as the code finds what it becomes
module _ (depth i : ℕ) (args : List Term) (above : depth ≤ i) where
  argument-at : (x : Term) → i - depth < length args → x ≡ get_or args (i - depth) x
      → argument (map term args) (i - depth) ≡ term x
  argument-at x inside is = get_or-map term args (i - depth) x _ inside ∙ ap term (sym is)

  pub picked-inside : (x : Term) → i - depth < length args → x ≡ get_or args (i - depth) x
      → picked depth (map term args) i ≡ shift_term 0 depth (term x)
  picked-inside x inside is =
      picked-above depth (map term args) i above ∙ ap (shift_term 0 depth) (argument-at x inside is)

  pub picked-beyond : length args ≤ i - depth → picked depth (map term args) i ≡ bound (i - length args)
  picked-beyond beyond =
      let n = length-map args term in
      let past = get_or_past (map term args) (i - depth) (bound (i - depth - length (map term args)))
      (omega (arith, n, beyond)) in
      let e : raised 0 depth (i - depth - length (map term args)) ≡ i - length args =
      raised-above 0 depth (i - depth - length (map term args)) (omega arith) ∙ omega (arith, n, above, beyond) in
      picked-above depth (map term args) i above ∙ ap (shift_term 0 depth) past ∙ ap bound e

-- for the change as the code has it
pub kept_room-atom : (c : Change) (r q depth : ℕ) (by : FormTree) (new : TermTrees) → c ≡ change_rel r by → q ≡ r
    → RoomForm depth (rel_instance c q new) → RoomTerms depth (kept c new)
kept_room-atom c r q depth by new is at room =
    subst (λ z. RoomTerms depth (kept z new)) (sym is)
    (kept_room-form r by depth new
    (subst (RoomForm depth) (ap (λ z. rel_instance z q new) is
    ∙ ap (λ b. cond b (put_form 0 (reverse (list_of new)) by) (rel q new)) (eq-eqb q r at)) room))

pub kept_room-application : (c : Change) (g f depth : ℕ) (by : TermTree) (new : TermTrees) → c ≡ change_fun g by → f ≡ g
    → RoomTerm depth (app_instance c depth f new) → RoomTerms depth (kept c new)
kept_room-application c g f depth by new is at room =
    subst (λ z. RoomTerms depth (kept z new)) (sym is)
    (kept_room-term g by depth new
    (subst (RoomTerm depth) (ap (λ z. app_instance z depth f new) is
    ∙ ap (λ b. cond b (put_term 0 (reverse (list_of new)) by) (app f new)) (eq-eqb f g at)) room))

pub built-atom : RowsAreLists → (c : Change) (r q depth : ℕ) (by : FormTree) (args : TermTrees) (all ts : List Term)
    → c ≡ change_rel r by → q ≡ r → ts ≡ reverse all → terms all ≡ kept c (changed_terms c depth args)
    → put_form 0 (map term ts) by ≡ rel_instance c q (changed_terms c depth args)
built-atom rows c r q depth by args all ts is at rev made =
    let new = changed_terms c depth args in
    let here : rel_instance c q new ≡ put_form 0 (reverse (list_of new)) by =
    ap (λ z. rel_instance z q new) is ∙ ap (λ b. cond b (put_form 0 (reverse (list_of new)) by) (rel q new))
    (eq-eqb q r at) in
    built-form rows r by new all ts rev (made ∙ ap (λ z. kept z new) is) ∙ sym here

pub built-application : RowsAreLists → (c : Change) (g f depth : ℕ) (by : TermTree) (args : TermTrees)
    (all ts : List Term) → c ≡ change_fun g by → f ≡ g → ts ≡ reverse all
    → terms all ≡ kept c (changed_terms c depth args)
    → put_term 0 (map term ts) by ≡ app_instance c depth f (changed_terms c depth args)
built-application rows c g f depth by args all ts is at rev made =
    let new = changed_terms c depth args in
    let here : app_instance c depth f new ≡ put_term 0 (reverse (list_of new)) by =
    ap (λ z. app_instance z depth f new) is
    ∙ ap (λ b. cond b (put_term 0 (reverse (list_of new)) by) (app f new)) (eq-eqb f g at) in
    built-term rows g by new all ts rev (made ∙ ap (λ z. kept z new) is) ∙ sym here

-- one turn of the loop over the arguments
pub args-drop : RowsAreLists → (ts : List Term) (index i : ℕ) (t : Term) → length ts ≤ 8 → index + i ≡ length ts
    → i < length ts → size_of (terms (drop (i + 1) ts)) ≡ index - 1
args-drop rows ts index i t few left lt = rows.term_count (drop (i + 1) ts) ∙ omega (arith, length-drop (i + 1) ts)

pub kept-more : TermLists → (c : Change) (depth : ℕ) (ts all all' : List Term) (i j : ℕ) (t x : Term)
    (whole : TermTrees) → i < length ts → t ≡ get_or ts i t → size_of (terms (drop (i + 1) ts)) ≡ j
    → all' ≡ all ++ x ∷ [] → term x ≡ kept_one c j (changed_term c depth (term t))
    → terms_then (map term all) (kept c (changed_terms c depth (terms (drop i ts)))) ≡ whole
    → terms_then (map term all') (kept c (changed_terms c depth (terms (drop (i + 1) ts)))) ≡ whole
kept-more lists c depth ts all all' i j t x whole lt is size pushed made before =
    let rest = changed_terms c depth (terms (drop (i + 1) ts)) in
    ap (λ z. terms_then (map term z) (kept c rest)) pushed
    ∙ lists.pushed all x (kept c rest)
    ∙ ap (λ z. terms_then (map term all) (term_then z (kept c rest)))
    (made ∙ ap (λ n. kept_one c n (changed_term c depth (term t)))
    (sym size ∙ sym (size_of-by (changing c) depth (terms (drop (i + 1) ts)))))
    ∙ ap (λ z. terms_then (map term all) (kept c (changed_terms c depth z))) (sym (lists.left ts i t lt is))
    ∙ before

-- what is left at a turn: the argument and those behind it
pub record TurnRoom (c : Change) (depth : ℕ) (t : TermTree) (ts : TermTrees) (j : ℕ) : Type 0 where
  pub here : RoomTerm depth (kept_one c j (changed_term c depth t))
  pub rest : RoomTerms depth (kept c (changed_terms c depth ts))

pub turn-room : TermLists → (c : Change) (depth : ℕ) (ts : List Term) (i j : ℕ) (t : Term) → i < length ts
    → t ≡ get_or ts i t → size_of (terms (drop (i + 1) ts)) ≡ j
    → RoomTerms depth (kept c (changed_terms c depth (terms (drop i ts))))
    → TurnRoom c depth (term t) (terms (drop (i + 1) ts)) j
turn-room lists c depth ts i j t lt is size room =
    let h = subst (λ z. RoomTerms depth (kept c (changed_terms c depth z))) (lists.left ts i t lt is) room in
    record {
      here = subst (λ n. RoomTerm depth (kept_one c n (changed_term c depth (term t))))
          (size_of-by (changing c) depth (terms (drop (i + 1) ts)) ∙ size) h.0;
      rest = h.1;
    }

pub turn-ready : TermLists → (c : Change) (ts : List Term) (i : ℕ) (t : Term) → i < length ts → t ≡ get_or ts i t
    → ReadyTerms c (terms (drop i ts)) → ReadyTerm c (term t) × ReadyTerms c (terms (drop (i + 1) ts))
turn-ready lists c ts i t lt is ready = subst (ReadyTerms c) (lists.left ts i t lt is) ready

-- one turn of the count of an instance
pub instance-more : TermLists → (c : Change) (ts : List Term) (i j : ℕ) (t : Term) (all place part new : Extent)
    (whole : Extent) → i < length ts → t ≡ get_or ts i t → size_of (terms (drop (i + 1) ts)) ≡ j → place ≡ places_of c j
    → part ≡ extent_term c (term t) → new ≡ put_in all place part → extent_instance c all (terms (drop i ts)) ≡ whole
    → extent_instance c new (terms (drop (i + 1) ts)) ≡ whole
instance-more lists c ts i j t all place part new whole lt is size at counted put before =
    let rest = terms (drop (i + 1) ts) in
    ap (λ z. extent_instance c z rest)
    (put ∙ ap (λ z. put_in all z part) (at ∙ ap (places_of c) (sym size))
    ∙ ap (λ z. put_in all (places_of c (size_of rest)) z) counted)
    ∙ ap (extent_instance c all) (sym (lists.left ts i t lt is))
    ∙ before

-- a result within the limits has room, under the binders that there may be
pub room-within : (p : FormTree) (d : ℕ) → IndicesFit p → is_too_large p ≡ false → d < 2 ^ 33 → RoomForm d p
room-within p d h small few = let e = shallow (form_nodes p) (form_depth p) small in room-form p d h (omega (arith, e))

-- what has no index beyond n has none above those of the binders
mutual
  bound-indices : (p : FormTree) (n : ℕ) → BoundForm n p → n + form_depth p ≤ 2 ^ 32 → IndicesFit p
  bound-indices top n h l = tt
  bound-indices bottom n h l = tt
  bound-indices (rel r args) n h l = bound-indices-terms args n h (omega arith)
  bound-indices (equal a b) n h l = (bound-indices-term a n h.0 (omega arith), bound-indices-term b n h.1 (omega arith))
  bound-indices (negation p) n h l = bound-indices p n h (omega arith)
  bound-indices (conjunction ps) n h l = bound-indices-forms ps n h (omega arith)
  bound-indices (disjunction ps) n h l = bound-indices-forms ps n h (omega arith)
  bound-indices (implication p q) n h l = (bound-indices p n h.0 (omega arith), bound-indices q n h.1 (omega arith))
  bound-indices (equivalence p q) n h l = (bound-indices p n h.0 (omega arith), bound-indices q n h.1 (omega arith))
  bound-indices (for_all k p) n h l = bound-indices p (suc n) h (omega arith)
  bound-indices (for_some k p) n h l = bound-indices p (suc n) h (omega arith)

  bound-indices-forms : (ps : FormTrees) (n : ℕ) → BoundForms n ps → n + forms_depth ps ≤ 2 ^ 32 → IndicesFitAll ps
  bound-indices-forms no_forms n h l = tt
  bound-indices-forms (form_then p ps) n h l =
      (bound-indices p n h.0 (omega arith), bound-indices-forms ps n h.1 (omega arith))

  bound-indices-term : (t : TermTree) (n : ℕ) → BoundTerm n t → n + term_depth t ≤ 2 ^ 32 → IndicesFitTerm t
  bound-indices-term (bound i) n h l = omega (arith, h)
  bound-indices-term (app f args) n h l = bound-indices-terms args n h (omega arith)
  bound-indices-term (ite p a b) n h l = (
    bound-indices p n h.0 (omega arith),
    bound-indices-term a n h.1 (omega arith),
    bound-indices-term b n h.2 (omega arith),
  )

  bound-indices-terms : (ts : TermTrees) (n : ℕ) → BoundTerms n ts → n + terms_depth ts ≤ 2 ^ 32 → IndicesFitTerms ts
  bound-indices-terms no_terms n h l = tt
  bound-indices-terms (term_then t ts) n h l =
      (bound-indices-term t n h.0 (omega arith), bound-indices-terms ts n h.1 (omega arith))

-- a shift raises no index by more than it shifts
raised-within : (from by i n m : ℕ) → m ≡ n + by → i < n → raised from by i < m
raised-within from by i n m is lt =
    ⊎_elim
    (λ (l : i < from). let e = raised-below from by i l in omega (arith, e))
    (λ (l : from ≤ i). let e = raised-above from by i l in omega (arith, e))
    (cases_lt i from)

module _ (by : ℕ) where
  mutual
    bound-shifted : (p : FormTree) (from n m : ℕ) → m ≡ n + by → BoundForm n p → BoundForm m (shift_form from by p)
    bound-shifted top from n m is h = tt
    bound-shifted bottom from n m is h = tt
    bound-shifted (rel r args) from n m is h = bound_terms-shifted args from n m is h
    bound-shifted (equal a b) from n m is h =
        (bound_term-shifted a from n m is h.0, bound_term-shifted b from n m is h.1)
    bound-shifted (negation p) from n m is h = bound-shifted p from n m is h
    bound-shifted (conjunction ps) from n m is h = bound_forms-shifted ps from n m is h
    bound-shifted (disjunction ps) from n m is h = bound_forms-shifted ps from n m is h
    bound-shifted (implication p q) from n m is h = (bound-shifted p from n m is h.0, bound-shifted q from n m is h.1)
    bound-shifted (equivalence p q) from n m is h = (bound-shifted p from n m is h.0, bound-shifted q from n m is h.1)
    bound-shifted (for_all k p) from n m is h = bound-shifted p (suc from) (suc n) (suc m) (omega arith) h
    bound-shifted (for_some k p) from n m is h = bound-shifted p (suc from) (suc n) (suc m) (omega arith) h

    bound_forms-shifted : (ps : FormTrees) (from n m : ℕ) → m ≡ n + by → BoundForms n ps
        → BoundForms m (shift_forms from by ps)
    bound_forms-shifted no_forms from n m is h = tt
    bound_forms-shifted (form_then p ps) from n m is h =
        (bound-shifted p from n m is h.0, bound_forms-shifted ps from n m is h.1)

    bound_term-shifted : (t : TermTree) (from n m : ℕ) → m ≡ n + by → BoundTerm n t → BoundTerm m (shift_term from by t)
    bound_term-shifted (bound i) from n m is h = raised-within from by i n m is h
    bound_term-shifted (app f args) from n m is h = bound_terms-shifted args from n m is h
    bound_term-shifted (ite p a b) from n m is h =
        (bound-shifted p from n m is h.0, bound_term-shifted a from n m is h.1, bound_term-shifted b from n m is h.2)

    bound_terms-shifted : (ts : TermTrees) (from n m : ℕ) → m ≡ n + by → BoundTerms n ts
        → BoundTerms m (shift_terms from by ts)
    bound_terms-shifted no_terms from n m is h = tt
    bound_terms-shifted (term_then t ts) from n m is h =
        (bound_term-shifted t from n m is h.0, bound_terms-shifted ts from n m is h.1)

small_indices : (p : FormTree) (n : ℕ) → BoundForm n p → n + 1000 ≤ 2 ^ 32 → is_too_large p ≡ false → IndicesFit p
small_indices p n h l small = let e = shallow (form_nodes p) (form_depth p) small in
    bound-indices p n h (omega (arith, e, l))

pub short_lists_suffice : FitsIsBound → ShortListsSuffice
short_lists_suffice bound_form sig sorts within c h can l = record {
  sig = sig;
  sorts = sorts;
  within_fits = h;
  change_fits = can;
  indices = λ small. small_indices (changed_form c 0 within) (length sorts)
      (bound_form sig sorts (changed_form c 0 within) (changed-fits sig sorts c can within h)) l small;
}

pub short_lists_allow_shifts : FitsIsBound → ShortListsAllowShifts
short_lists_allow_shifts bound_form sig sorts within from by h l = λ small.
    small_indices (shift_form from by within) (length sorts + by)
    (bound-shifted by within from (length sorts) (length sorts + by) refl (bound_form sig sorts within h)) l small
