-- The counts without the result are those of the result.
use Rattle.std.proofs.Common.{◌≡◌, ℕ, zero, suc, ◌+◌, ◌-◌, ◌*◌, ◌<◌, ◌≤◌, ◌^◌, Bool, true, false, ◌==◌, ◌||◌, nat_lt}
use Rattle.std.proofs.Common.{cond, max, min, List, [], ◌∷◌, ◌++◌, length, refl, sym, ap, ◌∙◌, subst, ⊎_elim, arith}
use Rattle.std.specs.Prelude.{reverse}
use Rattle.std.proofs.lemmas.Bool.{cases_lt, eqb-true, ne_eqb}
use Rattle.std.proofs.lemmas.Bool.Decides.{nat_tests}
use Rattle.std.proofs.Math.Nat.{mul-le-mul_right}
use Rattle.std.proofs.lemmas.List.{reverse-append, length-reverse}
use Rattle.fol_formula.specs.Syntax.{FormTree, FormTrees, TermTree, TermTrees, top, bottom, rel, equal, negation}
use Rattle.fol_formula.specs.Syntax.{conjunction, disjunction, implication, equivalence, for_all, for_some, no_forms}
use Rattle.fol_formula.specs.Syntax.{form_then, bound, app, ite, no_terms, term_then, list_of, size_of}
use Rattle.fol_formula.specs.Counts.{form_nodes, forms_nodes, term_nodes, terms_nodes, form_depth, forms_depth}
use Rattle.fol_formula.specs.Counts.{term_depth, terms_depth}
use Rattle.fol_subst.specs.Replace.{put_form, put_term, Change, change_rel, change_fun, change_const, rel_instance}
use Rattle.fol_subst.specs.Replace.{app_instance, changing, changed_form, changed_forms, changed_term, changed_terms}
use Rattle.fol_formula.specs.Indices.{IndicesFit, IndicesFitAll, IndicesFitTerm, IndicesFitTerms}
use Rattle.fol_subst.specs.Limits.{is_too_large}
use Rattle.fol_subst.specs.Room.{AppTakes, ReadyForm, ReadyForms, ReadyTerm, ReadyTerms}
use Rattle.fol_subst.specs.Extents.{capped, extent, none, one, beside, over, under, put_in, places_form, places_forms}
use Rattle.fol_subst.specs.Extents.{places_term, places_terms, places_of, extent_form, extent_forms, extent_term}
use Rattle.fol_subst.specs.Extents.{extent_terms, extent_instance, is_over}
use Rattle.fol_subst.specs.declared.extent.Extent.{Extent}
use Rattle.fol_subst.proofs.Truth.{length-list_of, size_of-by}
use Rattle.fol_subst.proofs.Sizes.{uses_form, uses_forms, uses_term, uses_terms, below, reach_form, reach_forms}
use Rattle.fol_subst.proofs.Sizes.{reach_term, reach_terms, weighted, weighted-same, deepened, highest, highest-same}
use Rattle.fol_subst.proofs.Sizes.{Filled, filled-form, filled-term, nodes-positive, depth-positive}

pub beside-extent : (a b c d : ℕ) → beside (extent a b) (extent c d) ≡ extent (a + c) (max b d)
beside-extent a b c d =
    let e1 : capped (capped a + capped c) ≡ capped (a + c) = omega arith in
    let e2 : max (capped b) (capped d) ≡ capped (max b d) = omega arith in
    cc (e1, e2)

over-extent : (a b : ℕ) → over (extent a b) ≡ extent (a + 1) (b + 1)
over-extent a b =
    let e1 : capped (capped a + 1) ≡ capped (a + 1) = omega arith in
    let e2 : capped (capped b + 1) ≡ capped (b + 1) = omega arith in
    cc (e1, e2)

under-extent : (u r : ℕ) → under (extent u r) ≡ extent u (below r)
under-extent u zero = refl
under-extent u (suc n) =
    let e : cond (capped (suc n) == 0) 0 (capped (capped (suc n) + 1)) ≡ capped (suc (suc n)) =
    rw (ne_eqb (capped (suc n)) 0 (λ e. absurd (omega arith))) (omega arith) in
    cc (e)

-- a product, also where it is beyond the cap
product-below : (a v m : ℕ) → v < 1000002 → capped (capped a + capped v * m) ≡ capped (a + v * m)
product-below a v m small =
    let e : capped v ≡ v = omega arith in rw e (omega arith)

product-beyond : (a v m : ℕ) → 1000002 ≤ v → capped (capped a + capped v * m) ≡ capped (a + v * m)
product-beyond a v zero large = omega arith
product-beyond a v (suc m) large =
    let e1 : capped v ≡ 1000001 = omega arith in
    let e2 : 1000001 * suc m ≤ v * suc m = mul-le-mul_right (suc m) (omega arith) in
    rw e1 (omega (arith, e2))

product-many : (a v n : ℕ) → 1 ≤ a → 1 ≤ v → 1000002 ≤ n → capped (capped a + capped v * (capped n - 1))
    ≡ capped (a + v * (n - 1))
product-many a v n pa pv large =
    let e1 : capped n - 1 ≡ 1000000 = omega arith in
    let e2 : 1 * (n - 1) ≤ v * (n - 1) = mul-le-mul_right (n - 1) pv in
    rw e1 (omega (arith, e2))

product-few : (a v n : ℕ) → n < 1000002 → 1 ≤ n → capped (capped a + capped v * (capped n - 1))
    ≡ capped (a + v * (n - 1))
product-few a v n small pn =
    let e : capped n ≡ n = omega arith in
    rw e (⊎_elim (product-below a v (n - 1)) (product-beyond a v (n - 1)) (cases_lt v 1000002))

product-none : (a n : ℕ) → capped (capped a + capped 0 * (capped n - 1)) ≡ capped (a + 0 * (n - 1))
product-none a n = omega arith

capped-product : (a u n : ℕ) → 1 ≤ a → 1 ≤ n → capped (capped a + capped u * (capped n - 1)) ≡ capped (a + u * (n - 1))
capped-product a zero n pa pn = product-none a n
capped-product a (suc u) n pa pn =
    ⊎_elim (λ (small : n < 1000002). product-few a (suc u) n small pn)
    (λ (large : 1000002 ≤ n). product-many a (suc u) n pa (omega arith) large) (cases_lt n 1000002)

pub put_in-extent : (a b u r n d : ℕ) → 1 ≤ a → 1 ≤ n → 1 ≤ d → put_in (extent a b) (extent u r) (extent n d)
    ≡ extent (a + u * (n - 1)) (max b (deepened r d))
put_in-extent a b u zero n d pa pn pd =
    let e1 = capped-product a u n pa pn in
    let e2 : capped b ≡ capped (max b 0) = omega arith in
    cc (e1, e2)
put_in-extent a b u (suc m) n d pa pn pd =
    let e1 = capped-product a u n pa pn in
    let e2 : cond (capped (suc m) == 0) (capped b) (max (capped b) (capped (capped (suc m) + capped d - 1)))
    ≡ capped (max b (m + d)) =
    rw (ne_eqb (capped (suc m)) 0 (λ e. absurd (omega arith))) (omega arith) in
    cc (e1, e2)

pub over-one : (x : Extent) (a b : ℕ) → x ≡ extent a b → over x ≡ extent (a + 1) (b + 1)
over-one x a b e = ap over e ∙ over-extent a b

pub over-two : (x y : Extent) (a b c d : ℕ) → x ≡ extent a b → y ≡ extent c d
    → over (beside x y) ≡ extent (a + c + 1) (max b d + 1)
over-two x y a b c d e1 e2 =
    ap (λ z. over (beside z y)) e1 ∙ ap (λ z. over (beside (extent a b) z)) e2 ∙ ap over (beside-extent a b c d)
    ∙ over-extent (a + c) (max b d)

pub both : (x y : Extent) (a b c d : ℕ) → x ≡ extent a b → y ≡ extent c d → beside x y ≡ extent (a + c) (max b d)
both x y a b c d e1 e2 = ap (λ z. beside z y) e1 ∙ ap (λ z. beside (extent a b) z) e2 ∙ beside-extent a b c d

pub over-three : (x y z : Extent) (a b c d e f : ℕ) → x ≡ extent a b → y ≡ extent c d → z ≡ extent e f
    → over (beside x (beside y z)) ≡ extent (a + c + e + 1) (max b (max d f) + 1)
over-three x y z a b c d e f e1 e2 e3 =
    let e4 : a + (c + e) + 1 ≡ a + c + e + 1 = omega arith in
    over-two x (beside y z) a b (c + e) (max d f) e1 (both y z c d e f e2 e3)
    ∙ ap (λ n. extent n (max b (max d f) + 1)) e4

under-one : (x : Extent) (a b : ℕ) → x ≡ extent a b → under x ≡ extent a (below b)
under-one x a b e = ap under e ∙ under-extent a b

under-two : (x y : Extent) (a b c d : ℕ) → x ≡ extent a b → y ≡ extent c d
    → under (beside x y) ≡ extent (a + c) (below (max b d))
under-two x y a b c d e1 e2 = ap under (both x y a b c d e1 e2) ∙ under-extent (a + c) (max b d)

-- the places of an index
mutual
  pub places-form : (p : FormTree) (i : ℕ) → places_form i p ≡ extent (uses_form i p) (reach_form i p)
  places-form top i = refl
  places-form bottom i = refl
  places-form (rel r args) i = under-one _ _ _ (places-terms args i)
  places-form (equal a b) i = under-two _ _ _ _ _ _ (places-term a i) (places-term b i)
  places-form (negation p) i = under-one _ _ _ (places-form p i)
  places-form (conjunction ps) i = under-one _ _ _ (places-forms ps i)
  places-form (disjunction ps) i = under-one _ _ _ (places-forms ps i)
  places-form (implication p q) i = under-two _ _ _ _ _ _ (places-form p i) (places-form q i)
  places-form (equivalence p q) i = under-two _ _ _ _ _ _ (places-form p i) (places-form q i)
  places-form (for_all k p) i = under-one _ _ _ (places-form p (suc i))
  places-form (for_some k p) i = under-one _ _ _ (places-form p (suc i))

  places-forms : (ps : FormTrees) (i : ℕ) → places_forms i ps ≡ extent (uses_forms i ps) (reach_forms i ps)
  places-forms no_forms i = refl
  places-forms (form_then p ps) i = both _ _ _ _ _ _ (places-form p i) (places-forms ps i)

  pub places-term : (t : TermTree) (i : ℕ) → places_term i t ≡ extent (uses_term i t) (reach_term i t)
  places-term (bound n) i = index_place (n == i)
    where
      index_place : (b : Bool) → cond b one none ≡ extent (cond b 1 0) (cond b 1 0)
      index_place true = refl
      index_place false = refl
  places-term (app f args) i = under-one _ _ _ (places-terms args i)
  places-term (ite p a b) i =
      under-two _ _ _ _ _ _ (places-form p i) (both _ _ _ _ _ _ (places-term a i) (places-term b i))

  places-terms : (ts : TermTrees) (i : ℕ) → places_terms i ts ≡ extent (uses_terms i ts) (reach_terms i ts)
  places-terms no_terms i = refl
  places-terms (term_then t ts) i = both _ _ _ _ _ _ (places-term t i) (places-terms ts i)

-- beyond the numbers that indices may have, one index has as few places as another
mutual
  places-far : (p : FormTree) (i j : ℕ) → IndicesFit p → 2 ^ 32 ≤ i → 2 ^ 32 ≤ j → places_form i p ≡ places_form j p
  places-far top i j h a b = refl
  places-far bottom i j h a b = refl
  places-far (rel r args) i j h a b = ap under (places-far_terms args i j h a b)
  places-far (equal s t) i j h a b = let e1 = places-far_term s i j h.0 a b in let e2 = places-far_term t i j h.1 a b in
      ap (λ z. under (beside z (places_term i t))) e1 ∙ ap (λ z. under (beside (places_term j s) z)) e2
  places-far (negation p) i j h a b = ap under (places-far p i j h a b)
  places-far (conjunction ps) i j h a b = ap under (places-far_forms ps i j h a b)
  places-far (disjunction ps) i j h a b = ap under (places-far_forms ps i j h a b)
  places-far (implication p q) i j h a b =
      ap (λ z. under (beside z (places_form i q))) (places-far p i j h.0 a b)
      ∙ ap (λ z. under (beside (places_form j p) z)) (places-far q i j h.1 a b)
  places-far (equivalence p q) i j h a b =
      ap (λ z. under (beside z (places_form i q))) (places-far p i j h.0 a b)
      ∙ ap (λ z. under (beside (places_form j p) z)) (places-far q i j h.1 a b)
  places-far (for_all k p) i j h a b = ap under (places-far p (suc i) (suc j) h (omega arith) (omega arith))
  places-far (for_some k p) i j h a b = ap under (places-far p (suc i) (suc j) h (omega arith) (omega arith))

  places-far_forms : (ps : FormTrees) (i j : ℕ) → IndicesFitAll ps → 2 ^ 32 ≤ i → 2 ^ 32 ≤ j
      → places_forms i ps ≡ places_forms j ps
  places-far_forms no_forms i j h a b = refl
  places-far_forms (form_then p ps) i j h a b =
      ap (λ z. beside z (places_forms i ps)) (places-far p i j h.0 a b)
      ∙ ap (λ z. beside (places_form j p) z) (places-far_forms ps i j h.1 a b)

  places-far_term : (t : TermTree) (i j : ℕ) → IndicesFitTerm t → 2 ^ 32 ≤ i → 2 ^ 32 ≤ j
      → places_term i t ≡ places_term j t
  places-far_term (bound n) i j h a b =
      rw (ne_eqb n i (λ e. absurd (omega arith)), ne_eqb n j (λ e. absurd (omega arith))) refl
  places-far_term (app f args) i j h a b = ap under (places-far_terms args i j h a b)
  places-far_term (ite p s t) i j h a b =
      ap (λ z. under (beside z (beside (places_term i s) (places_term i t)))) (places-far p i j h.0 a b)
      ∙ ap (λ z. under (beside (places_form j p) (beside z (places_term i t)))) (places-far_term s i j h.1 a b)
      ∙ ap (λ z. under (beside (places_form j p) (beside (places_term j s) z))) (places-far_term t i j h.2 a b)

  places-far_terms : (ts : TermTrees) (i j : ℕ) → IndicesFitTerms ts → 2 ^ 32 ≤ i → 2 ^ 32 ≤ j
      → places_terms i ts ≡ places_terms j ts
  places-far_terms no_terms i j h a b = refl
  places-far_terms (term_then t ts) i j h a b =
      ap (λ z. beside z (places_terms i ts)) (places-far_term t i j h.0 a b)
      ∙ ap (λ z. beside (places_term j t) z) (places-far_terms ts i j h.1 a b)

-- under a binder, also where the next number is beyond 64 bits
pub places-next : (p : FormTree) (i j : ℕ) → IndicesFit p → j ≡ min (i + 1) (2 ^ 64 - 1)
    → places_form j p ≡ places_form (suc i) p
places-next p i j h e =
    ⊎_elim
    (λ near. ap (λ m. places_form m p) (let e1 : j ≡ suc i = omega arith in e1))
    (λ far. places-far p j (suc i) h (omega arith) (omega arith))
    (cases_lt i (2 ^ 33))

-- what the arguments add
abbrev pub weighted_args : (ℕ → ℕ) → TermTrees → ℕ
weighted_args f no_terms = 0
weighted_args f (term_then t ts) = f (size_of ts) * (term_nodes t - 1) + weighted_args f ts

abbrev pub highest_args : (ℕ → ℕ) → TermTrees → ℕ
highest_args f no_terms = 0
highest_args f (term_then t ts) = max (deepened (f (size_of ts)) (term_depth t)) (highest_args f ts)

weighted-last : (f : ℕ → ℕ) (xs : List TermTree) (x : TermTree) → weighted f (xs ++ x ∷ [])
    ≡ weighted f xs + f (length xs) * (term_nodes x - 1)
weighted-last f [] x = omega arith
weighted-last f (y ∷ xs) x = let e = weighted-last (λ j. f (suc j)) xs x in omega (arith, e)

highest-last : (f : ℕ → ℕ) (xs : List TermTree) (x : TermTree) → highest f (xs ++ x ∷ [])
    ≡ max (highest f xs) (deepened (f (length xs)) (term_depth x))
highest-last f [] x = omega arith
highest-last f (y ∷ xs) x = let e = highest-last (λ j. f (suc j)) xs x in omega (arith, e)

length-reversed : (ts : TermTrees) → length (reverse (list_of ts)) ≡ size_of ts
length-reversed ts = length-reverse (list_of ts) ∙ length-list_of ts

weighted-reverse : (f : ℕ → ℕ) (ts : TermTrees) → weighted f (reverse (list_of ts)) ≡ weighted_args f ts
weighted-reverse f no_terms = refl
weighted-reverse f (term_then t ts) =
    let e1 = weighted-reverse f ts in
    let e2 = weighted-last f (reverse (list_of ts)) t in
    let e3 = ap (λ n. f n * (term_nodes t - 1)) (length-reversed ts) in
    ap (weighted f) (reverse-append (t ∷ []) (list_of ts)) ∙ omega (arith, e1, e2, e3)

highest-reverse : (f : ℕ → ℕ) (ts : TermTrees) → highest f (reverse (list_of ts)) ≡ highest_args f ts
highest-reverse f no_terms = refl
highest-reverse f (term_then t ts) =
    let e1 = highest-reverse f ts in
    let e2 = highest-last f (reverse (list_of ts)) t in
    let e3 = ap (λ n. deepened (f n) (term_depth t)) (length-reversed ts) in
    ap (highest f) (reverse-append (t ∷ []) (list_of ts)) ∙ omega (arith, e1, e2, e3)

abbrev pub uses_of : Change → ℕ → ℕ
uses_of (change_rel r by) i = uses_form i by
uses_of (change_fun g by) i = uses_term i by
uses_of (change_const g index) i = 0

abbrev pub reach_of : Change → ℕ → ℕ
reach_of (change_rel r by) i = reach_form i by
reach_of (change_fun g by) i = reach_term i by
reach_of (change_const g index) i = 0

pub places-of : (c : Change) (i : ℕ) → places_of c i ≡ extent (uses_of c i) (reach_of c i)
places-of (change_rel r by) i = places-form by i
places-of (change_fun g by) i = places-term by i
places-of (change_const g index) i = refl

-- the extent of what stands in the symbol's place, with these arguments
abbrev HasExtents : Change → TermTrees → TermTrees → Type 0
HasExtents c ts new =
    (whole : Extent) (a b : ℕ) → 1 ≤ a → whole ≡ extent a b → extent_instance c whole ts
    ≡ extent (a + weighted_args (uses_of c) new) (max b (highest_args (reach_of c) new))

-- places outside of binders, by parameter
zero_by : (f : ℕ → ℕ) (j : ℕ) → f (j + 0) ≡ f j
zero_by f j = let e : j + 0 ≡ j = omega arith in ap f e

pub filled-args : (n d : ℕ) (u r : ℕ → ℕ) (n' d' : ℕ) (new : TermTrees)
    → Filled (reverse (list_of new)) n d (λ j. u (j + 0)) (λ j. r (j + 0)) n' d'
    → extent n' d' ≡ extent (n + weighted_args u new) (max d (highest_args r new))
filled-args n d u r n' d' new h =
    let xs = reverse (list_of new) in
    let e1 = weighted-same (λ j. u (j + 0)) u xs (zero_by u) ∙ weighted-reverse u new in
    let e2 = highest-same (λ j. r (j + 0)) r xs (zero_by r) ∙ highest-reverse r new in
    ap (λ m. extent m d') (h.nodes ∙ ap (λ m. n + m) e1)
    ∙ ap (extent (n + weighted_args u new)) (h.depth ∙ ap (λ m. max d m) e2)

pub form_nodes-positive : (p : FormTree) → 1 ≤ form_nodes p
form_nodes-positive top = omega arith
form_nodes-positive bottom = omega arith
form_nodes-positive (rel r args) = omega arith
form_nodes-positive (equal a b) = omega arith
form_nodes-positive (negation p) = omega arith
form_nodes-positive (conjunction ps) = omega arith
form_nodes-positive (disjunction ps) = omega arith
form_nodes-positive (implication p q) = omega arith
form_nodes-positive (equivalence p q) = omega arith
form_nodes-positive (for_all k p) = omega arith
form_nodes-positive (for_some k p) = omega arith

-- an atom and an application, where the arguments are counted already
extent-atom : (c : Change) (q : ℕ) (args new : TermTrees) → extent_terms c args
    ≡ extent (terms_nodes new) (terms_depth new) → HasExtents c args new
    → extent_form c (rel q args) ≡ extent (form_nodes (rel_instance c q new)) (form_depth (rel_instance c q new))
extent-atom (change_rel r by) q args new plain inside = which (q == r) refl
  where
    which : (b : Bool) → (q == r) ≡ b
        → cond b (extent_instance (change_rel r by) (extent (form_nodes by) (form_depth by)) args)
        (over (extent_terms (change_rel r by) args))
        ≡ extent (form_nodes (cond b (put_form 0 (reverse (list_of new)) by) (rel q new)))
        (form_depth (cond b (put_form 0 (reverse (list_of new)) by) (rel q new)))
    which true e =
        inside (extent (form_nodes by) (form_depth by)) (form_nodes by) (form_depth by) (form_nodes-positive by) refl
        ∙ sym (filled-args _ _ (λ i. uses_form i by) (λ i. reach_form i by) _ _ new
        (filled-form (reverse (list_of new)) by 0))
    which false e = over-one _ _ _ plain
extent-atom (change_fun g by) q args new plain inside = over-one _ _ _ plain
extent-atom (change_const g index) q args new plain inside = over-one _ _ _ plain

extent-application : (c : Change) (d f : ℕ) (args new : TermTrees) → size_of new ≡ size_of args
    → AppTakes c f (size_of new) → extent_terms c args ≡ extent (terms_nodes new) (terms_depth new)
    → HasExtents c args new → extent_term c (app f args)
    ≡ extent (term_nodes (app_instance c d f new)) (term_depth (app_instance c d f new))
extent-application (change_rel r by) d f args new count ready plain inside = over-one _ _ _ plain
extent-application (change_fun g by) d f args new count ready plain inside = which (f == g) refl
  where
    which : (b : Bool) → (f == g) ≡ b
        → cond b (extent_instance (change_fun g by) (extent (term_nodes by) (term_depth by)) args)
        (over (extent_terms (change_fun g by) args))
        ≡ extent (term_nodes (cond b (put_term 0 (reverse (list_of new)) by) (app f new)))
        (term_depth (cond b (put_term 0 (reverse (list_of new)) by) (app f new)))
    which true e =
        inside (extent (term_nodes by) (term_depth by)) (term_nodes by) (term_depth by) (nodes-positive by) refl
        ∙ sym (filled-args _ _ (λ i. uses_term i by) (λ i. reach_term i by) _ _ new
        (filled-term (reverse (list_of new)) by 0))
    which false e = over-one _ _ _ plain
extent-application (change_const g index) d f args new count ready plain inside = which (f == g) refl
  where
    no_arguments : (ts : TermTrees) → size_of ts ≡ 0 → extent_instance (change_const g index) one ts ≡ one
    no_arguments no_terms e = refl
    no_arguments (term_then t ts) e = absurd (omega arith)

    which : (b : Bool) → (f == g) ≡ b → cond b (extent_instance (change_const g index) one args)
        (over (extent_terms (change_const g index) args))
        ≡ extent (term_nodes (cond b (bound (d + index)) (app f new)))
        (term_depth (cond b (bound (d + index)) (app f new)))
    which true e = no_arguments args (sym count ∙ ready (eqb-true f g e))
    which false e = over-one _ _ _ plain

module _ (c : Change) where
  mutual
    pub extent-form : (p : FormTree) (d : ℕ) → ReadyForm c p → extent_form c p
        ≡ extent (form_nodes (changed_form c d p)) (form_depth (changed_form c d p))
    extent-form top d h = refl
    extent-form bottom d h = refl
    extent-form (rel q args) d h =
        extent-atom c q args (changed_terms c d args) (extent-terms args d h.1)
        (λ whole a b. extent-instance args d h.1 whole a b)
    extent-form (equal a b) d h = over-two _ _ _ _ _ _ (extent-term a d h.0) (extent-term b d h.1)
    extent-form (negation p) d h = over-one _ _ _ (extent-form p d h)
    extent-form (conjunction ps) d h = over-one _ _ _ (extent-forms ps d h)
    extent-form (disjunction ps) d h = over-one _ _ _ (extent-forms ps d h)
    extent-form (implication p q) d h = over-two _ _ _ _ _ _ (extent-form p d h.0) (extent-form q d h.1)
    extent-form (equivalence p q) d h = over-two _ _ _ _ _ _ (extent-form p d h.0) (extent-form q d h.1)
    extent-form (for_all k p) d h = over-one _ _ _ (extent-form p (suc d) h)
    extent-form (for_some k p) d h = over-one _ _ _ (extent-form p (suc d) h)

    extent-forms : (ps : FormTrees) (d : ℕ) → ReadyForms c ps → extent_forms c ps
        ≡ extent (forms_nodes (changed_forms c d ps)) (forms_depth (changed_forms c d ps))
    extent-forms no_forms d h = refl
    extent-forms (form_then p ps) d h = both _ _ _ _ _ _ (extent-form p d h.0) (extent-forms ps d h.1)

    extent-term : (t : TermTree) (d : ℕ) → ReadyTerm c t → extent_term c t
        ≡ extent (term_nodes (changed_term c d t)) (term_depth (changed_term c d t))
    extent-term (bound n) d h = refl
    extent-term (app f args) d h =
        extent-application c d f args (changed_terms c d args) (size_of-by (changing c) d args)
        (subst (AppTakes c f) (sym (size_of-by (changing c) d args)) h.0.1) (extent-terms args d h.1)
        (λ whole a b. extent-instance args d h.1 whole a b)
    extent-term (ite p a b) d h =
        over-three _ _ _ _ _ _ _ _ _ (extent-form p d h.0) (extent-term a d h.1) (extent-term b d h.2)

    extent-terms : (ts : TermTrees) (d : ℕ) → ReadyTerms c ts → extent_terms c ts
        ≡ extent (terms_nodes (changed_terms c d ts)) (terms_depth (changed_terms c d ts))
    extent-terms no_terms d h = refl
    extent-terms (term_then t ts) d h = both _ _ _ _ _ _ (extent-term t d h.0) (extent-terms ts d h.1)

    extent-instance : (ts : TermTrees) (d : ℕ) → ReadyTerms c ts → HasExtents c ts (changed_terms c d ts)
    extent-instance no_terms d h whole a b pa is =
        let e1 : a ≡ a + 0 = omega arith in let e2 : b ≡ max b 0 = omega arith in
        is ∙ ap (λ n. extent n b) e1 ∙ ap (λ n. extent (a + 0) n) e2
    extent-instance (term_then t ts) d h whole a b pa is =
        let new = changed_term c d t in
        let i = size_of ts in
        let j = size_of (changed_terms c d ts) in
        let e1 : uses_of c i ≡ uses_of c j = ap (uses_of c) (sym (size_of-by (changing c) d ts)) in
        let e2 : reach_of c i ≡ reach_of c j = ap (reach_of c) (sym (size_of-by (changing c) d ts)) in
        let e3 : put_in whole (places_of c i) (extent_term c t)
        ≡ extent (a + uses_of c j * (term_nodes new - 1)) (max b (deepened (reach_of c j) (term_depth new))) =
        ap (λ z. put_in z (places_of c i) (extent_term c t)) is
        ∙ ap (λ z. put_in (extent a b) z (extent_term c t)) (places-of c i)
        ∙ ap (λ z. put_in (extent a b) (extent (uses_of c i) (reach_of c i)) z) (extent-term t d h.0)
        ∙ ap (λ z. put_in (extent a b) (extent z (reach_of c i)) (extent (term_nodes new) (term_depth new))) e1
        ∙ ap (λ z. put_in (extent a b) (extent (uses_of c j) z) (extent (term_nodes new) (term_depth new))) e2
        ∙ put_in-extent a b (uses_of c j) (reach_of c j) (term_nodes new) (term_depth new) pa (nodes-positive new)
        (depth-positive new) in
        let n = weighted_args (uses_of c) (changed_terms c d ts) in
        let m = highest_args (reach_of c) (changed_terms c d ts) in
        let e4 : a + uses_of c j * (term_nodes new - 1) + n ≡ a + (uses_of c j * (term_nodes new - 1) + n) =
        omega arith in
        let e5 : max (max b (deepened (reach_of c j) (term_depth new))) m
        ≡ max b (max (deepened (reach_of c j) (term_depth new)) m) = omega arith in
        extent-instance ts d h.1 _ (a + uses_of c j * (term_nodes new - 1))
        (max b (deepened (reach_of c j) (term_depth new))) (omega arith) e3
        ∙ ap (λ z. extent z (max (max b (deepened (reach_of c j) (term_depth new))) m)) e4
        ∙ ap (λ z. extent (a + (uses_of c j * (term_nodes new - 1) + n)) z) e5

-- the test of the counts is that of the result
pub over-is-too-large : (p : FormTree) (x : Extent) → x ≡ extent (form_nodes p) (form_depth p)
    → is_over x ≡ is_too_large p
over-is-too-large p x e = ap is_over e ∙ same (form_nodes p) (form_depth p)
  where
    same : (n d : ℕ) → is_over (extent n d) ≡ nat_lt 1000000 n || nat_lt 1000 d
    same n d = grind (arith, nat_tests)

-- what is not too large is small
pub few : (n d : ℕ) → nat_lt 1000000 n || nat_lt 1000 d ≡ false → n ≤ 1000000
few n d h = grind (arith, nat_tests)

pub shallow : (n d : ℕ) → nat_lt 1000000 n || nat_lt 1000 d ≡ false → d ≤ 1000
shallow n d h = grind (arith, nat_tests)

-- counts that did not stop are exact
pub exact_count : (p : FormTree) (x : Extent) → x ≡ extent (form_nodes p) (form_depth p) → is_too_large p ≡ false
    → x.count ≡ form_nodes p
exact_count p x e small = let h = few (form_nodes p) (form_depth p) small in ap (λ z. z.count) e ∙ omega (arith, h)

pub exact_depth : (p : FormTree) (x : Extent) → x ≡ extent (form_nodes p) (form_depth p) → is_too_large p ≡ false
    → x.depth ≡ form_depth p
exact_depth p x e small = let h = shallow (form_nodes p) (form_depth p) small in ap (λ z. z.depth) e ∙ omega (arith, h)

-- what is counted so far, and what is left
abbrev raw : ℕ → ℕ → Extent
raw count depth = record { count = count; depth = depth }

pub none-beside : (x : Extent) → x.count ≤ 1000001 → beside none x ≡ x
none-beside x small =
    let e1 : capped (0 + x.count) ≡ x.count = omega arith in
    let e2 : max 0 x.depth ≡ x.depth = omega arith in
    ap (λ n. raw n (max 0 x.depth)) e1 ∙ ap (raw x.count) e2

pub beside-none : (x : Extent) → x.count ≤ 1000001 → beside x none ≡ x
beside-none x small =
    let e1 : capped (x.count + 0) ≡ x.count = omega arith in
    let e2 : max x.depth 0 ≡ x.depth = omega arith in
    ap (λ n. raw n (max x.depth 0)) e1 ∙ ap (raw x.count) e2

pub places_forms-small : (i : ℕ) (ps : FormTrees) → (places_forms i ps).count ≤ 1000001
places_forms-small i no_forms = omega arith
places_forms-small i (form_then p ps) = omega arith

pub places_terms-small : (i : ℕ) (ts : TermTrees) → (places_terms i ts).count ≤ 1000001
places_terms-small i no_terms = omega arith
places_terms-small i (term_then t ts) = omega arith

pub extent_forms-small : (c : Change) (ps : FormTrees) → (extent_forms c ps).count ≤ 1000001
extent_forms-small c no_forms = omega arith
extent_forms-small c (form_then p ps) = omega arith

pub extent_terms-small : (c : Change) (ts : TermTrees) → (extent_terms c ts).count ≤ 1000001
extent_terms-small c no_terms = omega arith
extent_terms-small c (term_then t ts) = omega arith

pub extent-saturated : (n d : ℕ) → extent (min n (2 ^ 64 - 1)) (min d (2 ^ 64 - 1)) ≡ extent n d
extent-saturated n d =
    let e1 : capped (min n (2 ^ 64 - 1)) ≡ capped n = omega arith in
    let e2 : capped (min d (2 ^ 64 - 1)) ≡ capped d = omega arith in
    cc (e1, e2)
