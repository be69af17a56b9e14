-- How large a formula is that is shifted, or where arguments stand in the place of parameters.
use Rattle.std.proofs.Common.{◌≡◌, ℕ, zero, suc, ◌+◌, ◌-◌, ◌*◌, ◌<◌, ◌≤◌, ◌==◌, cond, max, List, [], ◌∷◌, length}
use Rattle.std.proofs.Common.{get_or, Bool, true, false, refl, sym, ap, ◌∙◌, subst, ⊎_elim, arith}
use Rattle.std.proofs.lemmas.Bool.{cases_lt, eq-eqb, eqb-true, ne_eqb}
use Rattle.std.proofs.Math.Nat.{add-mul}
use Rattle.fol_formula.specs.Syntax.{FormTree, FormTrees, TermTree, TermTrees, top, bottom, rel, equal, negation}
use Rattle.fol_formula.specs.Syntax.{conjunction, disjunction, implication, equivalence, for_all, for_some, no_forms}
use Rattle.fol_formula.specs.Syntax.{form_then, bound, app, ite, no_terms, term_then, size_of}
use Rattle.fol_formula.specs.Counts.{form_nodes, forms_nodes, term_nodes, terms_nodes, form_depth, forms_depth}
use Rattle.fol_formula.specs.Counts.{term_depth, terms_depth}
use Rattle.fol_subst.specs.Rules.{Rules, form_by, forms_by, term_by, terms_by, EachForm, EachForms, EachTerm, EachTerms}
use Rattle.fol_subst.specs.Shift.{shifting, shift_form, shift_term}
use Rattle.fol_subst.specs.Replace.{picked, put_form, put_forms, put_term, put_terms, change_const, changing}
use Rattle.fol_subst.specs.Replace.{changed_form}
use Rattle.fol_subst.specs.Room.{RelReady, AppReady, ReadyForm}
use Rattle.fol_subst.proofs.Truth.{argument, picked-below, picked-above, size_of-by, Any, any-form, any-term}

-- these nodes and this depth are those
pub record Same (n d n' d' : ℕ) : Type 0 where
  pub nodes : n ≡ n'
  pub depth : d ≡ d'

followed : {n d n' d' m e : ℕ} → Same n d n' d' → Same n' d' m e → Same n d m e
followed x y = record { nodes = x.nodes ∙ y.nodes; depth = x.depth ∙ y.depth }

over : {n d n' d' : ℕ} → Same n d n' d' → Same (n + 1) (d + 1) (n' + 1) (d' + 1)
over x = record { nodes = ap (λ z. z + 1) x.nodes; depth = ap (λ z. z + 1) x.depth }

beside : {n d n' d' m e m' e' : ℕ} → Same n d n' d' → Same m e m' e' → Same (n + m) (max d e) (n' + m') (max d' e')
beside {n' = n'} {d' = d'} {m = m} {e = e} x y = record {
  nodes = ap (λ z. z + m) x.nodes ∙ ap (λ z. n' + z) y.nodes;
  depth = ap (λ z. max z e) x.depth ∙ ap (λ z. max d' z) y.depth;
}

-- rules that keep nodes and depth
pub record KeepsSize (rules : Rules) (R F : ℕ → ℕ → Type 0) : Type 0 where
  pub index : (depth i : ℕ) → Same (term_nodes (rules.index depth i)) (term_depth (rules.index depth i)) 1 1
  pub relation : (q : ℕ) (args : TermTrees) → R q (size_of args)
      → Same (form_nodes (rules.relation q args)) (form_depth (rules.relation q args)) (terms_nodes args + 1)
      (terms_depth args + 1)
  pub function : (depth f : ℕ) (args : TermTrees) → F f (size_of args)
      → Same (term_nodes (rules.function depth f args)) (term_depth (rules.function depth f args))
      (terms_nodes args + 1) (terms_depth args + 1)

module _ (rules : Rules) (R F : ℕ → ℕ → Type 0) (keeps : KeepsSize rules R F) where
  mutual
    pub size-by : (p : FormTree) (depth : ℕ) → EachForm R F p
        → Same (form_nodes (form_by rules depth p)) (form_depth (form_by rules depth p)) (form_nodes p) (form_depth p)
    size-by top depth h = record { nodes = refl; depth = refl }
    size-by bottom depth h = record { nodes = refl; depth = refl }
    size-by (rel q args) depth h =
        followed (keeps.relation q (terms_by rules depth args) (subst (R q) (sym (size_of-by rules depth args)) h.0))
        (over (size_terms-by args depth h.1))
    size-by (equal a b) depth h = over (beside (size_term-by a depth h.0) (size_term-by b depth h.1))
    size-by (negation p) depth h = over (size-by p depth h)
    size-by (conjunction ps) depth h = over (size_forms-by ps depth h)
    size-by (disjunction ps) depth h = over (size_forms-by ps depth h)
    size-by (implication p q) depth h = over (beside (size-by p depth h.0) (size-by q depth h.1))
    size-by (equivalence p q) depth h = over (beside (size-by p depth h.0) (size-by q depth h.1))
    size-by (for_all k p) depth h = over (size-by p (suc depth) h)
    size-by (for_some k p) depth h = over (size-by p (suc depth) h)

    size_forms-by : (ps : FormTrees) (depth : ℕ) → EachForms R F ps
        → Same (forms_nodes (forms_by rules depth ps)) (forms_depth (forms_by rules depth ps)) (forms_nodes ps)
        (forms_depth ps)
    size_forms-by no_forms depth h = record { nodes = refl; depth = refl }
    size_forms-by (form_then p ps) depth h = beside (size-by p depth h.0) (size_forms-by ps depth h.1)

    pub size_term-by : (t : TermTree) (depth : ℕ) → EachTerm R F t
        → Same (term_nodes (term_by rules depth t)) (term_depth (term_by rules depth t)) (term_nodes t) (term_depth t)
    size_term-by (bound i) depth h = keeps.index depth i
    size_term-by (app f args) depth h =
        followed (keeps.function depth f (terms_by rules depth args)
        (subst (F f) (sym (size_of-by rules depth args)) h.0)) (over (size_terms-by args depth h.1))
    size_term-by (ite p a b) depth h =
        let x = size-by p depth h.0 in
        let y = beside (size_term-by a depth h.1) (size_term-by b depth h.2) in
        record {
          nodes = let e = x.nodes in let e' = y.nodes in
              omega (arith, e, e');
          depth = (over (beside x y)).depth;
        }

    size_terms-by : (ts : TermTrees) (depth : ℕ) → EachTerms R F ts
        → Same (terms_nodes (terms_by rules depth ts)) (terms_depth (terms_by rules depth ts)) (terms_nodes ts)
        (terms_depth ts)
    size_terms-by no_terms depth h = record { nodes = refl; depth = refl }
    size_terms-by (term_then t ts) depth h = beside (size_term-by t depth h.0) (size_terms-by ts depth h.1)

same : (n d : ℕ) → Same n d n d
same n d = record { nodes = refl; depth = refl }

shift_keeps : (by : ℕ) → KeepsSize (shifting by) Any Any
shift_keeps by = record {
  index = λ depth i. same 1 1;
  relation = λ q args h. same (terms_nodes args + 1) (terms_depth args + 1);
  function = λ depth f args h. same (terms_nodes args + 1) (terms_depth args + 1);
}

pub size-shifted : (p : FormTree) (from by : ℕ)
    → Same (form_nodes (shift_form from by p)) (form_depth (shift_form from by p)) (form_nodes p) (form_depth p)
size-shifted p from by = size-by (shifting by) Any Any (shift_keeps by) p from (any-form p)

size_term-shifted : (t : TermTree) (from by : ℕ)
    → Same (term_nodes (shift_term from by t)) (term_depth (shift_term from by t)) (term_nodes t) (term_depth t)
size_term-shifted t from by = size_term-by (shifting by) Any Any (shift_keeps by) t from (any-term t)

-- a bound variable in the place of a program variable
index_keeps : (g index : ℕ) → KeepsSize (changing (change_const g index)) (RelReady (change_const g index))
    (AppReady (change_const g index))
index_keeps g index = record {
  index = λ depth i. same 1 1;
  relation = λ q args h. same (terms_nodes args + 1) (terms_depth args + 1);
  function = λ depth f args h. which depth f args (f == g) refl h.1;
}
  where
    none : (args : TermTrees) → size_of args ≡ 0 → Same 1 1 (terms_nodes args + 1) (terms_depth args + 1)
    none no_terms e = same 1 1
    none (term_then t ts) e = absurd (omega arith)

    which : (depth f : ℕ) (args : TermTrees) (b : Bool) → (f == g) ≡ b → (f ≡ g → size_of args ≡ 0)
        → Same (term_nodes (cond b (bound (depth + index)) (app f args)))
        (term_depth (cond b (bound (depth + index)) (app f args))) (terms_nodes args + 1) (terms_depth args + 1)
    which depth f args true e h = none args (h (eqb-true f g e))
    which depth f args false e h = same (terms_nodes args + 1) (terms_depth args + 1)

pub size-index : (g index : ℕ) (p : FormTree) → ReadyForm (change_const g index) p
    → Same (form_nodes (changed_form (change_const g index) 0 p)) (form_depth (changed_form (change_const g index) 0 p))
    (form_nodes p) (form_depth p)
size-index g index p h =
    size-by (changing (change_const g index)) (RelReady (change_const g index)) (AppReady (change_const g index))
    (index_keeps g index) p 0 h

pub nodes-positive : (t : TermTree) → 1 ≤ term_nodes t
nodes-positive (bound i) = omega arith
nodes-positive (app f args) = omega arith
nodes-positive (ite p a b) = omega arith

pub depth-positive : (t : TermTree) → 1 ≤ term_depth t
depth-positive (bound i) = omega arith
depth-positive (app f args) = omega arith
depth-positive (ite p a b) = omega arith

-- the number of places of an index, which has the next number under a binder
abbrev mutual
  pub uses_form : ℕ → FormTree → ℕ
  uses_form i top = 0
  uses_form i bottom = 0
  uses_form i (rel r args) = uses_terms i args
  uses_form i (equal a b) = uses_term i a + uses_term i b
  uses_form i (negation p) = uses_form i p
  uses_form i (conjunction ps) = uses_forms i ps
  uses_form i (disjunction ps) = uses_forms i ps
  uses_form i (implication p q) = uses_form i p + uses_form i q
  uses_form i (equivalence p q) = uses_form i p + uses_form i q
  uses_form i (for_all k p) = uses_form (suc i) p
  uses_form i (for_some k p) = uses_form (suc i) p

  pub uses_forms : ℕ → FormTrees → ℕ
  uses_forms i no_forms = 0
  uses_forms i (form_then p ps) = uses_form i p + uses_forms i ps

  pub uses_term : ℕ → TermTree → ℕ
  uses_term i (bound n) = cond (n == i) 1 0
  uses_term i (app f args) = uses_terms i args
  uses_term i (ite p a b) = uses_form i p + (uses_term i a + uses_term i b)

  pub uses_terms : ℕ → TermTrees → ℕ
  uses_terms i no_terms = 0
  uses_terms i (term_then t ts) = uses_term i t + uses_terms i ts

-- one level further down, where there is any
abbrev pub below : ℕ → ℕ
below zero = zero
below (suc n) = suc (suc n)

-- at which level the deepest place of an index lies, or 0
abbrev mutual
  pub reach_form : ℕ → FormTree → ℕ
  reach_form i top = 0
  reach_form i bottom = 0
  reach_form i (rel r args) = below (reach_terms i args)
  reach_form i (equal a b) = below (max (reach_term i a) (reach_term i b))
  reach_form i (negation p) = below (reach_form i p)
  reach_form i (conjunction ps) = below (reach_forms i ps)
  reach_form i (disjunction ps) = below (reach_forms i ps)
  reach_form i (implication p q) = below (max (reach_form i p) (reach_form i q))
  reach_form i (equivalence p q) = below (max (reach_form i p) (reach_form i q))
  reach_form i (for_all k p) = below (reach_form (suc i) p)
  reach_form i (for_some k p) = below (reach_form (suc i) p)

  pub reach_forms : ℕ → FormTrees → ℕ
  reach_forms i no_forms = 0
  reach_forms i (form_then p ps) = max (reach_form i p) (reach_forms i ps)

  pub reach_term : ℕ → TermTree → ℕ
  reach_term i (bound n) = cond (n == i) 1 0
  reach_term i (app f args) = below (reach_terms i args)
  reach_term i (ite p a b) = below (max (reach_form i p) (max (reach_term i a) (reach_term i b)))

  pub reach_terms : ℕ → TermTrees → ℕ
  reach_terms i no_terms = 0
  reach_terms i (term_then t ts) = max (reach_term i t) (reach_terms i ts)

-- the nodes that the arguments add, where argument j has f j places
abbrev pub weighted : (ℕ → ℕ) → List TermTree → ℕ
weighted f [] = 0
weighted f (x ∷ xs) = f 0 * (term_nodes x - 1) + weighted (λ j. f (suc j)) xs

pub weighted-same : (f g : ℕ → ℕ) (xs : List TermTree) → ((j : ℕ) → f j ≡ g j) → weighted f xs ≡ weighted g xs
weighted-same f g [] h = refl
weighted-same f g (x ∷ xs) h =
    let e1 = weighted-same (λ j. f (suc j)) (λ j. g (suc j)) xs (λ j. h (suc j)) in let e2 = h 0 in cc (e1, e2)

weighted-none : (f : ℕ → ℕ) (xs : List TermTree) → ((j : ℕ) → f j ≡ 0) → weighted f xs ≡ 0
weighted-none f [] h = refl
weighted-none f (x ∷ xs) h =
    let e1 = weighted-none (λ j. f (suc j)) xs (λ j. h (suc j)) in rw (h 0) (omega (arith, e1))

weighted-add : (f g : ℕ → ℕ) (xs : List TermTree) → weighted (λ j. f j + g j) xs ≡ weighted f xs + weighted g xs
weighted-add f g [] = refl
weighted-add f g (x ∷ xs) =
    let e1 = weighted-add (λ j. f (suc j)) (λ j. g (suc j)) xs in let e2 = add-mul (f 0) (g 0) (term_nodes x - 1) in
    omega (arith, e1, e2)

-- one place of the argument i, and none of the others
weighted-one : (f : ℕ → ℕ) (xs : List TermTree) (i n : ℕ) → f i ≡ 1 → ((j : ℕ) → (j ≡ i → ⊥) → f j ≡ 0)
    → weighted f xs + 1 ≡ term_nodes (get_or xs i (bound n))
weighted-one f [] i n one others = refl
weighted-one f (x ∷ xs) zero n one others =
    let e1 = weighted-none (λ j. f (suc j)) xs (λ j. others (suc j) (λ e. absurd (omega arith))) in
    let e2 = nodes-positive x in
    rw one (omega (arith, e1, e2))
weighted-one f (x ∷ xs) (suc i) n one others =
    let e1 = weighted-one (λ j. f (suc j)) xs i n one (λ j m. others (suc j) (λ e. m (omega arith))) in
    let e2 = others 0 (λ e. absurd (omega arith)) in
    rw e2 (omega (arith, e1))

-- how deep an argument makes it, where its deepest place lies at level r
abbrev pub deepened : ℕ → ℕ → ℕ
deepened zero d = 0
deepened (suc n) d = n + d

abbrev pub highest : (ℕ → ℕ) → List TermTree → ℕ
highest f [] = 0
highest f (x ∷ xs) = max (deepened (f 0) (term_depth x)) (highest (λ j. f (suc j)) xs)

pub highest-same : (f g : ℕ → ℕ) (xs : List TermTree) → ((j : ℕ) → f j ≡ g j) → highest f xs ≡ highest g xs
highest-same f g [] h = refl
highest-same f g (x ∷ xs) h =
    let e1 = highest-same (λ j. f (suc j)) (λ j. g (suc j)) xs (λ j. h (suc j)) in let e2 = h 0 in cc (e1, e2)

highest-none : (f : ℕ → ℕ) (xs : List TermTree) → ((j : ℕ) → f j ≡ 0) → highest f xs ≡ 0
highest-none f [] h = refl
highest-none f (x ∷ xs) h =
    let e1 = highest-none (λ j. f (suc j)) xs (λ j. h (suc j)) in rw (h 0) (omega (arith, e1))

deepened-max : (a b d : ℕ) → deepened (max a b) d ≡ max (deepened a d) (deepened b d)
deepened-max zero zero d = refl
deepened-max zero (suc b) d =
    let e : max zero (suc b) ≡ suc b = omega arith in ap (λ m. deepened m d) e ∙ omega arith
deepened-max (suc a) zero d =
    let e : max (suc a) zero ≡ suc a = omega arith in ap (λ m. deepened m d) e ∙ omega arith
deepened-max (suc a) (suc b) d =
    let e : max (suc a) (suc b) ≡ suc (max a b) = omega arith in ap (λ m. deepened m d) e ∙ omega arith

highest-max : (f g : ℕ → ℕ) (xs : List TermTree) → highest (λ j. max (f j) (g j)) xs ≡ max (highest f xs) (highest g xs)
highest-max f g [] = refl
highest-max f g (x ∷ xs) =
    let e1 = highest-max (λ j. f (suc j)) (λ j. g (suc j)) xs in let e2 = deepened-max (f 0) (g 0) (term_depth x) in
    omega (arith, e1, e2)

below-first : (y r d u v : ℕ) → max (y + 1) u ≡ max y v + 1 → max (y + 1) (max (deepened (below r) d) u)
    ≡ max y (max (deepened r d) v) + 1
below-first y zero d u v e = omega (arith, e)
below-first y (suc n) d u v e = omega (arith, e)

highest-below : (y : ℕ) (f : ℕ → ℕ) (xs : List TermTree) → max (y + 1) (highest (λ j. below (f j)) xs)
    ≡ max y (highest f xs) + 1
highest-below y f [] = omega arith
highest-below y f (x ∷ xs) =
    below-first y (f 0) (term_depth x) (highest (λ j. below (f (suc j))) xs) (highest (λ j. f (suc j)) xs)
    (highest-below y (λ j. f (suc j)) xs)

highest-one : (f : ℕ → ℕ) (xs : List TermTree) (i n : ℕ) → f i ≡ 1 → ((j : ℕ) → (j ≡ i → ⊥) → f j ≡ 0)
    → max 1 (highest f xs) ≡ term_depth (get_or xs i (bound n))
highest-one f [] i n one others = refl
highest-one f (x ∷ xs) zero n one others =
    let e1 = highest-none (λ j. f (suc j)) xs (λ j. others (suc j) (λ e. absurd (omega arith))) in
    let e2 = depth-positive x in
    rw one (omega (arith, e1, e2))
highest-one f (x ∷ xs) (suc i) n one others =
    let e1 = highest-one (λ j. f (suc j)) xs i n one (λ j m. others (suc j) (λ e. m (omega arith))) in
    let e2 = others 0 (λ e. absurd (omega arith)) in
    rw e2 (omega (arith, e1))

-- under one more binder
pub under_suc : (j e : ℕ) → suc (j + e) ≡ j + suc e
under_suc j e = omega arith

module _ (xs : List TermTree) (i e : ℕ) where
  abbrev place : ℕ → ℕ
  place j = cond (i == j + e) 1 0

  elsewhere : (j : ℕ) → (i ≡ j + e → ⊥) → place j ≡ 0
  elsewhere j other = rw (ne_eqb i (j + e) other) refl

  here : e ≤ i → place (i - e) ≡ 1
  here above = rw (eq-eqb i (i - e + e) (omega arith)) refl

  index-nodes : term_nodes (picked e xs i) ≡ 1 + weighted place xs
  index-nodes =
      ⊎_elim
      (λ (l : i < e). let none = weighted-none place xs (λ j. elsewhere j (λ is. absurd (omega arith))) in
      ap term_nodes (picked-below e xs i l) ∙ omega (arith, none))
      (λ (l : e ≤ i).
      let one = weighted-one place xs (i - e) (i - e - length xs) (here l)
      (λ j other. elsewhere j (λ is. other (omega arith))) in
      ap term_nodes (picked-above e xs i l) ∙ (size_term-shifted (argument xs (i - e)) 0 e).nodes ∙ omega (arith, one))
      (cases_lt i e)

  index-depth : term_depth (picked e xs i) ≡ max 1 (highest place xs)
  index-depth =
      ⊎_elim
      (λ (l : i < e). let none = highest-none place xs (λ j. elsewhere j (λ is. absurd (omega arith))) in
      ap term_depth (picked-below e xs i l) ∙ omega (arith, none))
      (λ (l : e ≤ i).
      let one = highest-one place xs (i - e) (i - e - length xs) (here l)
      (λ j other. elsewhere j (λ is. other (omega arith))) in
      ap term_depth (picked-above e xs i l) ∙ (size_term-shifted (argument xs (i - e)) 0 e).depth ∙ sym one)
      (cases_lt i e)

-- a tree of this size where places of it, so many and so deep of each argument, hold the arguments
pub record Filled (xs : List TermTree) (n d : ℕ) (uses reach : ℕ → ℕ) (n' d' : ℕ) : Type 0 where
  pub nodes : n' ≡ n + weighted uses xs
  pub depth : d' ≡ max d (highest reach xs)

module _ (xs : List TermTree) where
  none_filled : (n d : ℕ) → Filled xs n d (λ j. 0) (λ j. 0) n d
  none_filled n d =
      let e1 = weighted-none (λ j. 0) xs (λ j. refl) in
      let e2 = highest-none (λ j. 0) xs (λ j. refl) in
      record { nodes = omega (arith, e1); depth = omega (arith, e2) }

  over_filled : {n d : ℕ} {u r : ℕ → ℕ} {n' d' : ℕ} → Filled xs n d u r n' d'
      → Filled xs (n + 1) (d + 1) u (λ j. below (r j)) (n' + 1) (d' + 1)
  over_filled {d = d} {r = r} h =
      let e1 = h.nodes in
      let e2 = h.depth in
      let e3 = highest-below d r xs in
      record { nodes = omega (arith, e1); depth = omega (arith, e2, e3) }

  both_filled : {n d : ℕ} {u r : ℕ → ℕ} {n' d' m e : ℕ} {v s : ℕ → ℕ} {m' e' : ℕ} → Filled xs n d u r n' d'
      → Filled xs m e v s m' e' → Filled xs (n + m) (max d e) (λ j. u j + v j) (λ j. max (r j) (s j)) (n' + m')
      (max d' e')
  both_filled {u = u} {r = r} {v = v} {s = s} h g =
      let e1 = h.nodes in
      let e2 = g.nodes in
      let e3 = weighted-add u v xs in
      let e4 = h.depth in
      let e5 = g.depth in
      let e6 = highest-max r s xs in
      record { nodes = omega (arith, e1, e2, e3); depth = omega (arith, e4, e5, e6) }

  renamed : (n d : ℕ) (u v r s : ℕ → ℕ) (n' d' : ℕ) → ((j : ℕ) → u j ≡ v j) → ((j : ℕ) → r j ≡ s j)
      → Filled xs n d v s n' d' → Filled xs n d u r n' d'
  renamed n d u v r s n' d' same same' h = record {
    nodes = h.nodes ∙ ap (λ z. n + z) (sym (weighted-same u v xs same));
    depth = h.depth ∙ ap (λ z. max d z) (sym (highest-same r s xs same'));
  }

  mutual
    pub filled-form : (p : FormTree) (e : ℕ) → Filled xs (form_nodes p) (form_depth p) (λ j. uses_form (j + e) p)
        (λ j. reach_form (j + e) p) (form_nodes (put_form e xs p)) (form_depth (put_form e xs p))
    filled-form top e = none_filled 1 1
    filled-form bottom e = none_filled 1 1
    filled-form (rel r ts) e = over_filled (filled-terms ts e)
    filled-form (equal a b) e = over_filled (both_filled (filled-term a e) (filled-term b e))
    filled-form (negation p) e = over_filled (filled-form p e)
    filled-form (conjunction ps) e = over_filled (filled-forms ps e)
    filled-form (disjunction ps) e = over_filled (filled-forms ps e)
    filled-form (implication p q) e = over_filled (both_filled (filled-form p e) (filled-form q e))
    filled-form (equivalence p q) e = over_filled (both_filled (filled-form p e) (filled-form q e))
    filled-form (for_all k p) e =
        over_filled (renamed _ _ _ _ _ _ _ _ (λ j. ap (λ m. uses_form m p) (under_suc j e))
        (λ j. ap (λ m. reach_form m p) (under_suc j e)) (filled-form p (suc e)))
    filled-form (for_some k p) e =
        over_filled (renamed _ _ _ _ _ _ _ _ (λ j. ap (λ m. uses_form m p) (under_suc j e))
        (λ j. ap (λ m. reach_form m p) (under_suc j e)) (filled-form p (suc e)))

    filled-forms : (ps : FormTrees) (e : ℕ) → Filled xs (forms_nodes ps) (forms_depth ps) (λ j. uses_forms (j + e) ps)
        (λ j. reach_forms (j + e) ps) (forms_nodes (put_forms e xs ps)) (forms_depth (put_forms e xs ps))
    filled-forms no_forms e = none_filled 0 0
    filled-forms (form_then p ps) e = both_filled (filled-form p e) (filled-forms ps e)

    pub filled-term : (t : TermTree) (e : ℕ) → Filled xs (term_nodes t) (term_depth t) (λ j. uses_term (j + e) t)
        (λ j. reach_term (j + e) t) (term_nodes (put_term e xs t)) (term_depth (put_term e xs t))
    filled-term (bound i) e = record { nodes = index-nodes xs i e; depth = index-depth xs i e }
    filled-term (app f ts) e = over_filled (filled-terms ts e)
    filled-term (ite p a b) e =
        let h = over_filled (both_filled (filled-form p e) (both_filled (filled-term a e) (filled-term b e))) in
        let e1 = h.nodes in
        record { nodes = omega (arith, e1); depth = h.depth }

    filled-terms : (ts : TermTrees) (e : ℕ) → Filled xs (terms_nodes ts) (terms_depth ts) (λ j. uses_terms (j + e) ts)
        (λ j. reach_terms (j + e) ts) (terms_nodes (put_terms e xs ts)) (terms_depth (put_terms e xs ts))
    filled-terms no_terms e = none_filled 0 0
    filled-terms (term_then t ts) e = both_filled (filled-term t e) (filled-terms ts e)
