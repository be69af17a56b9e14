-- The truth of a formula that rules change, and so of what is shifted, put in and replaced.
use Rattle.std.proofs.Common.{◌≡◌, ℕ, zero, suc, ◌+◌, ◌-◌, ◌<◌, ◌≤◌, Bool, true, false, not, ◌==◌, cond, List, [], ◌∷◌}
use Rattle.std.proofs.Common.{◌++◌, length, get_or, map, refl, sym, ap, ◌∙◌, subst, ⊎_elim, arith}
use Rattle.std.specs.Prelude.{reverse}
use Rattle.std.proofs.lemmas.Bool.{cases_lt, lt-ltb, le-ltb, eqb-true}
use Rattle.std.proofs.lemmas.List.{get_or_append_left, get_or-append_right, get_or-append-add, reverse-append}
use Rattle.std.proofs.lemmas.List.{map-append, length-reverse, length-map}
use Rattle.fol_sig.specs.Tables.{Reading}
use Rattle.fol_formula.specs.Syntax.{FormTree, FormTrees, TermTree, TermTrees, top, bottom, rel, equal, negation}
use Rattle.fol_formula.specs.Syntax.{conjunction, disjunction, implication, equivalence, for_all, for_some, no_forms}
use Rattle.fol_formula.specs.Syntax.{form_then, bound, app, ite, no_terms, term_then, list_of, size_of}
use Rattle.fol_formula.specs.Truth.{truth, all_true, any_true, value, values}
use Rattle.fol_formula.specs.Fits.{BoundForm, BoundTerm}
use Rattle.fol_formula.specs.Quantified.{AllBelow, AnyBelow}
use Rattle.fol_formula.specs.Lists.{RowsAreLists}
use Rattle.fol_formula.specs.Closed.{TruthReadsNoMore, ValueReadsNoMore}
use Rattle.fol_subst.specs.Rules.{Rules, form_by, forms_by, term_by, terms_by, EachForm, EachForms, EachTerm, EachTerms}
use Rattle.fol_subst.specs.Shift.{raised, shifting, shift_form, shift_term}
use Rattle.fol_subst.specs.Replace.{picked, putting, put_form, put_term, Change, change_rel, change_fun, change_const}
use Rattle.fol_subst.specs.Replace.{changing, changed_form, updated}
use Rattle.fol_subst.specs.Room.{RelReady, AppReady, ReadyForm}

pub size_of-by : (rules : Rules) (depth : ℕ) (ts : TermTrees) → size_of (terms_by rules depth ts) ≡ size_of ts
size_of-by rules depth no_terms = refl
size_of-by rules depth (term_then t ts) = ap suc (size_of-by rules depth ts)

-- Before the elements `env` the rules make in a structure what was there before the elements `was` in an old one.
pub record KeepsTruth (rules : Rules) (R F : ℕ → ℕ → Type 0) (s old : Reading) (env was : List ℕ) : Type 0 where
  pub size : (k : ℕ) → s.size k ≡ old.size k
  pub index : (i : ℕ) (front : List ℕ) → value s (rules.index (length front) i) (front ++ env)
      ≡ get_or (front ++ was) i 0
  pub relation : (q : ℕ) (args : TermTrees) (xs front : List ℕ) → R q (size_of args) → values s args (front ++ env) ≡ xs
      → truth s (rules.relation q args) (front ++ env) ≡ old.rel q xs
  pub function : (f : ℕ) (args : TermTrees) (xs front : List ℕ) → F f (size_of args) → values s args (front ++ env) ≡ xs
      → value s (rules.function (length front) f args) (front ++ env) ≡ old.fun f xs

module _ (all : AllBelow) (any : AnyBelow) (rules : Rules) (R F : ℕ → ℕ → Type 0) (s old : Reading) (env was : List ℕ)
    (keeps : KeepsTruth rules R F s old env was) where
  mutual
    pub truth-by : (p : FormTree) (front : List ℕ) → EachForm R F p
        → truth s (form_by rules (length front) p) (front ++ env) ≡ truth old p (front ++ was)
    truth-by top front h = refl
    truth-by bottom front h = refl
    truth-by (rel q args) front h =
        keeps.relation q (terms_by rules (length front) args) _ front
        (subst (R q) (sym (size_of-by rules (length front) args)) h.0) (values-by args front h.1)
    truth-by (equal a b) front h = let e1 = value-by a front h.0 in let e2 = value-by b front h.1 in cc (e1, e2)
    truth-by (negation p) front h = ap not (truth-by p front h)
    truth-by (conjunction ps) front h = all_true-by ps front h
    truth-by (disjunction ps) front h = any_true-by ps front h
    truth-by (implication p q) front h = let e1 = truth-by p front h.0 in let e2 = truth-by q front h.1 in cc (e1, e2)
    truth-by (equivalence p q) front h = let e1 = truth-by p front h.0 in let e2 = truth-by q front h.1 in cc (e1, e2)
    truth-by (for_all k p) front h =
        all.same (s.size k) (old.size k) _ _ (keeps.size k) (λ x lt. truth-by p (x ∷ front) h)
    truth-by (for_some k p) front h =
        any.same (s.size k) (old.size k) _ _ (keeps.size k) (λ x lt. truth-by p (x ∷ front) h)

    all_true-by : (ps : FormTrees) (front : List ℕ) → EachForms R F ps
        → all_true s (forms_by rules (length front) ps) (front ++ env) ≡ all_true old ps (front ++ was)
    all_true-by no_forms front h = refl
    all_true-by (form_then p ps) front h = let e1 = truth-by p front h.0 in let e2 = all_true-by ps front h.1 in
        cc (e1, e2)

    any_true-by : (ps : FormTrees) (front : List ℕ) → EachForms R F ps
        → any_true s (forms_by rules (length front) ps) (front ++ env) ≡ any_true old ps (front ++ was)
    any_true-by no_forms front h = refl
    any_true-by (form_then p ps) front h = let e1 = truth-by p front h.0 in let e2 = any_true-by ps front h.1 in
        cc (e1, e2)

    pub value-by : (t : TermTree) (front : List ℕ) → EachTerm R F t
        → value s (term_by rules (length front) t) (front ++ env) ≡ value old t (front ++ was)
    value-by (bound i) front h = keeps.index i front
    value-by (app f args) front h =
        keeps.function f (terms_by rules (length front) args) _ front
        (subst (F f) (sym (size_of-by rules (length front) args)) h.0) (values-by args front h.1)
    value-by (ite p a b) front h = let e1 = truth-by p front h.0 in let e2 = value-by a front h.1 in
        let e3 = value-by b front h.2 in cc (e1, e2, e3)

    values-by : (ts : TermTrees) (front : List ℕ) → EachTerms R F ts
        → values s (terms_by rules (length front) ts) (front ++ env) ≡ values old ts (front ++ was)
    values-by no_terms front h = refl
    values-by (term_then t ts) front h = let e1 = value-by t front h.0 in let e2 = values-by ts front h.1 in cc (e1, e2)

-- any number of arguments
abbrev pub Any : ℕ → ℕ → Type 0
Any q n = Unit {0}

mutual
  pub any-form : (p : FormTree) → EachForm Any Any p
  any-form top = tt
  any-form bottom = tt
  any-form (rel q args) = (tt, any-terms args)
  any-form (equal a b) = (any-term a, any-term b)
  any-form (negation p) = any-form p
  any-form (conjunction ps) = any-forms ps
  any-form (disjunction ps) = any-forms ps
  any-form (implication p q) = (any-form p, any-form q)
  any-form (equivalence p q) = (any-form p, any-form q)
  any-form (for_all k p) = any-form p
  any-form (for_some k p) = any-form p

  any-forms : (ps : FormTrees) → EachForms Any Any ps
  any-forms no_forms = tt
  any-forms (form_then p ps) = (any-form p, any-forms ps)

  pub any-term : (t : TermTree) → EachTerm Any Any t
  any-term (bound i) = tt
  any-term (app f args) = (tt, any-terms args)
  any-term (ite p a b) = (any-form p, any-term a, any-term b)

  any-terms : (ts : TermTrees) → EachTerms Any Any ts
  any-terms no_terms = tt
  any-terms (term_then t ts) = (any-term t, any-terms ts)

-- elements are put into the list
pub raised-below : (from by i : ℕ) → i < from → raised from by i ≡ i
raised-below from by i h = rw (lt-ltb i from h) refl

pub raised-above : (from by i : ℕ) → from ≤ i → raised from by i ≡ i + by
raised-above from by i h = rw (le-ltb i from h) refl

pub get_or-raised : (front mid back : List ℕ) (i : ℕ)
    → get_or (front ++ (mid ++ back)) (raised (length front) (length mid) i) 0 ≡ get_or (front ++ back) i 0
get_or-raised front mid back i =
    ⊎_elim
    (λ below. ap (λ j. get_or (front ++ (mid ++ back)) j 0) (raised-below (length front) (length mid) i below)
    ∙ get_or_append_left front (mid ++ back) 0 i below ∙ sym (get_or_append_left front back 0 i below))
    (λ above.
    let k = i - length front in
    let e : i + length mid ≡ length front + (length mid + k) = omega arith in
    let e' : i ≡ length front + k = omega arith in
    ap (λ j. get_or (front ++ (mid ++ back)) j 0) (raised-above (length front) (length mid) i above ∙ e)
    ∙ get_or-append-add front (mid ++ back) (length mid + k) 0
    ∙ get_or-append-add mid back k 0
    ∙ sym (ap (λ j. get_or (front ++ back) j 0) e' ∙ get_or-append-add front back k 0))
    (cases_lt i (length front))

shift_keeps : (s : Reading) (mid back : List ℕ) → KeepsTruth (shifting (length mid)) Any Any s s (mid ++ back) back
shift_keeps s mid back = record {
  size = λ k. refl;
  index = λ i front. get_or-raised front mid back i;
  relation = λ q args xs front h same. ap (s.rel q) same;
  function = λ f args xs front h same. ap (s.fun f) same;
}

pub truth-shifted : AllBelow → AnyBelow → (s : Reading) (p : FormTree) (front mid back : List ℕ) (from by : ℕ)
    → length front ≡ from → length mid ≡ by → truth s (shift_form from by p) (front ++ (mid ++ back))
    ≡ truth s p (front ++ back)
truth-shifted all any s p front mid back from by l m =
    ap (λ n. truth s (shift_form n by p) (front ++ (mid ++ back))) (sym l)
    ∙ ap (λ n. truth s (shift_form (length front) n p) (front ++ (mid ++ back))) (sym m)
    ∙ truth-by all any (shifting (length mid)) Any Any s s (mid ++ back) back (shift_keeps s mid back) p front
    (any-form p)

-- what is known of bounded quantifiers, of rows of terms and of indices
pub record Reads : Type 0 where
  pub all : AllBelow
  pub any : AnyBelow
  pub rows : RowsAreLists
  pub truth : TruthReadsNoMore
  pub value : ValueReadsNoMore

-- the argument that an index means, or the index beyond them
abbrev pub argument : List TermTree → ℕ → TermTree
argument args j = get_or args j (bound (j - length args))

pub picked-below : (depth : ℕ) (args : List TermTree) (i : ℕ) → i < depth → picked depth args i ≡ bound i
picked-below depth args i h = rw (lt-ltb i depth h) refl

pub picked-above : (depth : ℕ) (args : List TermTree) (i : ℕ) → depth ≤ i
    → picked depth args i ≡ shift_term 0 depth (argument args (i - depth))
picked-above depth args i h = rw (le-ltb i depth h) refl

value-argument : (s : Reading) (args : List TermTree) (env : List ℕ) (j : ℕ)
    → value s (argument args j) env ≡ get_or (map (λ t. value s t env) args ++ env) j 0
value-argument s [] env j = let e : j - 0 ≡ j = omega arith in ap (λ n. get_or env n 0) e
value-argument s (t ∷ args) env zero = refl
value-argument s (t ∷ args) env (suc j) =
    let e : suc j - suc (length args) ≡ j - length args = omega arith in
    ap (λ n. value s (get_or args j (bound n)) env) e ∙ value-argument s args env j

module _ (known : Reads) (s : Reading) where
  put_keeps : (args : List TermTree) (env : List ℕ)
      → KeepsTruth (putting args) Any Any s s env (map (λ t. value s t env) args ++ env)
  put_keeps args env = record {
    size = λ k. refl;
    index = λ i front. picked_value i front;
    relation = λ q ts xs front h same. ap (s.rel q) same;
    function = λ f ts xs front h same. ap (s.fun f) same;
  }
    where
      picked_value : (i : ℕ) (front : List ℕ) → value s (picked (length front) args i) (front ++ env)
          ≡ get_or (front ++ (map (λ t. value s t env) args ++ env)) i 0
      picked_value i front =
          let was = map (λ t. value s t env) args ++ env in
          ⊎_elim
          (λ below. ap (λ t. value s t (front ++ env)) (picked-below (length front) args i below)
          ∙ get_or_append_left front env 0 i below ∙ sym (get_or_append_left front was 0 i below))
          (λ above.
          ap (λ t. value s t (front ++ env)) (picked-above (length front) args i above)
          ∙ value-by known.all known.any (shifting (length front)) Any Any s s (front ++ env) env
          (shift_keeps s front env) (argument args (i - length front)) []
          (any-term (argument args (i - length front)))
          ∙ value-argument s args env (i - length front)
          ∙ sym (get_or-append_right front was (length front) i 0 refl above))
          (cases_lt i (length front))

pub map-reverse : {X Y : Type 0} (f : X → Y) (xs : List X) → map f (reverse xs) ≡ reverse (map f xs)
map-reverse f [] = refl
map-reverse f (x ∷ xs) =
    ap (map f) (reverse-append (x ∷ []) xs) ∙ map-append f (reverse xs) (x ∷ [])
    ∙ ap (λ z. z ++ f x ∷ []) (map-reverse f xs) ∙ sym (reverse-append (f x ∷ []) (map f xs))

pub length-list_of : (ts : TermTrees) → length (list_of ts) ≡ size_of ts
length-list_of no_terms = refl
length-list_of (term_then t ts) = ap suc (length-list_of ts)

either_truth : (s : Reading) (env : List ℕ) (b : Bool) (x y : FormTree) (u v : Bool) → (b ≡ true → truth s x env ≡ u)
    → truth s y env ≡ v → truth s (cond b x y) env ≡ cond b u v
either_truth s env true x y u v p q = p refl
either_truth s env false x y u v p q = q

either_value : (s : Reading) (env : List ℕ) (b : Bool) (x y : TermTree) (u v : ℕ) → (b ≡ true → value s x env ≡ u)
    → value s y env ≡ v → value s (cond b x y) env ≡ cond b u v
either_value s env true x y u v p q = p refl
either_value s env false x y u v p q = q

module _ (known : Reads) (s : Reading) where
  -- what replaces the symbol, where its parameters are arguments of these values
  module _ (args : TermTrees) (xs env : List ℕ) (same : values s args env ≡ xs) where
    params_values : map (λ t. value s t env) (reverse (list_of args)) ≡ reverse xs
    params_values =
        map-reverse (λ t. value s t env) (list_of args) ∙ ap reverse (sym (known.rows.value_list s args env) ∙ same)

    params_count : size_of args ≡ length (reverse xs)
    params_count = sym (length-list_of args) ∙ sym (length-reverse (list_of args))
        ∙ sym (length-map (reverse (list_of args)) (λ t. value s t env)) ∙ ap length params_values

    truth-instance : (by : FormTree) → BoundForm (size_of args) by
        → truth s (put_form 0 (reverse (list_of args)) by) env ≡ truth s by (reverse xs)
    truth-instance by h =
        truth-by known.all known.any (putting (reverse (list_of args))) Any Any s s env _
        (put_keeps known s (reverse (list_of args)) env) by [] (any-form by)
        ∙ ap (λ z. truth s by (z ++ env)) params_values
        ∙ known.truth s by (reverse xs) env (subst (λ n. BoundForm n by) params_count h)

    value-instance : (by : TermTree) → BoundTerm (size_of args) by
        → value s (put_term 0 (reverse (list_of args)) by) env ≡ value s by (reverse xs)
    value-instance by h =
        value-by known.all known.any (putting (reverse (list_of args))) Any Any s s env _
        (put_keeps known s (reverse (list_of args)) env) by [] (any-term by)
        ∙ ap (λ z. value s by (z ++ env)) params_values
        ∙ known.value s by (reverse xs) env (subst (λ n. BoundTerm n by) params_count h)

  change_keeps : (c : Change) (env : List ℕ)
      → KeepsTruth (changing c) (RelReady c) (AppReady c) s (updated s c env) env env
  change_keeps (change_rel r by) env = record {
    size = λ k. refl;
    index = λ i front. refl;
    relation = λ q args xs front h same.
        either_truth s (front ++ env) (q == r) _ (rel q args) (truth s by (reverse xs)) (s.rel q xs)
        (λ e. truth-instance args xs (front ++ env) same by (h.1 (eqb-true q r e)))
        (ap (s.rel q) same);
    function = λ f args xs front h same. ap (s.fun f) same;
  }
  change_keeps (change_fun g by) env = record {
    size = λ k. refl;
    index = λ i front. refl;
    relation = λ q args xs front h same. ap (s.rel q) same;
    function = λ f args xs front h same.
        either_value s (front ++ env) (f == g) _ (app f args) (value s by (reverse xs)) (s.fun f xs)
        (λ e. value-instance args xs (front ++ env) same by (h.1 (eqb-true f g e)))
        (ap (s.fun f) same);
  }
  change_keeps (change_const g index) env = record {
    size = λ k. refl;
    index = λ i front. refl;
    relation = λ q args xs front h same. ap (s.rel q) same;
    function = λ f args xs front h same.
        either_value s (front ++ env) (f == g) (bound (length front + index)) (app f args) (get_or env index 0)
        (s.fun f xs)
        (λ e. get_or-append-add front env index 0)
        (ap (s.fun f) same);
  }

  pub truth-changed : (c : Change) (env : List ℕ) (p : FormTree) → ReadyForm c p
      → truth s (changed_form c 0 p) env ≡ truth (updated s c env) p env
  truth-changed c env p h =
      truth-by known.all known.any (changing c) (RelReady c) (AppReady c) s (updated s c env) env env
      (change_keeps c env) p [] h
