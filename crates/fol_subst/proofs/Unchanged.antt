-- Rules that give back whatever they are asked for change nothing: shifting by none, and setting a symbol to its own
-- value.
use Rattle.std.proofs.Common.{◌≡◌, ℕ, suc, ◌+◌, ◌-◌, Bool, true, false, ◌==◌, cond, List, [], ◌∷◌, length}
use Rattle.std.proofs.Common.{get_or, refl, sym, ap, ◌∙◌, ⊎_elim, arith}
use mathlib.Core.List.{reverse_aux}
use Rattle.std.proofs.lemmas.Bool.{cases_lt, eqb-true, and_parts}
use Rattle.fol_sig.specs.Symbols.{Symbols}
use Rattle.fol_formula.specs.Syntax.{FormTree, FormTrees, TermTree, TermTrees, top, bottom, rel, equal, negation}
use Rattle.fol_formula.specs.Syntax.{conjunction, disjunction, implication, equivalence, for_all, for_some, no_forms}
use Rattle.fol_formula.specs.Syntax.{form_then, bound, app, ite, no_terms, term_then, list_of, size_of}
use Rattle.fol_subst.specs.Rules.{Rules, form_by, forms_by, term_by, terms_by, EachForm, EachForms, EachTerm, EachTerms}
use Rattle.fol_subst.specs.Shift.{raised, shifting, shift_term}
use Rattle.fol_subst.specs.Replace.{picked, putting, Change, change_rel, change_fun, change_const, changing, CanChange}
use Rattle.fol_subst.specs.Unchanged.{are_parameters, is_own_value, OwnValueChangesNothing}
use Rattle.fol_subst.proofs.Truth.{raised-below, raised-above, Any, any-term, argument, picked-above, length-list_of}
use Rattle.fol_subst.proofs.Ready.{fits_count, each_form}

-- before arguments of these counts
record GiveBack (rules : Rules) (R F : ℕ → ℕ → Type 0) : Type 0 where
  index : (depth i : ℕ) → rules.index depth i ≡ bound i
  relation : (q : ℕ) (args : TermTrees) → R q (size_of args) → rules.relation q args ≡ rel q args
  function : (depth f : ℕ) (args : TermTrees) → F f (size_of args) → rules.function depth f args ≡ app f args

module _ (rules : Rules) (R F : ℕ → ℕ → Type 0) (back : GiveBack rules R F) where
  mutual
    form-same : (p : FormTree) (depth : ℕ) → EachForm R F p → form_by rules depth p ≡ p
    form-same top depth h = refl
    form-same bottom depth h = refl
    form-same (rel q args) depth h = ap (rules.relation q) (terms-same args depth h.1) ∙ back.relation q args h.0
    form-same (equal a b) depth h = let e1 = term-same a depth h.0 in let e2 = term-same b depth h.1 in cc (e1, e2)
    form-same (negation p) depth h = ap negation (form-same p depth h)
    form-same (conjunction ps) depth h = ap conjunction (forms-same ps depth h)
    form-same (disjunction ps) depth h = ap disjunction (forms-same ps depth h)
    form-same (implication p q) depth h =
        let e1 = form-same p depth h.0 in let e2 = form-same q depth h.1 in cc (e1, e2)
    form-same (equivalence p q) depth h =
        let e1 = form-same p depth h.0 in let e2 = form-same q depth h.1 in cc (e1, e2)
    form-same (for_all k p) depth h = ap (for_all k) (form-same p (suc depth) h)
    form-same (for_some k p) depth h = ap (for_some k) (form-same p (suc depth) h)

    forms-same : (ps : FormTrees) (depth : ℕ) → EachForms R F ps → forms_by rules depth ps ≡ ps
    forms-same no_forms depth h = refl
    forms-same (form_then p ps) depth h =
        let e1 = form-same p depth h.0 in let e2 = forms-same ps depth h.1 in cc (e1, e2)

    term-same : (t : TermTree) (depth : ℕ) → EachTerm R F t → term_by rules depth t ≡ t
    term-same (bound i) depth h = back.index depth i
    term-same (app f args) depth h =
        ap (rules.function depth f) (terms-same args depth h.1) ∙ back.function depth f args h.0
    term-same (ite p a b) depth h =
        let e1 = form-same p depth h.0 in let e2 = term-same a depth h.1 in let e3 = term-same b depth h.2 in
        cc (e1, e2, e3)

    terms-same : (ts : TermTrees) (depth : ℕ) → EachTerms R F ts → terms_by rules depth ts ≡ ts
    terms-same no_terms depth h = refl
    terms-same (term_then t ts) depth h =
        let e1 = term-same t depth h.0 in let e2 = terms-same ts depth h.1 in cc (e1, e2)

-- a shift by none
raised-none : (depth i : ℕ) → raised depth 0 i ≡ i
raised-none depth i =
    ⊎_elim (λ below. raised-below depth 0 i below) (λ above. let e = raised-above depth 0 i above in omega (arith, e))
    (cases_lt i depth)

shifted-none : (t : TermTree) → shift_term 0 0 t ≡ t
shifted-none t = term-same (shifting 0) Any Any (record {
  index = λ depth i. ap bound (raised-none depth i);
  relation = λ q args h. refl;
  function = λ depth f args h. refl;
}) t 0 (any-term t)

-- the parameters with the arguments in their places
get-reversed : (ts more : List TermTree) (k : ℕ) (other : TermTree)
    → get_or (reverse_aux ts more) (length ts + k) other ≡ get_or more k other
get-reversed [] more k other = let e : 0 + k ≡ k = omega arith in ap (λ n. get_or more n other) e
get-reversed (t ∷ ts) more k other =
    let e : suc (length ts) + k ≡ length ts + suc k = omega arith in
    ap (λ n. get_or (reverse_aux ts (t ∷ more)) n other) e ∙ get-reversed ts (t ∷ more) (suc k) other

picked-own : (ts : TermTrees) (t : TermTree) (more : List TermTree) (i : ℕ) → i ≡ size_of ts
    → picked 0 (reverse_aux (list_of ts) (t ∷ more)) i ≡ t
picked-own ts t more i is =
    let args = reverse_aux (list_of ts) (t ∷ more) in
    let e : i - 0 ≡ length (list_of ts) + 0 = omega (arith, length-list_of ts) in
    picked-above 0 args i (omega arith) ∙ shifted-none (argument args (i - 0))
    ∙ ap (λ n. get_or args n (bound (i - 0 - length args))) e ∙ get-reversed (list_of ts) (t ∷ more) 0 _

parameters-put : (ts by : TermTrees) (more : List TermTree) → size_of by ≡ size_of ts → are_parameters by ≡ true
    → terms_by (putting (reverse_aux (list_of ts) more)) 0 by ≡ ts
parameters-put no_terms no_terms more count own = refl
parameters-put no_terms (term_then b by) more count own = absurd (omega arith)
parameters-put (term_then t ts) no_terms more count own = absurd (omega arith)
parameters-put (term_then t ts) (term_then (bound i) by) more count own =
    let h = and_parts (i == size_of by) (are_parameters by) own in
    let same : size_of by ≡ size_of ts = omega arith in
    let e1 = picked-own ts t more i (eqb-true i (size_of by) h.0 ∙ same) in
    let e2 = parameters-put ts by (t ∷ more) same h.1 in
    cc (e1, e2)
parameters-put (term_then t ts) (term_then (app f args) by) more count own = absurd (cc own)
parameters-put (term_then t ts) (term_then (ite p a b) by) more count own = absurd (cc own)

where_own : {A : Type 0} (b : Bool) (x y : A) → (b ≡ true → x ≡ y) → cond b x y ≡ y
where_own true x y h = h refl
where_own false x y h = refl

module _ (sig : Symbols) (sorts : List ℕ) where
  abbrev RelCount : ℕ → ℕ → Type 0
  RelCount q n = n ≡ length (sig.sorts_of q)

  abbrev AppCount : ℕ → ℕ → Type 0
  AppCount f n = n ≡ length (sig.from_of f)

  gives_back : (c : Change) → CanChange sig sorts c → is_own_value c ≡ true
      → GiveBack (changing c) RelCount AppCount
  gives_back (change_rel r (rel p by)) can own =
      let h = and_parts (p == r) (are_parameters by) own in
      let here = eqb-true p r h.0 in
      record {
        index = λ depth i. refl;
        relation = λ q args count.
            where_own (q == r) _ (rel q args) (λ e.
            let there = eqb-true q r e in
            let size = fits_count sig by _ (sig.sorts_of p) can.1.2 in
            let same : size_of by ≡ size_of args =
            size ∙ ap (λ m. length (sig.sorts_of m)) (here ∙ sym there) ∙ sym count in
            ap (rel p) (parameters-put args by [] same h.1) ∙ ap (λ m. rel m args) (here ∙ sym there));
        function = λ depth f args count. refl;
      }
  gives_back (change_rel r _) can own = absurd (cc own)
  gives_back (change_fun g (app p by)) can own =
      let h = and_parts (p == g) (are_parameters by) own in
      let here = eqb-true p g h.0 in
      record {
        index = λ depth i. refl;
        relation = λ q args count. refl;
        function = λ depth f args count.
            where_own (f == g) _ (app f args) (λ e.
            let there = eqb-true f g e in
            let size = fits_count sig by _ (sig.from_of p) can.1.3 in
            let same : size_of by ≡ size_of args =
            size ∙ ap (λ m. length (sig.from_of m)) (here ∙ sym there) ∙ sym count in
            ap (app p) (parameters-put args by [] same h.1) ∙ ap (λ m. app m args) (here ∙ sym there));
      }
  gives_back (change_fun g (bound i)) can own = absurd (cc own)
  gives_back (change_fun g (ite p a b)) can own = absurd (cc own)
  gives_back (change_const g index) can own = absurd (cc own)

pub own_value_changes_nothing : OwnValueChangesNothing
own_value_changes_nothing sig sorts within c fits can own =
    form-same (changing c) (RelCount sig sorts) (AppCount sig sorts) (gives_back sig sorts c can own) within 0
    (each_form sig (RelCount sig sorts) (AppCount sig sorts) (λ q n few count. count) (λ f n few count. count) within
    sorts fits)
