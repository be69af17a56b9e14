-- A universal sentence in a structure, and its instance over the terms.
use Rattle.std.proofs.Common.{◌≡◌, ℕ, zero, suc, ◌<◌, Bool, true, false, not, List, [], ◌∷◌, length, get_or, refl, sym}
use Rattle.std.proofs.Common.{ap, ◌∙◌, subst, arith, ⊎_elim}
use Rattle.std.proofs.lemmas.Bool.{and_parts, and_from, or_cases, or_left, or_right}
use Rattle.fol_sig.specs.Tables.{Tables, InRange, reading, AreSorts}
use Rattle.fol_sig.specs.Symbols.{Symbols, AreSorted}
use Rattle.fol_sig.specs.Ranges.{RangesAreAlong}
use Rattle.fol_formula.specs.Syntax.{FormTree, FormTrees, TermTree, TermTrees, top, bottom, rel, equal, negation}
use Rattle.fol_formula.specs.Syntax.{conjunction, disjunction, implication, equivalence, for_all, for_some, no_forms}
use Rattle.fol_formula.specs.Syntax.{form_then, bound, app, ite, no_terms, term_then}
use Rattle.fol_formula.specs.Truth.{truth, all_true, any_true, value, values}
use Rattle.fol_formula.specs.Quantified.{AllBelow}
use Rattle.fol_formula.specs.Fits.{FitsForm, FitsForms, FitsTerm, FitsTerms}
use Rattle.fol_formula.specs.Fragments.{IsUniversal, AreUniversal, IsNormalForm, AreNormalForms, IsPlainAtom, IsIteFree}
use Rattle.fol_formula.specs.Fragments.{AreIteFree}
use Rattle.ground_terms.specs.Trees.{truth as ground_truth, all_true as all_grounds, any_true as any_ground}
use Rattle.ground_terms.specs.Numberings.{Numbering, numbering}
use Rattle.ground_terms.specs.Values.{Elements, elements_of, Realises, IsOnto, StructuresGiveValues, term_values}
use Rattle.ground_terms.specs.Values.{atoms_in}
use Rattle.ground_terms.specs.declared.atom.Atom.{Atom}
use Rattle.ground_terms.specs.declared.atom.Atom.TheVariants.{Rel, Eq}
use Rattle.ground_expand.specs.Instance.{place_of_term, places_of_terms, sort_of_term, literal_at, instance, instances}
use Rattle.ground_expand.specs.Laws.{InstanceIsTrue, SentenceIsTrue, StructuresSatisfyInstance}
use Rattle.ground_expand.proofs.Known.{known-term, known-terms}
use Rattle.ground_expand.proofs.Within.{IsNumbered, PlacesAreIn, place-within, places-within}
use Rattle.ground_expand.proofs.Below.{all-below, all-below_at}

AreSorts-cons : (n k : ℕ) (ks : List ℕ) → k < n → AreSorts n ks → AreSorts n (k ∷ ks)
AreSorts-cons n k ks lt h zero d i = lt
AreSorts-cons n k ks lt h (suc j) d i = h j d (omega arith)

pub no_sorts : (n : ℕ) → AreSorts n []
no_sorts n i d lt = absurd (omega arith)

elements_of-at : (v : Elements) (sizes sorts env : List ℕ) (i : ℕ) → InRange sizes sorts env → i < length sorts
    → get_or (elements_of v sorts env) i 0 ≡ v (get_or sorts i 0) (get_or env i 0)
elements_of-at v sizes [] env i r lt = absurd (omega arith)
elements_of-at v sizes (k ∷ ks) [] i r lt = absurd r
elements_of-at v sizes (k ∷ ks) (x ∷ xs) zero r lt = refl
elements_of-at v sizes (k ∷ ks) (x ∷ xs) (suc i) r lt = elements_of-at v sizes ks xs i r.1 (omega arith)

module _ (along : RangesAreAlong) (each_below : AllBelow) (sig : Symbols) (names : Numbering) (a : Atom → Bool)
    (s : Tables) (v : Elements) (sorted : AreSorted sig) (numbered : IsNumbered sig names)
    (h : Realises sig names a s v) where
  mutual
    place-value : (t : TermTree) (sorts env : List ℕ) (k : ℕ) → IsIteFree t → FitsTerm sig sorts t k
        → InRange names.counts sorts env → v k (place_of_term names t env)
        ≡ value (reading s) t (elements_of v sorts env)
    place-value (bound i) sorts env k p f e =
        ap (λ m. v m (get_or env i 0)) (sym f.1) ∙ sym (elements_of-at v names.counts sorts env i e f.0)
    place-value (app g args) sorts env k p f e =
        let zs = places_of_terms names args env in
        let within =
        places-within along sig names numbered args sorts env (sig.from_of g)
        (known-terms sig sorts args (sig.from_of g) p f.3) f.3 e in
        ap (λ m. v m (names.place g zs)) (sym f.1) ∙ h.applied g zs f.0 within
        ∙ ap ((reading s).fun g) (place-values args sorts env (sig.from_of g) p f.3 e)
    place-value (ite c t u) sorts env k p f e = absurd p

    place-values : (ts : TermTrees) (sorts env ks : List ℕ) → AreIteFree ts → FitsTerms sig sorts ts ks
        → InRange names.counts sorts env → elements_of v ks (places_of_terms names ts env)
        ≡ values (reading s) ts (elements_of v sorts env)
    place-values no_terms sorts env [] p f e = refl
    place-values no_terms sorts env (k ∷ ks) p f e = absurd f
    place-values (term_then t ts) sorts env [] p f e = absurd f
    place-values (term_then t ts) sorts env (k ∷ ks) p f e =
        let e1 = place-value t sorts env k p.0 f.0 e in let e2 = place-values ts sorts env ks p.1 f.1 e in cc (e1, e2)

  sort-term : (t : TermTree) (sorts : List ℕ) (k : ℕ) → IsIteFree t → FitsTerm sig sorts t k
      → sort_of_term sig sorts t ≡ k
  sort-term (bound i) sorts k p f = f.1
  sort-term (app g args) sorts k p f = f.1
  sort-term (ite c t u) sorts k p f = absurd p

  is-sort : (t : TermTree) (sorts : List ℕ) (k : ℕ) → IsIteFree t → FitsTerm sig sorts t k → AreSorts sig.sorts sorts
      → k < sig.sorts
  is-sort (bound i) sorts k p f o = subst (λ m. m < sig.sorts) f.1 (o i 0 f.0)
  is-sort (app g args) sorts k p f o = subst (λ m. m < sig.sorts) f.1 (sorted.into g f.0)
  is-sort (ite c t u) sorts k p f o = absurd p

  relation-is : (r : ℕ) (args : TermTrees) (sorts env : List ℕ) → AreIteFree args → FitsForm sig sorts (rel r args)
      → InRange names.counts sorts env → a (Rel (record { 0 = r }) (places_of_terms names args env))
      ≡ truth (reading s) (rel r args) (elements_of v sorts env)
  relation-is r args sorts env p f e =
      let within =
      places-within along sig names numbered args sorts env (sig.sorts_of r)
      (known-terms sig sorts args (sig.sorts_of r) p f.2) f.2 e in
      h.related (record { 0 = r }) (places_of_terms names args env) f.0 within
      ∙ ap ((reading s).rel r) (place-values args sorts env (sig.sorts_of r) p f.2 e)

  equation-is : (t u : TermTree) (sorts env : List ℕ) → IsIteFree t → IsIteFree u → FitsForm sig sorts (equal t u)
      → AreSorts sig.sorts sorts → InRange names.counts sorts env
      → a (Eq (record { 0 = sort_of_term sig sorts t }) (place_of_term names t env) (place_of_term names u env))
      ≡ truth (reading s) (equal t u) (elements_of v sorts env)
  equation-is t u sorts env p q f o e =
      let left = place-within along sig names numbered t sorts env f.0 (known-term sig sorts t f.0 p f.1) f.1 e in
      let right = place-within along sig names numbered u sorts env f.0 (known-term sig sorts u f.0 q f.2) f.2 e in
      let lt = is-sort t sorts f.0 p f.1 o in
      let at = sort-term t sorts f.0 p f.1 in
      let e1 = place-value t sorts env f.0 p f.1 e in let e2 = place-value u sorts env f.0 q f.2 e in
      ap (λ m. a (Eq (record { 0 = m }) (place_of_term names t env) (place_of_term names u env))) at
      ∙ h.equal (record { 0 = f.0 }) (place_of_term names t env) (place_of_term names u env) lt left right ∙ cc (e1, e2)

  negation-is : (q : FormTree) (sorts env : List ℕ) → IsPlainAtom q → FitsForm sig sorts q → AreSorts sig.sorts sorts
      → InRange names.counts sorts env → ground_truth a (literal_at sig names sorts q env false)
      ≡ not (truth (reading s) q (elements_of v sorts env))
  negation-is (rel r args) sorts env n f o e = ap not (relation-is r args sorts env n f e)
  negation-is (equal t u) sorts env n f o e = ap not (equation-is t u sorts env n.0 n.1 f o e)
  negation-is top sorts env n f o e = absurd n
  negation-is bottom sorts env n f o e = absurd n
  negation-is (negation q) sorts env n f o e = absurd n
  negation-is (conjunction ps) sorts env n f o e = absurd n
  negation-is (disjunction ps) sorts env n f o e = absurd n
  negation-is (implication q r) sorts env n f o e = absurd n
  negation-is (equivalence q r) sorts env n f o e = absurd n
  negation-is (for_all k q) sorts env n f o e = absurd n
  negation-is (for_some k q) sorts env n f o e = absurd n

  mutual
    pub instance-from : (p : FormTree) (sorts env : List ℕ) → IsUniversal true p → IsNormalForm p → FitsForm sig sorts p
        → AreSorts sig.sorts sorts → InRange names.counts sorts env
        → truth (reading s) p (elements_of v sorts env) ≡ true → ground_truth a (instance sig names sorts p env) ≡ true
    instance-from top sorts env u n f o e t = refl
    instance-from bottom sorts env u n f o e t = t
    instance-from (rel r args) sorts env u n f o e t = relation-is r args sorts env n f e ∙ t
    instance-from (equal x y) sorts env u n f o e t = equation-is x y sorts env n.0 n.1 f o e ∙ t
    instance-from (negation q) sorts env u n f o e t = negation-is q sorts env n f o e ∙ t
    instance-from (conjunction ps) sorts env u n f o e t = instances-from ps sorts env u n f o e t
    instance-from (disjunction ps) sorts env u n f o e t = instances-some ps sorts env u n f o e t
    instance-from (for_all k q) sorts env u n f o e t =
        all-below a (get_or names.counts k 0) (λ x. instance sig names (k ∷ sorts) q (x ∷ env))
        (λ x lt. instance-from q (k ∷ sorts) (x ∷ env) u n f.1 (AreSorts-cons sig.sorts k sorts f.0 o) (lt, e)
        (each_below.each ((reading s).size k) (λ c. truth (reading s) q (c ∷ elements_of v sorts env)) t (v k x)
        (h.within k x f.0 lt)))
    instance-from (implication q r) sorts env u n f o e t = absurd n
    instance-from (equivalence q r) sorts env u n f o e t = absurd n
    instance-from (for_some k q) sorts env u n f o e t = absurd u

    instances-from : (ps : FormTrees) (sorts env : List ℕ) → AreUniversal true ps → AreNormalForms ps
        → FitsForms sig sorts ps → AreSorts sig.sorts sorts → InRange names.counts sorts env
        → all_true (reading s) ps (elements_of v sorts env) ≡ true → all_grounds a (instances sig names sorts ps env)
        ≡ true
    instances-from no_forms sorts env u n f o e t = refl
    instances-from (form_then q qs) sorts env u n f o e t =
        let both = and_parts (truth (reading s) q (elements_of v sorts env))
        (all_true (reading s) qs (elements_of v sorts env)) t in
        and_from (ground_truth a (instance sig names sorts q env)) (all_grounds a (instances sig names sorts qs env))
        (instance-from q sorts env u.0 n.0 f.0 o e both.0) (instances-from qs sorts env u.1 n.1 f.1 o e both.1)

    instances-some : (ps : FormTrees) (sorts env : List ℕ) → AreUniversal true ps → AreNormalForms ps
        → FitsForms sig sorts ps → AreSorts sig.sorts sorts → InRange names.counts sorts env
        → any_true (reading s) ps (elements_of v sorts env) ≡ true → any_ground a (instances sig names sorts ps env)
        ≡ true
    instances-some no_forms sorts env u n f o e t = t
    instances-some (form_then q qs) sorts env u n f o e t =
        ⊎_elim
        (λ first. or_left (ground_truth a (instance sig names sorts q env))
        (any_ground a (instances sig names sorts qs env)) (instance-from q sorts env u.0 n.0 f.0 o e first))
        (λ rest. or_right (ground_truth a (instance sig names sorts q env))
        (any_ground a (instances sig names sorts qs env)) (instances-some qs sorts env u.1 n.1 f.1 o e rest))
        (or_cases (truth (reading s) q (elements_of v sorts env)) (any_true (reading s) qs (elements_of v sorts env)) t)

  module _ (onto : IsOnto sig names s v) where
    mutual
      pub truth-from : (p : FormTree) (sorts env : List ℕ) → IsUniversal true p → IsNormalForm p → FitsForm sig sorts p
          → AreSorts sig.sorts sorts → InRange names.counts sorts env
          → ground_truth a (instance sig names sorts p env) ≡ true → truth (reading s) p (elements_of v sorts env)
          ≡ true
      truth-from top sorts env u n f o e t = refl
      truth-from bottom sorts env u n f o e t = t
      truth-from (rel r args) sorts env u n f o e t = sym (relation-is r args sorts env n f e) ∙ t
      truth-from (equal x y) sorts env u n f o e t = sym (equation-is x y sorts env n.0 n.1 f o e) ∙ t
      truth-from (negation q) sorts env u n f o e t = sym (negation-is q sorts env n f o e) ∙ t
      truth-from (conjunction ps) sorts env u n f o e t = all_true-from ps sorts env u n f o e t
      truth-from (disjunction ps) sorts env u n f o e t = any_true-from ps sorts env u n f o e t
      truth-from (for_all k q) sorts env u n f o e t =
          each_below.of_each ((reading s).size k) (λ c. truth (reading s) q (c ∷ elements_of v sorts env))
          (λ c lt. let x = onto k c f.0 lt in
          subst (λ d. truth (reading s) q (d ∷ elements_of v sorts env) ≡ true) x.2
          (truth-from q (k ∷ sorts) (x.0 ∷ env) u n f.1 (AreSorts-cons sig.sorts k sorts f.0 o) (x.1, e)
          (all-below_at a (get_or names.counts k 0) x.0 (λ x. instance sig names (k ∷ sorts) q (x ∷ env)) t x.1)))
      truth-from (implication q r) sorts env u n f o e t = absurd n
      truth-from (equivalence q r) sorts env u n f o e t = absurd n
      truth-from (for_some k q) sorts env u n f o e t = absurd u

      all_true-from : (ps : FormTrees) (sorts env : List ℕ) → AreUniversal true ps → AreNormalForms ps
          → FitsForms sig sorts ps → AreSorts sig.sorts sorts → InRange names.counts sorts env
          → all_grounds a (instances sig names sorts ps env) ≡ true
          → all_true (reading s) ps (elements_of v sorts env) ≡ true
      all_true-from no_forms sorts env u n f o e t = refl
      all_true-from (form_then q qs) sorts env u n f o e t =
          let both = and_parts (ground_truth a (instance sig names sorts q env))
          (all_grounds a (instances sig names sorts qs env)) t in
          and_from (truth (reading s) q (elements_of v sorts env)) (all_true (reading s) qs (elements_of v sorts env))
          (truth-from q sorts env u.0 n.0 f.0 o e both.0) (all_true-from qs sorts env u.1 n.1 f.1 o e both.1)

      any_true-from : (ps : FormTrees) (sorts env : List ℕ) → AreUniversal true ps → AreNormalForms ps
          → FitsForms sig sorts ps → AreSorts sig.sorts sorts → InRange names.counts sorts env
          → any_ground a (instances sig names sorts ps env) ≡ true → any_true (reading s) ps (elements_of v sorts env)
          ≡ true
      any_true-from no_forms sorts env u n f o e t = t
      any_true-from (form_then q qs) sorts env u n f o e t =
          ⊎_elim
          (λ first. or_left (truth (reading s) q (elements_of v sorts env))
          (any_true (reading s) qs (elements_of v sorts env)) (truth-from q sorts env u.0 n.0 f.0 o e first))
          (λ rest. or_right (truth (reading s) q (elements_of v sorts env))
          (any_true (reading s) qs (elements_of v sorts env)) (any_true-from qs sorts env u.1 n.1 f.1 o e rest))
          (or_cases (ground_truth a (instance sig names sorts q env)) (any_ground a (instances sig names sorts qs env))
          t)

pub instance_is_true : RangesAreAlong → AllBelow → PlacesAreIn → InstanceIsTrue
instance_is_true along each_below placed sig lists p a s v g h t =
    instance-from along each_below sig (numbering sig lists) a s v g.sorted (placed sig lists g.sorted g.closed) h p []
    [] g.universal g.normal g.fits (no_sorts sig.sorts) tt t

pub sentence_is_true : RangesAreAlong → AllBelow → PlacesAreIn → SentenceIsTrue
sentence_is_true along each_below placed sig lists p a s v g h onto t =
    truth-from along each_below sig (numbering sig lists) a s v g.sorted (placed sig lists g.sorted g.closed) h onto p
    [] [] g.universal g.normal g.fits (no_sorts sig.sorts) tt t

pub structures_satisfy : InstanceIsTrue → StructuresGiveValues → StructuresSatisfyInstance
structures_satisfy instance_true give sig order lists p s g strata fits t =
    let values = give sig order lists s g.sorted strata g.closed fits in
    instance_true sig lists p (atoms_in sig (reading s) (term_values sig lists order (reading s))) s
    (term_values sig lists order (reading s)) g values.realises t
