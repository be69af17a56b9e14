-- The fragments by polarity are those of the normal form, which keeps truth.
use Rattle.std.proofs.Common.{◌≡◌, ◌↔◌, ℕ, Bool, true, false, not, ◌&&◌, ◌||◌, List, ◌∷◌, refl, sym, ap, ◌∙◌}
use Rattle.fol_sig.specs.Tables.{Reading}
use Rattle.fol_formula.specs.Syntax.{FormTree, FormTrees, top, bottom, rel, equal, negation, conjunction, disjunction}
use Rattle.fol_formula.specs.Syntax.{implication, equivalence, for_all, for_some, no_forms, form_then}
use Rattle.fol_formula.specs.Truth.{truth, all_true, any_true, same_truth}
use Rattle.fol_formula.specs.Fragments.{IsUniversal, AreUniversal, IsExistsForall, AreExistsForall, IsPlainAtom}
use Rattle.fol_formula.specs.Fragments.{IsNormalForm, AreNormalForms}
use Rattle.fol_formula.proofs.Below.{all_below-same, any_below-same, all_below-opposite, any_below-opposite}
use Rattle.fol_formula.specs.NormalForms.{normal_form, normal_forms, HasNoExistential, HaveNoExistential}
use Rattle.fol_formula.specs.NormalForms.{HasNoExistentialUnderUniversal, HaveNoExistentialUnderUniversal}
use Rattle.fol_formula.specs.NormalForms.{UniversalByNormalForm, ExistsForallByNormalForm, NormalFormKeepsTruth}
use Rattle.fol_formula.specs.NormalForms.{NormalFormStays}

always : Unit {0} ↔ Unit {0}
always = (λ h. tt, λ h. tt)

never : ⊥ ↔ ⊥
never = (λ h. h, λ h. h)

pair : {P Q R S : Type 0} → P ↔ R → Q ↔ S → (P × Q) ↔ (R × S)
pair p q = (λ h. (p.0 h.0, q.0 h.1), λ h. (p.1 h.0, q.1 h.1))

-- two parts, as a list of two
two : {P Q R S : Type 0} → P ↔ R → Q ↔ S → (P × Q) ↔ (R × (S × Unit {0}))
two p q = (λ h. (p.0 h.0, (q.0 h.1, tt)), λ h. (p.1 h.0, q.1 h.1.0))

-- the parts of an equivalence
four : {P P' Q Q' R R' S S' : Type 0} → P ↔ R → P' ↔ R' → Q ↔ S → Q' ↔ S'
    → (P × P' × Q × Q') ↔ ((R × (S × Unit {0})) × ((R' × (S' × Unit {0})) × Unit {0}))
four p p' q q' = (
  λ h. ((p.0 h.0, (q.0 h.2, tt)), ((p'.0 h.1, (q'.0 h.3, tt)), tt)),
  λ h. (p.1 h.0.0, p'.1 h.1.0.0, q.1 h.0.1.0, q'.1 h.1.0.1.0),
)

-- with the sides crossed
crossed : {P P' Q Q' R R' S S' : Type 0} → P ↔ R → P' ↔ R' → Q ↔ S → Q' ↔ S'
    → (P × P' × Q × Q') ↔ ((R × (S' × Unit {0})) × ((R' × (S × Unit {0})) × Unit {0}))
crossed p p' q q' = (
  λ h. ((p.0 h.0, (q'.0 h.3, tt)), ((p'.0 h.1, (q.0 h.2, tt)), tt)),
  λ h. (p.1 h.0.0, p'.1 h.1.0.0, q.1 h.1.0.1.0, q'.1 h.0.1.0),
)

mutual
  universal-by : (positive : Bool) (p : FormTree) → IsUniversal positive p ↔ HasNoExistential (normal_form positive p)
  universal-by true top = always
  universal-by false top = always
  universal-by true bottom = always
  universal-by false bottom = always
  universal-by true (rel r args) = always
  universal-by false (rel r args) = always
  universal-by true (equal a b) = always
  universal-by false (equal a b) = always
  universal-by true (negation p) = universal-by false p
  universal-by false (negation p) = universal-by true p
  universal-by true (conjunction ps) = universals-by true ps
  universal-by false (conjunction ps) = universals-by false ps
  universal-by true (disjunction ps) = universals-by true ps
  universal-by false (disjunction ps) = universals-by false ps
  universal-by true (implication p q) = two (universal-by false p) (universal-by true q)
  universal-by false (implication p q) = two (universal-by true p) (universal-by false q)
  universal-by true (equivalence p q) =
      four (universal-by true p) (universal-by false p) (universal-by true q) (universal-by false q)
  universal-by false (equivalence p q) =
      crossed (universal-by true p) (universal-by false p) (universal-by true q) (universal-by false q)
  universal-by true (for_all k p) = universal-by true p
  universal-by false (for_all k p) = never
  universal-by true (for_some k p) = never
  universal-by false (for_some k p) = universal-by false p

  universals-by : (positive : Bool) (ps : FormTrees) → AreUniversal positive ps
      ↔ HaveNoExistential (normal_forms positive ps)
  universals-by true no_forms = always
  universals-by false no_forms = always
  universals-by true (form_then p ps) = pair (universal-by true p) (universals-by true ps)
  universals-by false (form_then p ps) = pair (universal-by false p) (universals-by false ps)

mutual
  exists_forall-by : (positive : Bool) (p : FormTree) → IsExistsForall positive p
      ↔ HasNoExistentialUnderUniversal (normal_form positive p)
  exists_forall-by true top = always
  exists_forall-by false top = always
  exists_forall-by true bottom = always
  exists_forall-by false bottom = always
  exists_forall-by true (rel r args) = always
  exists_forall-by false (rel r args) = always
  exists_forall-by true (equal a b) = always
  exists_forall-by false (equal a b) = always
  exists_forall-by true (negation p) = exists_forall-by false p
  exists_forall-by false (negation p) = exists_forall-by true p
  exists_forall-by true (conjunction ps) = exists_foralls-by true ps
  exists_forall-by false (conjunction ps) = exists_foralls-by false ps
  exists_forall-by true (disjunction ps) = exists_foralls-by true ps
  exists_forall-by false (disjunction ps) = exists_foralls-by false ps
  exists_forall-by true (implication p q) = two (exists_forall-by false p) (exists_forall-by true q)
  exists_forall-by false (implication p q) = two (exists_forall-by true p) (exists_forall-by false q)
  exists_forall-by true (equivalence p q) =
      four (exists_forall-by true p) (exists_forall-by false p) (exists_forall-by true q) (exists_forall-by false q)
  exists_forall-by false (equivalence p q) =
      crossed (exists_forall-by true p) (exists_forall-by false p) (exists_forall-by true q) (exists_forall-by false q)
  exists_forall-by true (for_all k p) = universal-by true p
  exists_forall-by false (for_all k p) = exists_forall-by false p
  exists_forall-by true (for_some k p) = exists_forall-by true p
  exists_forall-by false (for_some k p) = universal-by false p

  exists_foralls-by : (positive : Bool) (ps : FormTrees) → AreExistsForall positive ps
      ↔ HaveNoExistentialUnderUniversal (normal_forms positive ps)
  exists_foralls-by true no_forms = always
  exists_foralls-by false no_forms = always
  exists_foralls-by true (form_then p ps) = pair (exists_forall-by true p) (exists_foralls-by true ps)
  exists_foralls-by false (form_then p ps) = pair (exists_forall-by false p) (exists_foralls-by false ps)

pub universal_by_normal_form : UniversalByNormalForm
universal_by_normal_form positive p = universal-by positive p

pub exists_forall_by_normal_form : ExistsForallByNormalForm
exists_forall_by_normal_form positive p = exists_forall-by positive p

not-and : (a b : Bool) → not (a && b) ≡ not a || not b
not-and true b = refl
not-and false b = refl

not-or : (a b : Bool) → not (a || b) ≡ not a && not b
not-or true b = refl
not-or false b = refl

not-not : (a : Bool) → not (not a) ≡ a
not-not true = refl
not-not false = refl

not-implies : (a b : Bool) → not (not a || b) ≡ a && (not b && true)
not-implies true true = refl
not-implies true false = refl
not-implies false true = refl
not-implies false false = refl

implies : (a b : Bool) → not a || (b || false) ≡ not a || b
implies true true = refl
implies true false = refl
implies false true = refl
implies false false = refl

same : (a b : Bool) → (a && (b && true)) || ((not a && (not b && true)) || false) ≡ same_truth a b
same true true = refl
same true false = refl
same false true = refl
same false false = refl

other : (a b : Bool) → (a && (not b && true)) || ((not a && (b && true)) || false) ≡ not (same_truth a b)
other true true = refl
other true false = refl
other false true = refl
other false false = refl

module _ (s : Reading) where
  mutual
    keeps-truth : (positive : Bool) (p : FormTree) (env : List ℕ) → truth s (normal_form positive p) env
        ≡ same_truth positive (truth s p env)
    keeps-truth true top env = refl
    keeps-truth false top env = refl
    keeps-truth true bottom env = refl
    keeps-truth false bottom env = refl
    keeps-truth true (rel r args) env = refl
    keeps-truth false (rel r args) env = refl
    keeps-truth true (equal a b) env = refl
    keeps-truth false (equal a b) env = refl
    keeps-truth true (negation p) env = keeps-truth false p env
    keeps-truth false (negation p) env = keeps-truth true p env ∙ sym (not-not (truth s p env))
    keeps-truth true (conjunction ps) env = all-keep ps env
    keeps-truth false (conjunction ps) env = any-oppose ps env
    keeps-truth true (disjunction ps) env = any-keep ps env
    keeps-truth false (disjunction ps) env = all-oppose ps env
    keeps-truth true (implication p q) env =
        let e1 = keeps-truth false p env in let e2 = keeps-truth true q env in
        let e3 = implies (truth s p env) (truth s q env) in cc (e1, e2, e3)
    keeps-truth false (implication p q) env =
        let e1 = keeps-truth true p env in let e2 = keeps-truth false q env in
        let e3 = not-implies (truth s p env) (truth s q env) in cc (e1, e2, e3)
    keeps-truth true (equivalence p q) env =
        let e1 = keeps-truth true p env in
        let e2 = keeps-truth true q env in
        let e3 = keeps-truth false p env in
        let e4 = keeps-truth false q env in
        let e5 = same (truth s p env) (truth s q env) in
        cc (e1, e2, e3, e4, e5)
    keeps-truth false (equivalence p q) env =
        let e1 = keeps-truth true p env in
        let e2 = keeps-truth true q env in
        let e3 = keeps-truth false p env in
        let e4 = keeps-truth false q env in
        let e5 = other (truth s p env) (truth s q env) in
        cc (e1, e2, e3, e4, e5)
    keeps-truth true (for_all k p) env = all_below-same (s.size k) _ _ (λ x lt. keeps-truth true p (x ∷ env))
    keeps-truth false (for_all k p) env =
        any_below-same (s.size k) _ _ (λ x lt. keeps-truth false p (x ∷ env))
        ∙ any_below-opposite (s.size k) (λ x. truth s p (x ∷ env))
    keeps-truth true (for_some k p) env = any_below-same (s.size k) _ _ (λ x lt. keeps-truth true p (x ∷ env))
    keeps-truth false (for_some k p) env =
        all_below-same (s.size k) _ _ (λ x lt. keeps-truth false p (x ∷ env))
        ∙ all_below-opposite (s.size k) (λ x. truth s p (x ∷ env))

    all-keep : (ps : FormTrees) (env : List ℕ) → all_true s (normal_forms true ps) env ≡ all_true s ps env
    all-keep no_forms env = refl
    all-keep (form_then p ps) env = let e1 = keeps-truth true p env in let e2 = all-keep ps env in cc (e1, e2)

    any-keep : (ps : FormTrees) (env : List ℕ) → any_true s (normal_forms true ps) env ≡ any_true s ps env
    any-keep no_forms env = refl
    any-keep (form_then p ps) env = let e1 = keeps-truth true p env in let e2 = any-keep ps env in cc (e1, e2)

    any-oppose : (ps : FormTrees) (env : List ℕ) → any_true s (normal_forms false ps) env ≡ not (all_true s ps env)
    any-oppose no_forms env = refl
    any-oppose (form_then p ps) env =
        let e1 = keeps-truth false p env in let e2 = any-oppose ps env in
        let e3 = not-and (truth s p env) (all_true s ps env) in cc (e1, e2, e3)

    all-oppose : (ps : FormTrees) (env : List ℕ) → all_true s (normal_forms false ps) env ≡ not (any_true s ps env)
    all-oppose no_forms env = refl
    all-oppose (form_then p ps) env =
        let e1 = keeps-truth false p env in let e2 = all-oppose ps env in
        let e3 = not-or (truth s p env) (any_true s ps env) in cc (e1, e2, e3)

pub normal_form_keeps_truth : NormalFormKeepsTruth
normal_form_keeps_truth s positive p env = keeps-truth s positive p env

atom-stays : (p : FormTree) → IsPlainAtom p → normal_form false p ≡ negation p
atom-stays (rel r args) h = refl
atom-stays (equal a b) h = refl
atom-stays top h = absurd h
atom-stays bottom h = absurd h
atom-stays (negation p) h = absurd h
atom-stays (conjunction ps) h = absurd h
atom-stays (disjunction ps) h = absurd h
atom-stays (implication p q) h = absurd h
atom-stays (equivalence p q) h = absurd h
atom-stays (for_all k p) h = absurd h
atom-stays (for_some k p) h = absurd h

mutual
  stays : (p : FormTree) → IsNormalForm p → normal_form true p ≡ p
  stays top h = refl
  stays bottom h = refl
  stays (rel r args) h = refl
  stays (equal a b) h = refl
  stays (negation p) h = atom-stays p h
  stays (conjunction ps) h = ap conjunction (stay ps h)
  stays (disjunction ps) h = ap disjunction (stay ps h)
  stays (implication p q) h = absurd h
  stays (equivalence p q) h = absurd h
  stays (for_all k p) h = ap (for_all k) (stays p h)
  stays (for_some k p) h = ap (for_some k) (stays p h)

  stay : (ps : FormTrees) → AreNormalForms ps → normal_forms true ps ≡ ps
  stay no_forms h = refl
  stay (form_then p ps) h = ap (λ q. form_then q (normal_forms true ps)) (stays p h.0) ∙ ap (form_then p) (stay ps h.1)

pub normal_form_stays : NormalFormStays
normal_form_stays p h = stays p h
