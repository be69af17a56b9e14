-- Where a formula is witnessed it is true; without existentials the two are the same.
use Rattle.std.proofs.Common.{◌≡◌, ℕ, suc, ◌+◌, true, ◌&&◌, ◌||◌, List, [], ◌∷◌, ◌++◌, refl, ap, ◌∙◌, subst, ⊎_elim}
use Rattle.std.specs.Prelude.{slice_index, nat_lt}
use Rattle.std.proofs.lemmas.Bool.{ltb-true, or_cases, or_left, or_right, and_parts, and_from}
use Rattle.fol_sig.specs.Tables.{Reading}
use Rattle.fol_formula.specs.Syntax.{FormTree, FormTrees, top, bottom, rel, equal, negation, conjunction, disjunction}
use Rattle.fol_formula.specs.Syntax.{implication, equivalence, for_all, for_some, no_forms, form_then}
use Rattle.fol_formula.specs.Truth.{truth, all_true, any_true}
use Rattle.fol_formula.specs.NormalForms.{normal_form, HasNoExistential, HaveNoExistential}
use Rattle.fol_formula.specs.Witnesses.{some_sorts, some_sorts_of, some_count, is_witnessed, are_witnessed}
use Rattle.fol_formula.specs.Witnesses.{one_is_witnessed, WitnessedIsTrue, NeedsNoWitness, WithoutExistentials}
use Rattle.fol_formula.specs.Witnesses.{UniversalNeedsNoWitness, UniversalNormalNeedsNoWitness}
use Rattle.fol_formula.proofs.Below.{all_below-same, all_below-each, all_below-of_each, any_below-of_one}
use Rattle.fol_formula.proofs.NormalForms.{universal_by_normal_form, normal_form_stays}

module _ (s : Reading) (ws : List ℕ) where
  mutual
    sound : (at : ℕ) (p : FormTree) (env : List ℕ) → is_witnessed s ws at p env ≡ true → truth s p env ≡ true
    sound at top env e = e
    sound at bottom env e = e
    sound at (rel r args) env e = e
    sound at (equal a b) env e = e
    sound at (negation p) env e = e
    sound at (conjunction ps) env e = sound_all at ps env e
    sound at (disjunction ps) env e = sound_any at ps env e
    sound at (implication p q) env e = e
    sound at (equivalence p q) env e = e
    sound at (for_all k p) env e =
        all_below-of_each (s.size k) (λ x. truth s p (x ∷ env))
        (λ x lt. sound at p (x ∷ env) (all_below-each (s.size k) (λ y. is_witnessed s ws at p (y ∷ env)) e x lt))
    sound at (for_some k p) env e =
        let x = slice_index ws at in
        let h = and_parts (nat_lt x (s.size k)) (is_witnessed s ws (suc at) p (x ∷ env)) e in
        any_below-of_one (s.size k) (λ y. truth s p (y ∷ env)) x (ltb-true x (s.size k) h.0)
        (sound (suc at) p (x ∷ env) h.1)

    sound_all : (at : ℕ) (ps : FormTrees) (env : List ℕ) → are_witnessed s ws at ps env ≡ true
        → all_true s ps env ≡ true
    sound_all at no_forms env e = refl
    sound_all at (form_then p ps) env e =
        let h = and_parts (is_witnessed s ws at p env) (are_witnessed s ws (at + some_count p) ps env) e in
        and_from (truth s p env) (all_true s ps env) (sound at p env h.0) (sound_all (at + some_count p) ps env h.1)

    sound_any : (at : ℕ) (ps : FormTrees) (env : List ℕ) → one_is_witnessed s ws at ps env ≡ true
        → any_true s ps env ≡ true
    sound_any at no_forms env e = e
    sound_any at (form_then p ps) env e =
        ⊎_elim
        (λ h. or_left (truth s p env) (any_true s ps env) (sound at p env h))
        (λ h. or_right (truth s p env) (any_true s ps env) (sound_any (at + some_count p) ps env h))
        (or_cases (is_witnessed s ws at p env) (one_is_witnessed s ws (at + some_count p) ps env) e)

pub witnessed_is_true : WitnessedIsTrue
witnessed_is_true s ws at p env e = sound s ws at p env e

none_beside : (a b : List ℕ) → a ≡ [] → b ≡ [] → a ++ b ≡ []
none_beside a b e h = ap (λ z. z ++ b) e ∙ h

mutual
  none-sorts : (p : FormTree) → HasNoExistential p → some_sorts p ≡ []
  none-sorts top h = refl
  none-sorts bottom h = refl
  none-sorts (rel r args) h = refl
  none-sorts (equal a b) h = refl
  none-sorts (negation p) h = none-sorts p h
  none-sorts (conjunction ps) h = none-sorts_of ps h
  none-sorts (disjunction ps) h = none-sorts_of ps h
  none-sorts (implication p q) h = none_beside _ _ (none-sorts p h.0) (none-sorts q h.1)
  none-sorts (equivalence p q) h = none_beside _ _ (none-sorts p h.0) (none-sorts q h.1)
  none-sorts (for_all k p) h = none-sorts p h
  none-sorts (for_some k p) h = absurd h

  none-sorts_of : (ps : FormTrees) → HaveNoExistential ps → some_sorts_of ps ≡ []
  none-sorts_of no_forms h = refl
  none-sorts_of (form_then p ps) h = none_beside _ _ (none-sorts p h.0) (none-sorts_of ps h.1)

module _ (s : Reading) (ws : List ℕ) where
  mutual
    none-truth : (at : ℕ) (p : FormTree) (env : List ℕ) → HasNoExistential p
        → is_witnessed s ws at p env ≡ truth s p env
    none-truth at top env h = refl
    none-truth at bottom env h = refl
    none-truth at (rel r args) env h = refl
    none-truth at (equal a b) env h = refl
    none-truth at (negation p) env h = refl
    none-truth at (conjunction ps) env h = none-all at ps env h
    none-truth at (disjunction ps) env h = none-any at ps env h
    none-truth at (implication p q) env h = refl
    none-truth at (equivalence p q) env h = refl
    none-truth at (for_all k p) env h =
        all_below-same (s.size k) (λ x. is_witnessed s ws at p (x ∷ env)) (λ x. truth s p (x ∷ env))
        (λ x lt. none-truth at p (x ∷ env) h)
    none-truth at (for_some k p) env h = absurd h

    none-all : (at : ℕ) (ps : FormTrees) (env : List ℕ) → HaveNoExistential ps
        → are_witnessed s ws at ps env ≡ all_true s ps env
    none-all at no_forms env h = refl
    none-all at (form_then p ps) env h =
        let e1 = none-truth at p env h.0 in let e2 = none-all (at + some_count p) ps env h.1 in
        ap (λ b. b && are_witnessed s ws (at + some_count p) ps env) e1 ∙ ap (λ b. truth s p env && b) e2

    none-any : (at : ℕ) (ps : FormTrees) (env : List ℕ) → HaveNoExistential ps
        → one_is_witnessed s ws at ps env ≡ any_true s ps env
    none-any at no_forms env h = refl
    none-any at (form_then p ps) env h =
        let e1 = none-truth at p env h.0 in let e2 = none-any (at + some_count p) ps env h.1 in
        ap (λ b. b || one_is_witnessed s ws (at + some_count p) ps env) e1 ∙ ap (λ b. truth s p env || b) e2

pub without_existentials : WithoutExistentials
without_existentials p h = record { sorts = none-sorts p h; witnessed = λ s ws at env. none-truth s ws at p env h }

pub universal_needs_no_witness : UniversalNeedsNoWitness
universal_needs_no_witness positive p h =
    without_existentials (normal_form positive p) ((universal_by_normal_form positive p).0 h)

pub universal_normal_needs_no_witness : UniversalNormalNeedsNoWitness
universal_normal_needs_no_witness p h n =
    subst NeedsNoWitness (normal_form_stays p n) (universal_needs_no_witness true p h)
