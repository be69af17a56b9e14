-- A formula without existentials has no constants.
use Rattle.std.proofs.Common.{◌≡◌, ℕ, ◌+◌, false, true≢false, List, [], ◌++◌, length, refl, ap}
use Rattle.std.proofs.lemmas.Bool.{or_parts}
use Rattle.fol_formula.specs.Syntax.{FormTree, FormTrees, top, bottom, rel, equal, negation}
use Rattle.fol_formula.specs.Syntax.{conjunction, disjunction, implication, equivalence, for_all, for_some, no_forms}
use Rattle.fol_formula.specs.Syntax.{form_then}
use Rattle.fol_pool.specs.Facts.{has_existential, have_existential}
use Rattle.skolem.specs.Constants.{Slot, new_sorts, all_new_sorts, skolem_form, skolem_forms, named_form, named_forms}

mutual
  pub no_sorts : (p : FormTree) → has_existential p ≡ false → new_sorts p ≡ []
  no_sorts top h = refl
  no_sorts bottom h = refl
  no_sorts (rel r args) h = refl
  no_sorts (equal a b) h = refl
  no_sorts (negation p) h = refl
  no_sorts (conjunction ps) h = no_sorts_of ps h
  no_sorts (disjunction ps) h = no_sorts_of ps h
  no_sorts (implication p q) h = refl
  no_sorts (equivalence p q) h = refl
  no_sorts (for_all k p) h = refl
  no_sorts (for_some k p) h = absurd (true≢false h)

  no_sorts_of : (ps : FormTrees) → have_existential ps ≡ false → all_new_sorts ps ≡ []
  no_sorts_of no_forms h = refl
  no_sorts_of (form_then p ps) h =
      let none = or_parts (has_existential p) (have_existential ps) h in
      λ i. no_sorts p none.0 i ++ no_sorts_of ps none.1 i

module _ (scope : List Slot) where
  mutual
    pub stays : (p : FormTree) (next : ℕ) → has_existential p ≡ false → skolem_form next scope p ≡ named_form scope p
    stays top next h = refl
    stays bottom next h = refl
    stays (rel r args) next h = refl
    stays (equal a b) next h = refl
    stays (negation p) next h = refl
    stays (conjunction ps) next h = ap conjunction (stay ps next h)
    stays (disjunction ps) next h = ap disjunction (stay ps next h)
    stays (implication p q) next h = refl
    stays (equivalence p q) next h = refl
    stays (for_all k p) next h = refl
    stays (for_some k p) next h = absurd (true≢false h)

    stay : (ps : FormTrees) (next : ℕ) → have_existential ps ≡ false
        → skolem_forms next scope ps ≡ named_forms scope ps
    stay no_forms next h = refl
    stay (form_then p ps) next h =
        let none = or_parts (has_existential p) (have_existential ps) h in
        λ i. form_then (stays p next none.0 i) (stay ps (next + length (new_sorts p)) none.1 i)
