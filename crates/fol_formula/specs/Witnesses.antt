-- The existentials of a formula, and values that witness them.
use Rattle.std.specs.Prelude.{◌≡◌, ℕ, suc, ◌+◌, nat_lt, Bool, true, false, ◌&&◌, ◌||◌, List, [], ◌∷◌, ◌++◌, length}
use Rattle.std.specs.Prelude.{slice_index}
use Rattle.fol_sig.specs.Tables.{Reading}
use Rattle.fol_formula.specs.Syntax.{FormTree, FormTrees, top, bottom, rel, equal, negation, conjunction, disjunction}
use Rattle.fol_formula.specs.Syntax.{implication, equivalence, for_all, for_some, no_forms, form_then}
use Rattle.fol_formula.specs.Truth.{truth, all_below}
use Rattle.fol_formula.specs.Fragments.{IsUniversal, IsNormalForm}
use Rattle.fol_formula.specs.NormalForms.{normal_form, HasNoExistential, HasNoExistentialUnderUniversal}

-- The sorts of the existentials of a formula as it is written, in prefix order; those of terms don't count. The place
-- of an existential is its index in this list.
abbrev mutual
  pub some_sorts : FormTree → List ℕ
  some_sorts top = []
  some_sorts bottom = []
  some_sorts (rel r args) = []
  some_sorts (equal a b) = []
  some_sorts (negation p) = some_sorts p
  some_sorts (conjunction ps) = some_sorts_of ps
  some_sorts (disjunction ps) = some_sorts_of ps
  some_sorts (implication p q) = some_sorts p ++ some_sorts q
  some_sorts (equivalence p q) = some_sorts p ++ some_sorts q
  some_sorts (for_all k p) = some_sorts p
  some_sorts (for_some k p) = k ∷ some_sorts p

  pub some_sorts_of : FormTrees → List ℕ
  some_sorts_of no_forms = []
  some_sorts_of (form_then p ps) = some_sorts p ++ some_sorts_of ps

-- how many existentials a formula has as it is written; those of terms don't count
abbrev pub some_count : FormTree → ℕ
some_count p = length (some_sorts p)

-- how many existentials a formula has in normal form
abbrev pub existentials : FormTree → ℕ
existentials p = some_count (normal_form true p)

-- The truth of a formula in normal form where each existential has the value at its place, and its first one stands at
-- `at`: what the values make of the formula without its existentials.
abbrev mutual
  pub is_witnessed : Reading → List ℕ → ℕ → FormTree → List ℕ → Bool
  is_witnessed s witnesses at top env = truth s top env
  is_witnessed s witnesses at bottom env = truth s bottom env
  is_witnessed s witnesses at (rel r args) env = truth s (rel r args) env
  is_witnessed s witnesses at (equal a b) env = truth s (equal a b) env
  is_witnessed s witnesses at (negation p) env = truth s (negation p) env
  is_witnessed s witnesses at (conjunction ps) env = are_witnessed s witnesses at ps env
  is_witnessed s witnesses at (disjunction ps) env = one_is_witnessed s witnesses at ps env
  is_witnessed s witnesses at (implication p q) env = truth s (implication p q) env
  is_witnessed s witnesses at (equivalence p q) env = truth s (equivalence p q) env
  is_witnessed s witnesses at (for_all k p) env = all_below (s.size k) (λ x. is_witnessed s witnesses at p (x ∷ env))
  is_witnessed s witnesses at (for_some k p) env =
      nat_lt (slice_index witnesses at) (s.size k) && is_witnessed s witnesses (suc at) p
      (slice_index witnesses at ∷ env)

  pub are_witnessed : Reading → List ℕ → ℕ → FormTrees → List ℕ → Bool
  are_witnessed s witnesses at no_forms env = true
  are_witnessed s witnesses at (form_then p ps) env =
      is_witnessed s witnesses at p env && are_witnessed s witnesses (at + some_count p) ps env

  pub one_is_witnessed : Reading → List ℕ → ℕ → FormTrees → List ℕ → Bool
  one_is_witnessed s witnesses at no_forms env = false
  one_is_witnessed s witnesses at (form_then p ps) env =
      is_witnessed s witnesses at p env || one_is_witnessed s witnesses (at + some_count p) ps env

-- Witnessed is true.
abbrev pub WitnessedIsTrue : Type 0
WitnessedIsTrue = (s : Reading) (witnesses : List ℕ) (at : ℕ) (p : FormTree) (env : List ℕ)
    → is_witnessed s witnesses at p env ≡ true → truth s p env ≡ true

-- Where a formula with no existential under a universal is true, as the normal form of an exists-forall sentence, some
-- values for its existentials witness it.
abbrev pub WitnessesExist : Type 0
WitnessesExist = (s : Reading) (p : FormTree) (env : List ℕ) → HasNoExistentialUnderUniversal p → truth s p env ≡ true
    → (witnesses : List ℕ) × (length witnesses ≡ some_count p) × (is_witnessed s witnesses 0 p env ≡ true)

-- it has no existential, and is witnessed where it is true
pub record NeedsNoWitness (p : FormTree) : Type 0 where
  pub sorts : some_sorts p ≡ []
  pub witnessed : (s : Reading) (witnesses : List ℕ) (at : ℕ) (env : List ℕ)
      → is_witnessed s witnesses at p env ≡ truth s p env

-- a formula without existentials needs no witness
abbrev pub WithoutExistentials : Type 0
WithoutExistentials = (p : FormTree) → HasNoExistential p → NeedsNoWitness p

-- the normal form of a formula that is universal by polarity needs no witness
abbrev pub UniversalNeedsNoWitness : Type 0
UniversalNeedsNoWitness =
    (positive : Bool) (p : FormTree) → IsUniversal positive p → NeedsNoWitness (normal_form positive p)

-- a universal formula that is in normal form without `ite` needs no witness
abbrev pub UniversalNormalNeedsNoWitness : Type 0
UniversalNormalNeedsNoWitness = (p : FormTree) → IsUniversal true p → IsNormalForm p → NeedsNoWitness p
