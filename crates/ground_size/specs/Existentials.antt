-- The existentials of one sort in a normal form.
use Rattle.std.specs.Prelude.{◌≡◌, ℕ, ◌+◌, ◌<◌, ◌==◌, if◌then◌else◌, Bool, true, false, not, List, [], ◌∷◌, slice_index}
use Rattle.fol_formula.specs.Syntax.{FormTree, FormTrees, implication, equivalence, form_then}
use Rattle.fol_formula.specs.Counts.{saturated}
use Rattle.fol_formula.specs.NormalForms.{normal_form, normal_forms}
use Rattle.fol_formula.specs.Witnesses.{some_sorts, some_sorts_of}

-- how often a sort stands in a list
abbrev pub times : ℕ → List ℕ → ℕ
times k [] = 0
times k (q ∷ qs) = (if q == k then 1 else 0) + times k qs

-- the existentials of a sort in the normal form of a formula, or of its negation
abbrev pub some : ℕ → Bool → FormTree → ℕ
some k positive p = times k (some_sorts (normal_form positive p))

-- those of some formulas together
abbrev pub some_of_all : ℕ → Bool → FormTrees → ℕ
some_of_all k positive ps = times k (some_sorts_of (normal_forms positive ps))

-- these are the numbers of a sentence's existentials of each sort, but for what 64 bits do not hold
abbrev pub AreConstants : ℕ → FormTree → List ℕ → Type 0
AreConstants sorts p constants = (k : ℕ) → k < sorts → slice_index constants k ≡ saturated (some k true p)

-- the existentials are those of the parts: an equivalence has those of both sides and of the negations of both
pub record ExistentialsAreOfParts : Type 0 where
  pub of_implication : (k : ℕ) (positive : Bool) (p q : FormTree)
      → some k positive (implication p q) ≡ some k (not positive) p + some k positive q
  pub of_equivalence : (k : ℕ) (positive : Bool) (p q : FormTree) → some k positive (equivalence p q)
      ≡ (some k true p + some k false p) + (some k true q + some k false q)
  pub of_row : (k : ℕ) (positive : Bool) (p : FormTree) (ps : FormTrees)
      → some_of_all k positive (form_then p ps) ≡ some k positive p + some_of_all k positive ps
