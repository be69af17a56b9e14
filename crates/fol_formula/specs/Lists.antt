-- Lists of formulas and of terms beside the rows of their trees: what a loop that makes one of each needs.
use Rattle.std.specs.Prelude.{◌≡◌, ℕ, ◌+◌, ◌<◌, List, [], ◌∷◌, ◌++◌, length, map, drop, slice_index_or}
use Rattle.fol_sig.specs.Tables.{Reading}
use Rattle.fol_formula.specs.Syntax.{FormTree, FormTrees, TermTree, TermTrees, form_then, term_then, forms_then}
use Rattle.fol_formula.specs.Syntax.{terms_then, list_of_forms, list_of, size_of}
use Rattle.fol_formula.specs.View.{form, term, forms, terms}
use Rattle.fol_formula.specs.Truth.{value, values}
use Rattle.fol_formula.specs.declared.Formula.{Formula}
use Rattle.fol_formula.specs.declared.Term.{Term}

-- The list from a place on is the element there before the others; what is pushed stands behind what was made.
pub record FormLists : Type 0 where
  pub left : (ps : List Formula) (i : ℕ) (p : Formula) → i < length ps → p ≡ slice_index_or ps i p
      → forms (drop i ps) ≡ form_then (form p) (forms (drop (i + 1) ps))
  pub pushed : (made : List Formula) (p : Formula) (rest : FormTrees)
      → forms_then (map form (made ++ p ∷ [])) rest ≡ forms_then (map form made) (form_then (form p) rest)

-- the same of terms
pub record TermLists : Type 0 where
  pub left : (ts : List Term) (i : ℕ) (t : Term) → i < length ts → t ≡ slice_index_or ts i t
      → terms (drop i ts) ≡ term_then (term t) (terms (drop (i + 1) ts))
  pub pushed : (made : List Term) (t : Term) (rest : TermTrees)
      → terms_then (map term (made ++ t ∷ [])) rest ≡ terms_then (map term made) (term_then (term t) rest)

-- One turn of a loop that pushes what it makes of each element, where F makes the whole of a row and G of its first:
-- what was made, before what F makes of the elements that are left, stays as it was.
abbrev pub FormTurns : Type 0
FormTurns =
    (F : FormTrees → FormTrees) (G : FormTree → FormTree) (ps made more : List Formula) (i : ℕ) (p new : Formula)
    (whole : FormTrees)
    → ((q : FormTree) (rest : FormTrees) → F (form_then q rest) ≡ form_then (G q) (F rest))
    → i < length ps → p ≡ slice_index_or ps i p → more ≡ made ++ new ∷ [] → form new ≡ G (form p)
    → forms_then (map form made) (F (forms (drop i ps))) ≡ whole
    → forms_then (map form more) (F (forms (drop (i + 1) ps))) ≡ whole

-- the same of terms
abbrev pub TermTurns : Type 0
TermTurns =
    (F : TermTrees → TermTrees) (G : TermTree → TermTree) (ts made more : List Term) (i : ℕ) (t new : Term)
    (whole : TermTrees)
    → ((u : TermTree) (rest : TermTrees) → F (term_then u rest) ≡ term_then (G u) (F rest))
    → i < length ts → t ≡ slice_index_or ts i t → more ≡ made ++ new ∷ [] → term new ≡ G (term t)
    → terms_then (map term made) (F (terms (drop i ts))) ≡ whole
    → terms_then (map term more) (F (terms (drop (i + 1) ts))) ≡ whole

-- the row of a list's trees, one by one
pub record RowsAreLists : Type 0 where
  pub form_list : (ps : List Formula) → list_of_forms (forms ps) ≡ map form ps
  pub term_list : (ts : List Term) → list_of (terms ts) ≡ map term ts
  pub term_count : (ts : List Term) → size_of (terms ts) ≡ length ts
  pub value_list : (s : Reading) (ts : TermTrees) (env : List ℕ) → values s ts env
      ≡ map (λ t. value s t env) (list_of ts)
