-- Turns of the loops that write the axiom of a listed sort.
use Rattle.std.proofs.Common.{◌≡◌, ◌<◌, ◌≤◌, ◌+◌, ◌-◌, ℕ, suc, List, [], ◌∷◌, ◌++◌, map, refl, sym, ap, ◌∙◌, arith}
use Rattle.std.proofs.Common.{append_assoc}
use Rattle.std.proofs.lemmas.List.{map-append}
use Rattle.base.specs.Lists.{count_from}
use Rattle.fol_formula.specs.Syntax.{FormTree}
use Rattle.fol_formula.specs.View.{form}
use Rattle.fol_formula.specs.declared.Formula.{Formula}

-- the numbers from k to n
pub count_step : (k n : ℕ) → k < n → count_from k (n - k) ≡ k ∷ count_from (k + 1) (n - (k + 1))
count_step k n h =
    let more : n - k ≡ suc (n - (k + 1)) = omega arith in
    let next : suc k ≡ k + 1 = omega arith in
    ap (count_from k) more ∙ ap (λ (j : ℕ). k ∷ count_from j (n - (k + 1))) next

-- One turn of a loop over numbers, of which each makes a piece: F makes what the numbers left make, G what one makes
-- before others.
module _ (F : List ℕ → List FormTree) (G : ℕ → List ℕ → List FormTree)
    (by : (k : ℕ) (ks : List ℕ) → F (k ∷ ks) ≡ G k ks ++ F ks) where
  pub number_turn : (k n : ℕ) (old new : List Formula) (front : List FormTree) → k < n
      → map form new ≡ map form old ++ G k (count_from (k + 1) (n - (k + 1)))
      → map form old ++ F (count_from k (n - k)) ≡ front
      → map form new ++ F (count_from (k + 1) (n - (k + 1))) ≡ front
  number_turn k n old new front lt more so =
      let ks = count_from (k + 1) (n - (k + 1)) in
      ap (λ (l : List FormTree). l ++ F ks) more ∙ append_assoc (map form old) (G k ks) (F ks)
      ∙ ap (λ (l : List FormTree). map form old ++ l) (sym (by k ks) ∙ ap F (sym (count_step k n lt))) ∙ so

-- one formula more
pub pushed_form : (old new : List Formula) (p : Formula) (tree : FormTree) → new ≡ old ++ p ∷ [] → form p ≡ tree
    → map form new ≡ map form old ++ tree ∷ []
pushed_form old new p tree more is =
    ap (map form) more ∙ map-append form old (p ∷ []) ∙ ap (λ (t : FormTree). map form old ++ t ∷ []) is
