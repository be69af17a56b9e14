-- Behind two texts: behind the second, behind the first.
use Rattle.std.proofs.Common.{◌≡◌, ℕ, Bool, true, false, List, [], ◌∷◌, ◌++◌, None, refl, cond}
use Rattle.std.specs.Prelude.{◌==◌}
use Rattle.line_scan.specs.Scanning.{behind}
use Rattle.report_values.specs.ValueReading.{on}

pub behind_append : (xs ys bs : List ℕ) → behind (xs ++ ys) bs ≡ on (behind xs bs) (behind ys)
behind_append [] ys bs = refl
behind_append (x ∷ xs) ys [] = refl
behind_append (x ∷ xs) ys (b ∷ bs) = by (b == x) (behind_append xs ys bs)
  where
    by : (t : Bool) → behind (xs ++ ys) bs ≡ on (behind xs bs) (behind ys)
        → cond t (behind (xs ++ ys) bs) None ≡ on (cond t (behind xs bs) None) (behind ys)
    by true h = h
    by false h = refl
