-- A bound that is said by pairs is an exists-forall sentence of each signature that has the sort.
use Rattle.std.proofs.Common.{◌≡◌, ℕ, zero, suc, ◌+◌, ◌<◌, ◌≤◌, true, List, [], ◌∷◌, length, get_or, refl, arith}
use Rattle.fol_sig.specs.Symbols.{Symbols}
use Rattle.fol_formula.specs.Syntax.{FormTree, FormTrees, disjunction}
use Rattle.fol_formula.specs.Fits.{FitsForm, FitsForms}
use Rattle.fol_formula.specs.Fragments.{IsUniversal, AreUniversal, IsEa, HasPlainTerms, HavePlainTerms}
use Rattle.cti_minimise.specs.SizeBounds.{equations_with, pair_equations, for_all_times, pair_bound}

with-universal : (j i : ℕ) (others : FormTrees) → AreUniversal true others
    → AreUniversal true (equations_with j i others)
with-universal j zero others h = h
with-universal j (suc i) others h = (tt, with-universal j i others h)

with-plain : (j i : ℕ) (others : FormTrees) → HavePlainTerms others → HavePlainTerms (equations_with j i others)
with-plain j zero others h = h
with-plain j (suc i) others h = ((tt, tt), with-plain j i others h)

are-universal : (n : ℕ) → AreUniversal true (pair_equations n)
are-universal zero = tt
are-universal (suc n) = with-universal (suc n) (suc n) (pair_equations n) (are-universal n)

are-plain : (n : ℕ) → HavePlainTerms (pair_equations n)
are-plain zero = tt
are-plain (suc n) = with-plain (suc n) (suc n) (pair_equations n) (are-plain n)

times-universal : (n k : ℕ) (p : FormTree) → IsUniversal true p → IsUniversal true (for_all_times n k p)
times-universal zero k p h = h
times-universal (suc n) k p h = times-universal n k p h

times-plain : (n k : ℕ) (p : FormTree) → HasPlainTerms p → HasPlainTerms (for_all_times n k p)
times-plain zero k p h = h
times-plain (suc n) k p h = times-plain n k p h

pub pairs-ea : (k n : ℕ) → IsEa (pair_bound k n)
pairs-ea k n =
    let p = disjunction (pair_equations n) in
    (times-universal n k p (are-universal n), times-plain n k p (are-plain n))

module _ (sig : Symbols) (k : ℕ) where
  -- the first n indices are of the sort
  abbrev AreOfSort : ℕ → List ℕ → Type 0
  AreOfSort n sorts = (i : ℕ) → i < n → (i < length sorts) × (get_or sorts i 0 ≡ k)

  with-fits : (j i : ℕ) (others : FormTrees) (sorts : List ℕ) → i ≤ j → AreOfSort (suc j) sorts
      → FitsForms sig sorts others → FitsForms sig sorts (equations_with j i others)
  with-fits j zero others sorts le each h = h
  with-fits j (suc i) others sorts le each h =
      ((k, each i (omega (arith, le)), each j (omega arith)), with-fits j i others sorts (omega (arith, le)) each h)

  pairs-fit-under : (n : ℕ) (sorts : List ℕ) → AreOfSort (suc n) sorts → FitsForms sig sorts (pair_equations n)
  pairs-fit-under zero sorts each = tt
  pairs-fit-under (suc n) sorts each =
      with-fits (suc n) (suc n) (pair_equations n) sorts (omega arith) each
      (pairs-fit-under n sorts (λ i lt. each i (omega (arith, lt))))

  times-fit : (n done : ℕ) (p : FormTree) (sorts : List ℕ) → k < sig.sorts → AreOfSort done sorts
      → ((all : List ℕ) → AreOfSort (n + done) all → FitsForm sig all p) → FitsForm sig sorts (for_all_times n k p)
  times-fit zero done p sorts known each fits = fits sorts (λ i lt. each i (omega (arith, lt)))
  times-fit (suc n) done p sorts known each fits = (
    known,
    times-fit n (suc done) p (k ∷ sorts) known next
        (λ all h. fits all (λ i lt. h i (omega (arith, lt)))),
  )
    where
      next : AreOfSort (suc done) (k ∷ sorts)
      next zero lt = (omega arith, refl)
      next (suc i) lt = let at = each i (omega (arith, lt)) in let within = at.0 in (omega (arith, within), at.1)

pub pairs-fit : (sig : Symbols) (k n : ℕ) → k < sig.sorts → FitsForm sig [] (pair_bound k n)
pairs-fit sig k n known =
    times-fit sig k (suc n) 0 (disjunction (pair_equations n)) [] known (λ i lt. absurd (omega (arith, lt)))
    (λ all each. pairs-fit-under sig k n all (λ i lt. each i (omega (arith, lt))))
