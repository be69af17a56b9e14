-- A bound on the size of a sort is an exists-forall sentence of each signature that has the sort.
use Rattle.std.proofs.Common.{◌≡◌, ℕ, zero, suc, ◌+◌, ◌<◌, true, List, [], ◌∷◌, length, get_or, refl, arith}
use Rattle.fol_sig.specs.Symbols.{Symbols}
use Rattle.fol_formula.specs.Syntax.{FormTree, for_all, disjunction}
use Rattle.fol_formula.specs.Fits.{FitsForm, FitsForms, BoundForm}
use Rattle.fol_formula.specs.Closed.{FitsIsBound}
use Rattle.fol_formula.specs.Fragments.{AreUniversal, IsEa, IsExistsForall, HasPlainTerms, HavePlainTerms}
use Rattle.cti_minimise.specs.SizeBounds.{equations, for_some_times, size_bound}

are-universal : (n : ℕ) → AreUniversal true (equations n)
are-universal zero = tt
are-universal (suc n) = (tt, are-universal n)

are-plain : (n : ℕ) → HavePlainTerms (equations n)
are-plain zero = tt
are-plain (suc n) = ((tt, tt), are-plain n)

times-exists : (n k : ℕ) (p : FormTree) → IsExistsForall true p → IsExistsForall true (for_some_times n k p)
times-exists zero k p h = h
times-exists (suc n) k p h = times-exists n k p h

times-plain : (n k : ℕ) (p : FormTree) → HasPlainTerms p → HasPlainTerms (for_some_times n k p)
times-plain zero k p h = h
times-plain (suc n) k p h = times-plain n k p h

pub bounds-ea : (k n : ℕ) → IsEa (size_bound k n)
bounds-ea k n =
    let p = for_all k (disjunction (equations n)) in
    (times-exists n k p (are-universal n), times-plain n k p (are-plain n))

module _ (sig : Symbols) (k : ℕ) where
  -- the first n indices are of the sort
  abbrev AreOfSort : ℕ → List ℕ → Type 0
  AreOfSort n sorts = (i : ℕ) → i < n → (i < length sorts) × (get_or sorts i 0 ≡ k)

  equations-fit : (n : ℕ) (sorts : List ℕ) → AreOfSort n sorts → FitsForms sig (k ∷ sorts) (equations n)
  equations-fit zero sorts each = tt
  equations-fit (suc n) sorts each =
      let at = each n (omega arith) in
      let within = at.0 in (
        (k, (omega arith, refl), (omega (arith, within), at.1)),
        equations-fit n sorts (λ i lt. each i (omega (arith, lt))),
      )

  times-fit : (n done : ℕ) (p : FormTree) (sorts : List ℕ) → k < sig.sorts → AreOfSort done sorts
      → ((all : List ℕ) → AreOfSort (n + done) all → FitsForm sig all p) → FitsForm sig sorts (for_some_times n k p)
  times-fit zero done p sorts known each fits = fits sorts (λ i lt. each i (omega (arith, lt)))
  times-fit (suc n) done p sorts known each fits = (
    known,
    times-fit n (suc done) p (k ∷ sorts) known next
        (λ all h. fits all (λ i lt. h i (omega (arith, lt)))),
  )
    where
      next : AreOfSort (suc done) (k ∷ sorts)
      next zero lt = (omega arith, refl)
      next (suc i) lt = let at = each i (omega (arith, lt)) in let within = at.0 in (omega (arith, within), at.1)

pub bounds-fit : (sig : Symbols) (k n : ℕ) → k < sig.sorts → FitsForm sig [] (size_bound k n)
bounds-fit sig k n known =
    times-fit sig k n 0 (for_all k (disjunction (equations n))) [] known (λ i lt. absurd (omega (arith, lt)))
    (λ all each. (known, equations-fit sig k n all (λ i lt. each i (omega (arith, lt)))))

-- a sentence that fits each signature with the sort has no free index
pub bound-closed : FitsIsBound → (said : ℕ → ℕ → FormTree)
    → ((sig : Symbols) (k n : ℕ) → k < sig.sorts → FitsForm sig [] (said k n)) → (k n : ℕ) → BoundForm 0 (said k n)
bound-closed bound said fits k n =
    let sig : Symbols = record {
      sorts = suc k;
      relations = 0;
      functions = 0;
      sorts_of = λ r. [];
      from_of = λ f. [];
      into_of = λ f. 0;
    } in
    bound sig [] (said k n) (fits sig k n (omega arith))
