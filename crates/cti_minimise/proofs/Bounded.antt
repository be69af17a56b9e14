-- Structures whose numbers are bounded, place by place.
use Rattle.std.proofs.Common.{◌≡◌, ◌⊎◌, ℕ, suc, ◌+◌, ◌<◌, ◌≤◌, true, List, [], ◌∷◌, ◌++◌, length, take, drop}
use Rattle.std.proofs.Common.{get_or}
use Rattle.std.proofs.Common.{inl, inr, refl, sym, ap, ◌∙◌, subst, ⊎_elim, arith}
use Rattle.std.specs.List.{AllByRecursion}
use Rattle.std.proofs.lemmas.List.{drop_more, length-take-le}
use Rattle.std.proofs.lemmas.Bool.{and_parts, and_from, cases_lt}
use Rattle.fol_sig.specs.Tables.{Tables, Declared, reading}
use Rattle.fol_sig.specs.Symbols.{FitsStructure, AreSorted, symbols}
use Rattle.fol_formula.specs.Syntax.{FormTree, forms_of}
use Rattle.fol_formula.specs.Truth.{all_true}
use Rattle.fol_formula.specs.Fits.{FitsForm}
use Rattle.fol_formula.specs.Fragments.{IsEa}
use Rattle.fol_formula.specs.Sentences.{satisfies, is_true}
use Rattle.cti_minimise.specs.Bounding.{bounds_by}
use Rattle.cti_minimise.specs.Extents.{extent, places}
use Rattle.cti_minimise.specs.Minimal.{IsSmaller}
use Rattle.cti_minimise.specs.Laws.{AreBounds, AreImplied}
use Rattle.cti_minimise.specs.Within.{AreAtMost}
use Rattle.cti_minimise.proofs.Extending.{length-extent}

-- bounded and not smaller, the first numbers are those of the second list
pub same-front : (xs ys : List ℕ) → AreAtMost xs ys → (IsSmaller xs ys → ⊥) → take (length ys) xs ≡ ys
same-front xs [] most not = refl
same-front [] (y ∷ ys) most not = absurd most
same-front (x ∷ xs) (y ∷ ys) most not =
    ⊎_elim
    (λ less. absurd (not (inl less)))
    (λ ge.
    let le = most.0 in
    let same : x ≡ y = omega (arith, ge, le) in
    ap (λ zs. x ∷ zs) (same-front xs ys most.1 (λ less. not (inr (same, less)))) ∙ ap (λ z. z ∷ ys) same)
    (cases_lt x y)

-- nothing is below an empty rest
pub none-below : (zs : List ℕ) → IsSmaller zs [] → ⊥
none-below [] h = h
none-below (z ∷ zs) h = h

-- no number is below the least one of its place
pub not-below-lowest : (xs ys : List ℕ) (n : ℕ) → (length ys < length xs → n ≤ get_or xs (length ys) 0)
    → IsSmaller xs (ys ++ n ∷ []) → IsSmaller xs ys
not-below-lowest [] ys n least less =
    elim ys as (λ (zs : List ℕ). IsSmaller [] (zs ++ n ∷ []) → IsSmaller [] zs)
    [ [] ↦ (λ h. absurd h) | z ∷ zs ↦ (λ h. absurd h) ] less
not-below-lowest (x ∷ xs) [] n least less =
    let some = least (omega arith) in
    ⊎_elim (λ below. absurd (omega (arith, below, some))) (λ same. absurd (none-below xs same.1)) less
not-below-lowest (x ∷ xs) (y ∷ ys) n least less =
    ⊎_elim
    (λ below. inl below)
    (λ same. inr (same.0, not-below-lowest xs ys n (λ lt. least (omega (arith, lt))) same.1))
    less

-- what is below the next bound is below this one, or within it
pub below-next : (xs ys : List ℕ) (n : ℕ) → IsSmaller xs (ys ++ (n + 1) ∷ [])
    → IsSmaller xs (ys ++ n ∷ []) ⊎ AreAtMost xs (ys ++ n ∷ [])
below-next [] ys n less = inl less
below-next (x ∷ xs) [] n less =
    ⊎_elim (λ below. inr (omega (arith, below), tt)) (λ same. absurd (none xs same.1)) less
  where
    none : (zs : List ℕ) → IsSmaller zs [] → ⊥
    none [] h = h
    none (z ∷ zs) h = h
below-next (x ∷ xs) (y ∷ ys) n less =
    ⊎_elim
    (λ below. inl (inl below))
    (λ same. ⊎_elim
    (λ smaller. inl (inr (same.0, smaller)))
    (λ within. let e = same.0 in inr (omega (arith, e), within))
    (below-next xs ys n same.1))
    less

-- what is below the next bound is below before it, or within this one
pub below-above : (xs ys : List ℕ) (n : ℕ) → IsSmaller xs (ys ++ (n + 1) ∷ [])
    → IsSmaller xs ys ⊎ AreAtMost xs (ys ++ n ∷ [])
below-above [] ys n less =
    elim ys as (λ (zs : List ℕ). IsSmaller [] (zs ++ (n + 1) ∷ []) → IsSmaller [] zs ⊎ AreAtMost [] (zs ++ n ∷ []))
    [ [] ↦ (λ h. absurd h) | z ∷ zs ↦ (λ h. absurd h) ] less
below-above (x ∷ xs) [] n less =
    ⊎_elim (λ below. inr (omega (arith, below), tt)) (λ same. absurd (none xs same.1)) less
  where
    none : (zs : List ℕ) → IsSmaller zs [] → ⊥
    none [] h = h
    none (z ∷ zs) h = h
below-above (x ∷ xs) (y ∷ ys) n less =
    ⊎_elim
    (λ below. inl (inl below))
    (λ same. ⊎_elim
    (λ smaller. inl (inr (same.0, smaller)))
    (λ within. let e = same.0 in inr (omega (arith, e), within))
    (below-above xs ys n same.1))
    less

-- bounds on more numbers are bounds on the first of them
pub at-most-front : (xs ys zs : List ℕ) → AreAtMost xs (ys ++ zs) → AreAtMost xs ys
at-most-front xs [] zs most = tt
at-most-front [] (y ∷ ys) zs most = most
at-most-front (x ∷ xs) (y ∷ ys) zs most = (most.0, at-most-front xs ys zs most.1)

module _ (said : ℕ → ℕ → FormTree) where
  -- bounds on some numbers, and then on one more
  pub bounds-append : (k : ℕ) (ns : List ℕ) (n : ℕ)
      → bounds_by said k (ns ++ n ∷ []) ≡ bounds_by said k ns ++ said (k + length ns) n ∷ []
  bounds-append k [] n = let same : k ≡ k + 0 = omega arith in ap (λ j. said j n ∷ []) same
  bounds-append k (x ∷ xs) n =
      let next : suc k + length xs ≡ k + suc (length xs) = omega arith in
      ap (λ ps. said k x ∷ ps)
      (bounds-append (suc k) xs n ∙ ap (λ j. bounds_by said (suc k) xs ++ said j n ∷ []) next)

  -- one bound more
  pub bounds-push : (numbers : List ℕ) (k n : ℕ) (p : FormTree) (items new : List FormTree) → k ≤ length numbers
      → items ≡ bounds_by said 0 (take k numbers) → p ≡ said k n → new ≡ items ++ p ∷ []
      → new ≡ bounds_by said 0 (take k numbers ++ n ∷ [])
  bounds-push numbers k n p items new le before is pushed =
      let count : 0 + length (take k numbers) ≡ k =
      let front = length-take-le k numbers le in omega (arith, front) in
      pushed ∙ ap (λ qs. qs ++ p ∷ []) before
      ∙ ap (λ q. bounds_by said 0 (take k numbers) ++ q ∷ []) (is ∙ ap (λ j. said j n) (sym count))
      ∙ sym (bounds-append 0 (take k numbers) n)

  module _ (sig : Declared) where
    module _ (laws : AreImplied sig said) where
      pub bounds-are-ea : (k : ℕ) (ns : List ℕ) → AllByRecursion IsEa (bounds_by said k ns)
      bounds-are-ea k [] = tt
      bounds-are-ea k (n ∷ ns) = (laws.fragment k n, bounds-are-ea (suc k) ns)

      pub bounds-all-fit : (k : ℕ) (ns : List ℕ) → AreSorted (symbols sig) → k + length ns ≤ places sig
          → AllByRecursion (FitsForm (symbols sig) []) (bounds_by said k ns)
      bounds-all-fit k [] sorted le = tt
      bounds-all-fit k (n ∷ ns) sorted le =
          (laws.fits k n sorted (omega (arith, le)), bounds-all-fit (suc k) ns sorted (omega (arith, le)))

    module _ (s : Tables) (fits : FitsStructure (symbols sig) s) where
      next-number : (k : ℕ) → k < places sig → drop k (extent s) ≡ get_or (extent s) k 0 ∷ drop (suc k) (extent s)
      next-number k lt =
          let e : k + 1 ≡ suc k = omega arith in
          let count = length-extent sig s fits in
          drop_more (extent s) k 0 (omega (arith, lt, count))
          ∙ ap (λ j. get_or (extent s) k 0 ∷ drop j (extent s)) e

      -- within bounds the structure satisfies them
      pub bounded : AreImplied sig said → (k : ℕ) (ns : List ℕ) → k + length ns ≤ places sig
          → AreAtMost (drop k (extent s)) ns → satisfies s (bounds_by said k ns) ≡ true
      bounded laws k [] le h = refl
      bounded laws k (n ∷ ns) le h =
          let lt : k < places sig = omega (arith, le) in
          let most = subst (λ (xs : List ℕ). AreAtMost xs (n ∷ ns)) (next-number k lt) h in
          and_from (is_true s (said k n)) (all_true (reading s) (forms_of (bounds_by said (suc k) ns)) [])
          (laws.implied s k n fits lt most.0) (bounded laws (suc k) ns (omega (arith, le)) most.1)

      -- it is within the bounds that it satisfies
      pub within : AreBounds sig said → (k : ℕ) (ns : List ℕ) → k + length ns ≤ places sig
          → satisfies s (bounds_by said k ns) ≡ true → AreAtMost (drop k (extent s)) ns
      within laws k [] le h = tt
      within laws k (n ∷ ns) le h =
          let lt : k < places sig = omega (arith, le) in
          let parts = and_parts (is_true s (said k n)) (all_true (reading s) (forms_of (bounds_by said (suc k) ns)) [])
          h in
          let here = (laws.exact s k n fits lt).0 parts.0 in
          subst (λ (xs : List ℕ). AreAtMost xs (n ∷ ns)) (sym (next-number k lt))
          (here, within laws (suc k) ns (omega (arith, le)) parts.1)
