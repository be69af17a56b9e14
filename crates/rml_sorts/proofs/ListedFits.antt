-- The axiom of a sort whose elements are listed fits, and has plain terms.
use Rattle.std.proofs.Common.{◌≡◌, ◌<◌, ◌≤◌, ◌+◌, ℕ, zero, suc, List, [], ◌∷◌, ◌++◌, length, map, refl, sym, subst, arith}
use Rattle.std.specs.List.{AllByRecursion}
use Rattle.base.specs.Lists.{count_from}
use Rattle.base.proofs.Lists.{all_append}
use Rattle.fol_sig.specs.Tables.{Declared}
use Rattle.fol_sig.specs.Symbols.{Symbols, symbols}
use Rattle.fol_formula.specs.Syntax.{FormTree, forms_of, no_terms, bound, equal, for_all, disjunction}
use Rattle.fol_formula.specs.Fits.{FitsForm, FitsForms, FitsTerm, FitsTerms}
use Rattle.fol_formula.specs.Fragments.{HasPlainTerms, HavePlainTerms}
use Rattle.rml_sorts.specs.Listed.{constant, apart, apart_from, all_apart, is_one_of, listed_axiom}
use Rattle.rml_sorts.specs.Sound.{AreElements}

-- a name of an element of the sort
record IsElement (sig : Symbols) (sort f : ℕ) : Type 0 where
  known : f < sig.functions
  from : sig.from_of f ≡ []
  into : sig.into_of f ≡ sort

module _ (sig : Symbols) (sort : ℕ) (known : sort < sig.sorts) where
  forms_fit : (ks : List ℕ) (ps : List FormTree) → AllByRecursion (FitsForm sig ks) ps → FitsForms sig ks (forms_of ps)
  forms_fit ks [] h = tt
  forms_fit ks (p ∷ ps) h = (h.0, forms_fit ks ps h.1)

  constant_fits : (ks : List ℕ) (f : ℕ) → IsElement sig sort f → FitsTerm sig ks (constant f) sort
  constant_fits ks f e = (
    e.known,
    e.into,
    subst (λ (l : List ℕ). length l ≤ 8) (sym e.from) (omega arith),
    subst (FitsTerms sig ks no_terms) (sym e.from) tt,
  )

  apart_fit : (f : ℕ) (gs : List ℕ) → IsElement sig sort f → AllByRecursion (IsElement sig sort) gs
      → AllByRecursion (FitsForm sig []) (apart_from f gs)
  apart_fit f [] e es = tt
  apart_fit f (g ∷ gs) e es =
      ((sort, constant_fits [] f e, constant_fits [] g es.0), apart_fit f gs e es.1)

  all_fit : (fs : List ℕ) → AllByRecursion (IsElement sig sort) fs → AllByRecursion (FitsForm sig []) (all_apart fs)
  all_fit [] es = tt
  all_fit (f ∷ fs) es =
      all_append (FitsForm sig []) (apart_from f fs) (all_apart fs) (apart_fit f fs es.0 es.1) (all_fit fs es.1)

  one_fits : (fs : List ℕ) → AllByRecursion (IsElement sig sort) fs
      → AllByRecursion (FitsForm sig (sort ∷ [])) (is_one_of fs)
  one_fits [] es = tt
  one_fits (f ∷ fs) es =
      ((sort, (omega arith, refl), constant_fits (sort ∷ []) f es.0), one_fits fs es.1)

elements_from : (sig : Declared) (sort first k n : ℕ) → first ≤ k → k + n ≤ length sig.functions
    → AreElements sig sort first → AllByRecursion (IsElement (symbols sig) sort) (count_from k n)
elements_from sig sort first k zero from few are = tt
elements_from sig sort first k (suc n) from few are =
    let below : k < length sig.functions = omega (arith, few) in
    let is = are k from below in (
      record { known = below; from = is.0; into = is.1 },
      elements_from sig sort first (suc k) n (omega (arith, from)) (omega (arith, few)) are,
    )

pub listed_fits : (sig : Declared) (sort first n : ℕ) → sort < sig.sorts → length sig.functions ≡ first + n
    → AreElements sig sort first → FitsForm (symbols sig) [] (listed_axiom sort (count_from first n))
listed_fits sig sort first n known counted are =
    let fs = count_from first n in
    let es = elements_from sig sort first first n (omega arith) (omega (arith, counted)) are in
    let named = forms_fit (symbols sig) sort known (sort ∷ []) (is_one_of fs) (one_fits (symbols sig) sort known fs es) in
    let last = for_all sort (disjunction (forms_of (is_one_of fs))) in
    forms_fit (symbols sig) sort known [] (all_apart fs ++ last ∷ [])
    (all_append (FitsForm (symbols sig) []) (all_apart fs) (last ∷ []) (all_fit (symbols sig) sort known fs es)
    ((known, named), tt))

-- ---- plain terms

forms_plain : (ps : List FormTree) → AllByRecursion HasPlainTerms ps → HavePlainTerms (forms_of ps)
forms_plain [] h = tt
forms_plain (p ∷ ps) h = (h.0, forms_plain ps h.1)

apart_plain : (f : ℕ) (gs : List ℕ) → AllByRecursion HasPlainTerms (apart_from f gs)
apart_plain f [] = tt
apart_plain f (g ∷ gs) = ((tt, tt), apart_plain f gs)

all_plain : (fs : List ℕ) → AllByRecursion HasPlainTerms (all_apart fs)
all_plain [] = tt
all_plain (f ∷ fs) = all_append HasPlainTerms (apart_from f fs) (all_apart fs) (apart_plain f fs) (all_plain fs)

one_plain : (fs : List ℕ) → AllByRecursion HasPlainTerms (is_one_of fs)
one_plain [] = tt
one_plain (f ∷ fs) = ((tt, tt), one_plain fs)

pub listed_plain : (sort : ℕ) (fs : List ℕ) → HasPlainTerms (listed_axiom sort fs)
listed_plain sort fs =
    let last = for_all sort (disjunction (forms_of (is_one_of fs))) in
    forms_plain (all_apart fs ++ last ∷ [])
    (all_append HasPlainTerms (all_apart fs) (last ∷ []) (all_plain fs)
    (forms_plain (is_one_of fs) (one_plain fs), tt))
