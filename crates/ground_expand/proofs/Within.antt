-- The ground term of a term stands in the list of its sort.
use Rattle.std.proofs.Common.{ℕ, ◌<◌, List, [], ◌∷◌, get_or, subst}
use Rattle.fol_sig.specs.Tables.{InRange}
use Rattle.fol_sig.specs.Symbols.{Symbols, AreSorted}
use Rattle.fol_sig.specs.Ranges.{RangesAreAlong}
use Rattle.fol_formula.specs.Syntax.{TermTree, TermTrees, bound, app, ite, no_terms, term_then}
use Rattle.fol_formula.specs.Fits.{FitsTerm, FitsTerms}
use Rattle.ground_terms.specs.Terms.{Lists, AreClosed, term_counts}
use Rattle.ground_terms.specs.Numberings.{Numbering, numbering, IsPlaced}
use Rattle.ground_expand.specs.Instance.{place_of_term, places_of_terms}
use Rattle.ground_expand.specs.Groundable.{IsGroundableTerm, AreGroundableTerms}

-- the place of an application is one of its sort
abbrev pub IsNumbered : Symbols → Numbering → Type 0
IsNumbered sig names = (f : ℕ) (xs : List ℕ) → f < sig.functions → InRange names.counts (sig.from_of f) xs
    → names.place f xs < get_or names.counts (sig.into_of f) 0

abbrev pub PlacesAreIn : Type 0
PlacesAreIn = (sig : Symbols) (lists : Lists) → AreSorted sig → AreClosed sig lists
    → IsNumbered sig (numbering sig lists)

pub places_are_in : ((sig : Symbols) (lists : Lists) (f : ℕ) (xs : List ℕ) → AreSorted sig → AreClosed sig lists
    → f < sig.functions → InRange (term_counts lists) (sig.from_of f) xs → IsPlaced sig lists f xs) → PlacesAreIn
places_are_in placed sig lists sorted closed f xs lt h = (placed sig lists f xs sorted closed lt h).within

module _ (along : RangesAreAlong) (sig : Symbols) (names : Numbering) (numbered : IsNumbered sig names) where
  mutual
    pub place-within : (t : TermTree) (sorts env : List ℕ) (k : ℕ) → IsGroundableTerm sig sorts t
        → FitsTerm sig sorts t k → InRange names.counts sorts env → place_of_term names t env < get_or names.counts k 0
    place-within (bound i) sorts env k g f e =
        subst (λ m. get_or env i 0 < get_or names.counts m 0) f.1 ((along names.counts sorts env e).each i f.0)
    place-within (app h args) sorts env k g f e =
        subst (λ m. names.place h (places_of_terms names args env) < get_or names.counts m 0) f.1
        (numbered h (places_of_terms names args env) f.0 (places-within args sorts env (sig.from_of h) g.3 f.3 e))
    place-within (ite c t u) sorts env k g f e = absurd g

    pub places-within : (ts : TermTrees) (sorts env ks : List ℕ) → AreGroundableTerms sig sorts ts
        → FitsTerms sig sorts ts ks → InRange names.counts sorts env
        → InRange names.counts ks (places_of_terms names ts env)
    places-within no_terms sorts env [] g f e = tt
    places-within no_terms sorts env (k ∷ ks) g f e = absurd f
    places-within (term_then t ts) sorts env [] g f e = absurd f
    places-within (term_then t ts) sorts env (k ∷ ks) g f e =
        (place-within t sorts env k g.0 f.0 e, places-within ts sorts env ks g.1 f.1 e)
