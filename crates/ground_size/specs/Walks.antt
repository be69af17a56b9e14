-- What the walks over a sentence compute in 64 bits.
use Rattle.std.specs.Prelude.{ℕ, ◌+◌, List, [], ◌∷◌, slice_index, slice_set}
use Rattle.fol_sig.specs.Symbols.{Symbols}
use Rattle.fol_sig.specs.Tables.{tuple_count}
use Rattle.fol_formula.specs.Syntax.{
  FormTree,
  FormTrees,
  top,
  bottom,
  rel,
  equal,
  negation,
  conjunction,
  disjunction,
  implication,
  equivalence,
  for_all,
  for_some,
  no_forms,
  form_then,
}
use Rattle.fol_formula.specs.Counts.{saturated}
use Rattle.ground_terms.specs.TermCounts.{sum_below, or_one, application_count}

-- n more of a sort
abbrev pub raised_at : List ℕ → ℕ → ℕ → List ℕ
raised_at counts k n = slice_set counts k (saturated (slice_index counts k + n))

-- the counts with the existentials that a formula has in normal form, where it stands so many times as it is and so
-- many times negated
abbrev mutual
  pub raised : ℕ → ℕ → FormTree → List ℕ → List ℕ
  raised as_is negated top counts = counts
  raised as_is negated bottom counts = counts
  raised as_is negated (rel r args) counts = counts
  raised as_is negated (equal a b) counts = counts
  raised as_is negated (negation p) counts = raised negated as_is p counts
  raised as_is negated (conjunction ps) counts = all_raised as_is negated ps counts
  raised as_is negated (disjunction ps) counts = all_raised as_is negated ps counts
  raised as_is negated (implication p q) counts = raised as_is negated q (raised negated as_is p counts)
  raised as_is negated (equivalence p q) counts =
      raised (saturated (as_is + negated)) (saturated (as_is + negated)) q
      (raised (saturated (as_is + negated)) (saturated (as_is + negated)) p counts)
  raised as_is negated (for_all k p) counts = raised as_is negated p (raised_at counts k negated)
  raised as_is negated (for_some k p) counts = raised as_is negated p (raised_at counts k as_is)

  pub all_raised : ℕ → ℕ → FormTrees → List ℕ → List ℕ
  all_raised as_is negated no_forms counts = counts
  all_raised as_is negated (form_then p ps) counts = all_raised as_is negated ps (raised as_is negated p counts)

-- the tuples of terms that a function is applied to
abbrev pub own_count : Symbols → List ℕ → ℕ → ℕ
own_count sig counts f = tuple_count counts (sig.from_of f)

-- the terms of a sort with so many constants besides
abbrev pub capped_count : Symbols → ℕ → List ℕ → ℕ → ℕ
capped_count sig constants counts k =
    saturated (or_one (constants + sum_below sig.functions (application_count sig counts k)))

-- sort by sort, each from those before
abbrev pub capped_counts : Symbols → List ℕ → List ℕ → List ℕ → List ℕ
capped_counts sig constants [] counts = counts
capped_counts sig constants (k ∷ order) counts =
    capped_counts sig constants order (slice_set counts k (capped_count sig (slice_index constants k) counts k))
