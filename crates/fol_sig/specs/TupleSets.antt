-- Relations as the sets of tuples of which they are true.
use Rattle.std.specs.Prelude.{◌≡◌, ℕ, nat_eq, nat_lt, Bool, true, List, reverse, slice_index}
use Rattle.std.specs.List.{filter, list_any, list_all}
use Rattle.std.specs.Cmp.Lexicographic.{pointwise}
use Rattle.fol_sig.specs.Tables.{Tables, InRange, relation_at, rel_at}
use Rattle.fol_sig.specs.Tuples.{tuples}
use Rattle.fol_sig.specs.Updates.{with_relation}

-- whether a tuple is one of a list
abbrev pub has_tuple : List (List ℕ) → List ℕ → Bool
has_tuple xss xs = list_any (λ ys. pointwise nat_eq ys xs) xss

-- whether the tuple has an element of each of these sorts, as `InRange` says
abbrev pub is_in_range : List ℕ → List ℕ → List ℕ → Bool
is_in_range sizes ks xs = pointwise (λ k x. nat_lt x (slice_index sizes k)) ks xs

-- whether all of these tuples do
abbrev pub are_in_range : List ℕ → List ℕ → List (List ℕ) → Bool
are_in_range sizes ks xss = list_all (is_in_range sizes ks) xss

-- the structure where r is true of the tuples of which f is
abbrev pub with_table : Tables → ℕ → (List ℕ → Bool) → Tables
with_table s r f = with_relation s r (λ tuple. f (reverse tuple))

-- the structure where r is true of these tuples and of no others
abbrev pub with_tuples : Tables → ℕ → List (List ℕ) → Tables
with_tuples s r xss = with_table s r (has_tuple xss)

-- the tuples of r's sorts of which f is true, in lexicographic order
abbrev pub tuples_where : Tables → ℕ → (List ℕ → Bool) → List (List ℕ)
tuples_where s r f = filter f (tuples s.sizes (relation_at s r).sorts)

-- the tuples of which r is true, in lexicographic order
abbrev pub tuples_of : Tables → ℕ → List (List ℕ)
tuples_of s r = tuples_where s r (rel_at s r)

-- Tables that agree on the tuples of the relation's sorts are one table.
abbrev pub TablesAreExtensional : Type 0
TablesAreExtensional = (s : Tables) (r : ℕ) (f g : List ℕ → Bool)
    → ((xs : List ℕ) → InRange s.sizes (relation_at s r).sorts xs → f (reverse xs) ≡ g (reverse xs))
    → with_relation s r f ≡ with_relation s r g

-- Each table is that of the tuples of which it is true, and these are in range.
pub record IsItsTuples (s : Tables) (r : ℕ) (f : List ℕ → Bool) : Type 0 where
  pub in_range : are_in_range s.sizes (relation_at s r).sorts (tuples_where s r f) ≡ true
  pub same : with_tuples s r (tuples_where s r f) ≡ with_table s r f

-- whatever the truth values, the table of a relation is that of the tuples of which it is true
abbrev pub TablesAreTuples : Type 0
TablesAreTuples = (s : Tables) (r : ℕ) (f : List ℕ → Bool) → IsItsTuples s r f
