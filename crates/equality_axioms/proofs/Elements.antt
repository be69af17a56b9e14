-- A tuple that is made of another with one element exchanged.
use Rattle.std.proofs.Common.{◌≡◌, ℕ, zero, suc, ◌+◌, ◌<◌, ◌≤◌, List, [], ◌∷◌, ◌++◌, length, get_or, set, take, refl}
use Rattle.std.proofs.Common.{sym, ap, ◌∙◌, subst, arith}
use Rattle.std.specs.Prelude.{◌≢◌}
use Rattle.fol_sig.specs.Tables.{InRange}
use Rattle.std.proofs.lemmas.List.{take_more, length-set, get_or-set_same, get_or-set_other, length-append, take_all}

-- the first n elements are there
pub record IsMade (xs ys : List ℕ) (place element n : ℕ) : Type 0 where
  pub long : length ys ≡ n
  pub made : ys ≡ take n (set xs place element)

more : (xs ys : List ℕ) (place element n x : ℕ) → n < length xs → x ≡ get_or (set xs place element) n 0
    → IsMade xs ys place element n → IsMade xs (ys ++ x ∷ []) place element (n + 1)
more xs ys place element n x lt e h = record {
  long = length-append ys (x ∷ []) ∙ ap (λ m. m + 1) h.long;
  made =
      ap (λ zs. zs ++ x ∷ []) h.made ∙ ap (λ z. take n (set xs place element) ++ z ∷ []) e
      ∙ sym (take_more (set xs place element) n 0 (subst (λ m. n < m) (sym (length-set xs place element)) lt));
}

pub new_element : (xs ys zs : List ℕ) (place element n : ℕ) → n < length xs → n ≡ place → zs ≡ ys ++ element ∷ []
    → IsMade xs ys place element n → IsMade xs zs place element (n + 1)
new_element xs ys zs place element n lt e p h =
    subst (λ ws. IsMade xs ws place element (n + 1)) (sym p)
    (more xs ys place element n element lt (sym (get_or-set_same xs n element 0 lt)
    ∙ ap (λ m. get_or (set xs m element) n 0) e) h)

pub old_element : (xs ys zs : List ℕ) (place element n : ℕ) → n < length xs → n ≢ place → zs ≡ ys ++ get_or xs n 0 ∷ []
    → IsMade xs ys place element n → IsMade xs zs place element (n + 1)
old_element xs ys zs place element n lt ne p h =
    subst (λ ws. IsMade xs ws place element (n + 1)) (sym p)
    (more xs ys place element n (get_or xs n 0) lt (sym (get_or-set_other xs place n element 0 ne)) h)

pub whole_tuple : (xs ys : List ℕ) (place element n : ℕ) → length xs ≤ n → IsMade xs ys place element n
    → ys ≡ set xs place element
whole_tuple xs ys place element n le h =
    h.made ∙ take_all n (set xs place element) (subst (λ m. m ≤ n) (sym (length-set xs place element)) le)

-- a tuple in range is in range with another element of the same sort in one place
pub exchanged : (sizes ks xs : List ℕ) (i y : ℕ) → InRange sizes ks xs → y < get_or sizes (get_or ks i 0) 0
    → i < length ks → InRange sizes ks (set xs i y)
exchanged sizes [] xs i y h lt l = absurd (omega arith)
exchanged sizes (k ∷ ks) [] i y h lt l = absurd h
exchanged sizes (k ∷ ks) (x ∷ xs) zero y h lt l = (lt, h.1)
exchanged sizes (k ∷ ks) (x ∷ xs) (suc i) y h lt l = (h.0, exchanged sizes ks xs i y h.1 lt (omega arith))

pub range-length : (sizes ks xs : List ℕ) → InRange sizes ks xs → length xs ≡ length ks
range-length sizes [] [] h = refl
range-length sizes [] (x ∷ xs) h = absurd h
range-length sizes (k ∷ ks) [] h = absurd h
range-length sizes (k ∷ ks) (x ∷ xs) h = ap suc (range-length sizes ks xs h.1)

pub ruleset elements = (new_element, old_element, whole_tuple)
