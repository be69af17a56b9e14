-- Tuples and their numbers.
use Rattle.std.proofs.Common.{◌≡◌, ℕ, zero, suc, ◌+◌, ◌*◌, ◌/◌, ◌%◌, ◌<◌, List, [], ◌∷◌, length, get_or, map, refl, sym}
use Rattle.std.proofs.Common.{ap, ◌∙◌, subst, arith}
use Rattle.std.proofs.lemmas.Nat.{div-mul-add, mod-mul-add, div-add-mod', div_below, mod_below}
use Rattle.std.proofs.lemmas.List.{length-map, get_or-map}
use Rattle.fol_sig.specs.Tables.{InRange, tuple_count, place_from, place_of}
use Rattle.fol_sig.specs.Tuples.{tuples, tuple_at, TuplesAreNumbered}
use Rattle.fol_sig.proofs.Joined.{length-join_below, get_or-join_below}
use Rattle.fol_sig.proofs.Places.{place_from-base, place_from-below, place_of-room}

-- the tuples that begin with x
abbrev row : List ℕ → List ℕ → ℕ → List (List ℕ)
row sizes ks x = map (λ xs. x ∷ xs) (tuples sizes ks)

length-tuples : (sizes ks : List ℕ) → length (tuples sizes ks) ≡ tuple_count sizes ks
length-tuples sizes [] = refl
length-tuples sizes (k ∷ ks) =
    length-join_below (get_or sizes k 0) (tuple_count sizes ks) (row sizes ks)
    (λ x. length-map (tuples sizes ks) (λ xs. x ∷ xs) ∙ length-tuples sizes ks)

length-row : (sizes ks : List ℕ) (x : ℕ) → length (row sizes ks x) ≡ tuple_count sizes ks
length-row sizes ks x = length-map (tuples sizes ks) (λ xs. x ∷ xs) ∙ length-tuples sizes ks

-- the first element counts for all tuples of the others
place_from-split : (sizes ks xs : List ℕ) (k x : ℕ) → InRange sizes ks xs
    → place_from sizes (0 * get_or sizes k 0 + x) ks xs ≡ x * tuple_count sizes ks + place_from sizes 0 ks xs
place_from-split sizes ks xs k x h = let e = place_from-base sizes ks xs (0 * get_or sizes k 0 + x) h in
    omega (arith, e)

get_or-tuples : (sizes ks xs d : List ℕ) → InRange sizes ks xs → get_or (tuples sizes ks) (place_from sizes 0 ks xs) d
    ≡ xs
get_or-tuples sizes [] [] d h = refl
get_or-tuples sizes [] (x ∷ xs) d h = absurd h
get_or-tuples sizes (k ∷ ks) [] d h = absurd h
get_or-tuples sizes (k ∷ ks) (x ∷ xs) d h =
    let p = place_from sizes 0 ks xs in
    let below = place_from-below sizes ks xs h.1 in
    ap (λ n. get_or (tuples sizes (k ∷ ks)) n d) (place_from-split sizes ks xs k x h.1)
    ∙ get_or-join_below (get_or sizes k 0) (tuple_count sizes ks) x p (row sizes ks) d (length-row sizes ks) h.0 below
    ∙ get_or-map (λ ys. x ∷ ys) (tuples sizes ks) p d d (subst (λ n. p < n) (sym (length-tuples sizes ks)) below)
    ∙ ap (λ ys. x ∷ ys) (get_or-tuples sizes ks xs d h.1)

-- where there are numbers below a product, both factors are positive
pub some_right : (a b n : ℕ) → n < a * b → 0 < b
some_right a zero n lt = absurd (omega (arith, lt))
some_right a (suc b) n lt = omega arith

pub some_left : (a b n : ℕ) → n < a * b → 0 < a
some_left zero b n lt = absurd (omega (arith, lt))
some_left (suc a) b n lt = omega arith

pub tuple_at-within : (sizes ks : List ℕ) (n : ℕ) → n < tuple_count sizes ks → InRange sizes ks (tuple_at sizes ks n)
tuple_at-within sizes [] n lt = tt
tuple_at-within sizes (k ∷ ks) n lt =
    let rest = tuple_count sizes ks in
    let some = some_right (get_or sizes k 0) rest n lt in
    (div_below n rest (get_or sizes k 0) some lt, tuple_at-within sizes ks (n % rest) (mod_below n rest some))

place_from-tuple_at : (sizes ks : List ℕ) (n : ℕ) → n < tuple_count sizes ks
    → place_from sizes 0 ks (tuple_at sizes ks n) ≡ n
place_from-tuple_at sizes [] n lt = omega arith
place_from-tuple_at sizes (k ∷ ks) n lt =
    let rest = tuple_count sizes ks in
    let some = some_right (get_or sizes k 0) rest n lt in
    let less = mod_below n rest some in
    place_from-split sizes ks (tuple_at sizes ks (n % rest)) k (n / rest) (tuple_at-within sizes ks (n % rest) less)
    ∙ ap (λ m. n / rest * rest + m) (place_from-tuple_at sizes ks (n % rest) less)
    ∙ div-add-mod' n rest

tuple_at-place_from : (sizes ks xs : List ℕ) → InRange sizes ks xs → tuple_at sizes ks (place_from sizes 0 ks xs) ≡ xs
tuple_at-place_from sizes [] [] h = refl
tuple_at-place_from sizes [] (x ∷ xs) h = absurd h
tuple_at-place_from sizes (k ∷ ks) [] h = absurd h
tuple_at-place_from sizes (k ∷ ks) (x ∷ xs) h =
    let rest = tuple_count sizes ks in
    let p = place_from sizes 0 ks xs in
    let lt : p < rest = place_from-below sizes ks xs h.1 in
    let e = place_from-split sizes ks xs k x h.1 in
    let d : place_from sizes (0 * get_or sizes k 0 + x) ks xs / rest ≡ x =
    ap (λ m. m / rest) e ∙ div-mul-add x rest p lt in
    let m : place_from sizes (0 * get_or sizes k 0 + x) ks xs % rest ≡ p =
    ap (λ m. m % rest) e ∙ mod-mul-add x rest p lt in
    ap (λ y. y ∷ tuple_at sizes ks (place_from sizes (0 * get_or sizes k 0 + x) ks xs % rest)) d
    ∙ ap (λ q. x ∷ tuple_at sizes ks q) m
    ∙ ap (λ ys. x ∷ ys) (tuple_at-place_from sizes ks xs h.1)

pub place_of-tuple_at : (sizes ks : List ℕ) (n : ℕ) → n < tuple_count sizes ks
    → place_of sizes ks (tuple_at sizes ks n) ≡ n
unfolding place_of
place_of-tuple_at sizes ks n lt = place_from-tuple_at sizes ks n lt

pub are_numbered : TuplesAreNumbered
unfolding place_of
are_numbered sizes ks = record {
  count = length-tuples sizes ks;
  place_within = place_of-room sizes ks;
  tuple_within = tuple_at-within sizes ks;
  tuple_of_place = tuple_at-place_from sizes ks;
  place_of_tuple = place_from-tuple_at sizes ks;
  listed = λ n lt. ap (λ m. get_or (tuples sizes ks) m []) (sym (place_from-tuple_at sizes ks n lt))
      ∙ get_or-tuples sizes ks (tuple_at sizes ks n) [] (tuple_at-within sizes ks n lt);
  once = λ xs ys hx hy e. sym (tuple_at-place_from sizes ks xs hx) ∙ ap (tuple_at sizes ks) e
      ∙ tuple_at-place_from sizes ks ys hy;
}
