-- The place of a tuple in a table.
use Rattle.std.proofs.Common.{◌≡◌, ℕ, zero, suc, ◌+◌, ◌*◌, ◌/◌, ◌%◌, ◌^◌, ◌<◌, ◌≤◌, List, [], ◌∷◌, length, get_or, drop}
use Rattle.std.proofs.Common.{refl, sym, ap, ◌∙◌, subst, arith, length-drop}
use Rattle.std.proofs.Math.Nat.{mul-le-mul_left, mul-le-mul_right}
use Rattle.std.proofs.lemmas.List.{drop_more, get_or-map, length-map}
use Rattle.std.proofs.lemmas.Nat.{div-mul-add, mod-mul-add}
use Rattle.std.proofs.lemmas.List.Elements.{All-get_or}
use Rattle.std.specs.Prelude.{All}
use Rattle.fol_sig.specs.declared.Sort.{Sort}
use Rattle.fol_sig.specs.Tables.{numbers, Tables, IsStructure, IsFullFunction, InRange, tuple_count, place_from}
use Rattle.fol_sig.specs.Tables.{place_of, function_at, fun_at, size_at}

pub InRange-length : (sizes ks xs : List ℕ) → InRange sizes ks xs → length ks ≡ length xs
InRange-length sizes [] [] h = refl
InRange-length sizes [] (x ∷ xs) h = absurd h
InRange-length sizes (k ∷ ks) [] h = absurd h
InRange-length sizes (k ∷ ks) (x ∷ xs) h = ap suc (InRange-length sizes ks xs h.1)

-- a tuple that is there counts
pub some_tuples : (sizes ks xs : List ℕ) → InRange sizes ks xs → 1 ≤ tuple_count sizes ks
some_tuples sizes [] [] h = omega arith
some_tuples sizes [] (x ∷ xs) h = absurd h
some_tuples sizes (k ∷ ks) [] h = absurd h
some_tuples sizes (k ∷ ks) (x ∷ xs) h =
    let n = get_or sizes k 0 in
    let low : 1 ≤ n = omega (arith, h.0) in
    omega (arith, mul-le-mul_left n (some_tuples sizes ks xs h.1))

-- one more element of a tuple
pub record Advances (before n x rest total : ℕ) : Type 0 where
  pub product : before * n < 2 ^ 63
  pub sum : before * n + x < 2 ^ 63
  pub room : (before * n + x + 1) * rest ≤ total

pub advances : (before n x rest total : ℕ) → x < n → 1 ≤ rest → (before + 1) * (n * rest) ≤ total → total < 2 ^ 63
    → Advances before n x rest total
advances before n x rest total lt one room small =
    let row : before * n + x + 1 ≤ (before + 1) * n = omega arith in
    let up : (before * n + x + 1) * rest ≤ (before + 1) * n * rest = mul-le-mul_right rest row in
    let low : (before * n + x + 1) * 1 ≤ (before * n + x + 1) * rest = mul-le-mul_left (before * n + x + 1) one in
    record { product = omega arith; sum = omega arith; room = omega arith }

-- one turn of the loop over a tuple, at a place whose sort is k
pub record Turn (sizes ks xs : List ℕ) (i at k : ℕ) : Type 0 where
  pub known : k < length sizes
  pub inside : i < length xs
  pub product : at * get_or sizes k 0 < 2 ^ 63
  pub sum : at * get_or sizes k 0 + get_or xs i 0 < 2 ^ 63
  pub place : place_from sizes at (drop i ks) (drop i xs)
      ≡ place_from sizes (at * get_or sizes k 0 + get_or xs i 0) (drop (i + 1) ks) (drop (i + 1) xs)
  pub rest : InRange sizes (drop (i + 1) ks) (drop (i + 1) xs)
  pub room : (at * get_or sizes k 0 + get_or xs i 0 + 1) * tuple_count sizes (drop (i + 1) ks) ≤ tuple_count sizes ks

turn : (sizes ks xs : List ℕ) (i at : ℕ) → All (λ k. k < length sizes) ks → i < length ks
    → InRange sizes (drop i ks) (drop i xs) → (at + 1) * tuple_count sizes (drop i ks) ≤ tuple_count sizes ks
    → tuple_count sizes ks < 2 ^ 63 → Turn sizes ks xs i at (get_or ks i 0)
turn sizes ks xs i at sorted lt h room small =
    let same = InRange-length sizes (drop i ks) (drop i xs) h in
    let inside : i < length xs = omega (arith, length-drop i ks, length-drop i xs) in
    let k = drop_more ks i 0 lt in
    let x = drop_more xs i 0 inside in
    let both = subst (λ zs. InRange sizes (get_or ks i 0 ∷ drop (i + 1) ks) zs) x
    (subst (λ ys. InRange sizes ys (drop i xs)) k h) in
    let room' = subst (λ m. (at + 1) * m ≤ tuple_count sizes ks) (ap (tuple_count sizes) k) room in
    let a = advances at (get_or sizes (get_or ks i 0) 0) (get_or xs i 0) _ (tuple_count sizes ks) both.0
    (some_tuples sizes _ _ both.1) room' small in
    record {
      known = sorted i 0 lt;
      inside = inside;
      product = a.product;
      sum = a.sum;
      place = ap (λ ys. place_from sizes at ys (drop i xs)) k
          ∙ ap (λ zs. place_from sizes at (get_or ks i 0 ∷ drop (i + 1) ks) zs) x;
      rest = both.1;
      room = a.room;
    }

-- the number of a sort in its list
pub number_at : (ks : List Sort) (i : ℕ) (d : Sort) → i < length ks → get_or (numbers ks) i 0 ≡ (get_or ks i d).0
number_at ks i d lt = get_or-map (λ (k : Sort). k.0) ks i d 0 lt

pub sort_turn : (sizes : List ℕ) (ks : List Sort) (xs : List ℕ) (i at : ℕ) (d : Sort)
    → All (λ k. k < length sizes) (numbers ks) → i < length ks → InRange sizes (drop i (numbers ks)) (drop i xs)
    → (at + 1) * tuple_count sizes (drop i (numbers ks)) ≤ tuple_count sizes (numbers ks)
    → tuple_count sizes (numbers ks) < 2 ^ 63 → Turn sizes (numbers ks) xs i at (get_or ks i d).0
sort_turn sizes ks xs i at d sorted lt h room small =
    let inside : i < length (numbers ks) = omega (arith, lt, length-map ks (λ (k : Sort). k.0)) in
    subst (Turn sizes (numbers ks) xs i at) (number_at ks i d lt)
    (turn sizes (numbers ks) xs i at sorted inside h room small)

-- two tuples with one place are one tuple
pub record SamePlace (a b : ℕ) (xs ys : List ℕ) : Type 0 where
  pub before : a ≡ b
  pub tuple : xs ≡ ys

pub same_place : (sizes ks xs ys : List ℕ) (a b : ℕ) → InRange sizes ks xs → InRange sizes ks ys
    → place_from sizes a ks xs ≡ place_from sizes b ks ys → SamePlace a b xs ys
same_place sizes [] [] [] a b hx hy e = record { before = e; tuple = refl }
same_place sizes [] [] (y ∷ ys) a b hx hy e = absurd hy
same_place sizes [] (x ∷ xs) ys a b hx hy e = absurd hx
same_place sizes (k ∷ ks) [] ys a b hx hy e = absurd hx
same_place sizes (k ∷ ks) (x ∷ xs) [] a b hx hy e = absurd hy
same_place sizes (k ∷ ks) (x ∷ xs) (y ∷ ys) a b hx hy e =
    let n = get_or sizes k 0 in
    let r = same_place sizes ks xs ys (a * n + x) (b * n + y) hx.1 hy.1 e in
    let d : a ≡ b = sym (div-mul-add a n x hx.0) ∙ ap (λ m. m / n) r.before ∙ div-mul-add b n y hy.0 in
    let m : x ≡ y = sym (mod-mul-add a n x hx.0) ∙ ap (λ m. m % n) r.before ∙ mod-mul-add b n y hy.0 in
    let t = r.tuple in
    record { before = d; tuple = cc }

-- a tuple's place is one of the table
pub place_from-room : (sizes ks xs : List ℕ) (before : ℕ) → InRange sizes ks xs
    → place_from sizes before ks xs + 1 ≤ (before + 1) * tuple_count sizes ks
place_from-room sizes [] [] before h = omega arith
place_from-room sizes [] (x ∷ xs) before h = absurd h
place_from-room sizes (k ∷ ks) [] before h = absurd h
place_from-room sizes (k ∷ ks) (x ∷ xs) before h =
    let n = get_or sizes k 0 in
    let rest = tuple_count sizes ks in
    let row : before * n + x + 1 ≤ (before + 1) * n = omega (arith, h.0) in
    let up : (before * n + x + 1) * rest ≤ (before + 1) * n * rest = mul-le-mul_right rest row in
    omega (arith, place_from-room sizes ks xs (before * n + x) h.1, up)

pub place_of-room : (sizes ks xs : List ℕ) → InRange sizes ks xs → place_of sizes ks xs < tuple_count sizes ks
unfolding place_of
place_of-room sizes ks xs h = omega (arith, place_from-room sizes ks xs 0 h)

pub place_from-base : (sizes ks xs : List ℕ) (base : ℕ) → InRange sizes ks xs
    → place_from sizes base ks xs ≡ base * tuple_count sizes ks + place_from sizes 0 ks xs
place_from-base sizes [] [] base h = omega arith
place_from-base sizes [] (x ∷ xs) base h = absurd h
place_from-base sizes (k ∷ ks) [] base h = absurd h
place_from-base sizes (k ∷ ks) (x ∷ xs) base h =
    let n = get_or sizes k 0 in
    let one = place_from-base sizes ks xs (base * n + x) h.1 in
    let two = place_from-base sizes ks xs (0 * n + x) h.1 in
    omega (arith, one, two)

pub place_from-below : (sizes ks xs : List ℕ) → InRange sizes ks xs → place_from sizes 0 ks xs < tuple_count sizes ks
place_from-below sizes ks xs h = omega (arith, place_from-room sizes ks xs 0 h)

pub InRange-at : (sizes ks xs : List ℕ) (i : ℕ) → InRange sizes ks xs → i < length ks
    → get_or xs i 0 < get_or sizes (get_or ks i 0) 0
InRange-at sizes [] xs i h lt = absurd (omega arith)
InRange-at sizes (k ∷ ks) [] i h lt = absurd h
InRange-at sizes (k ∷ ks) (x ∷ xs) zero h lt = h.0
InRange-at sizes (k ∷ ks) (x ∷ xs) (suc i) h lt = InRange-at sizes ks xs i h.1 (omega arith)

-- what a function gives is an element of its sort
pub fun_at-within : (s : Tables) (f : ℕ) (xs : List ℕ) → IsStructure s → f < length s.functions
    → InRange s.sizes (function_at s f).sorts xs → fun_at s f xs < size_at s (function_at s f).into
fun_at-within s f xs h lt inside =
    let t = All-get_or (IsFullFunction s.sizes) s.functions f (record { sorts = []; into = 0; cells = [] }) lt
    h.functions_full in
    let room : place_of s.sizes (function_at s f).sorts xs < length (function_at s f).cells =
    subst (λ n. place_of s.sizes (function_at s f).sorts xs < n) (sym t.full)
    (place_of-room s.sizes (function_at s f).sorts xs inside) in
    All-get_or (λ x. x < get_or s.sizes (function_at s f).into 0) (function_at s f).cells
    (place_of s.sizes (function_at s f).sorts xs) 0 room t.within
