-- Rows of numbers, as they are read and written.
use Rattle.std.proofs.Common.{
  ◌≡◌,
  ◌≢◌,
  ℕ,
  zero,
  suc,
  ◌<◌,
  List,
  [],
  ◌∷◌,
  length,
  get_or,
  set,
  map,
  refl,
  sym,
  ap,
  ◌∙◌,
  subst,
}
use Rattle.std.proofs.lemmas.List.{length-set, get_or-set_same, get_or-set_other, map-set, get_or-map, length-map}
use Rattle.std.proofs.Math.Seq.{map-set_same}
use Rattle.structure_back.specs.Rows.{Rows, row_of, looked_up, with_number}

pub length-at : (rows : Rows) (k : ℕ) → length (row_of rows k) ≡ get_or (map length rows) k 0
length-at [] k = refl
length-at (row ∷ rows) zero = refl
length-at (row ∷ rows) (suc k) = length-at rows k

pub long-set : (rows : Rows) (k x n : ℕ) → map length (with_number rows k x n) ≡ map length rows
long-set rows k x n = map-set_same length rows k (set (row_of rows k) x n) [] (length-set (row_of rows k) x n)

pub number-set : (rows : Rows) (k x n : ℕ) → k < length rows → x < length (row_of rows k)
    → looked_up (with_number rows k x n) k x ≡ n
number-set rows k x n lk lx = ap (λ row. get_or row x 0) (get_or-set_same rows k (set (row_of rows k) x n) [] lk)
    ∙ get_or-set_same (row_of rows k) x n 0 lx

pub number-other_row : (rows : Rows) (k x n q y : ℕ) → q ≢ k
    → looked_up (with_number rows k x n) q y ≡ looked_up rows q y
number-other_row rows k x n q y ne =
    ap (λ row. get_or row y 0) (get_or-set_other rows k q (set (row_of rows k) x n) [] ne)

pub number-other : (rows : Rows) (k x n y : ℕ) → k < length rows → y ≢ x
    → looked_up (with_number rows k x n) k y ≡ looked_up rows k y
number-other rows k x n y lk ne = ap (λ row. get_or row y 0) (get_or-set_same rows k (set (row_of rows k) x n) [] lk)
    ∙ get_or-set_other (row_of rows k) x y n 0 ne

-- rows that are seen as lists of numbers
pub set-view : {A : Type 0} (f : A → List ℕ) (rows : List A) (now : Rows) (k x n : ℕ) (row new : A)
    → map f rows ≡ now → k < length now → row ≡ get_or rows k row → f new ≡ set (f row) x n
    → map f (set rows k new) ≡ with_number now k x n
set-view f rows now k x n row new view lt read e =
    let room : k < length rows = subst (λ m. k < m) (sym (ap length view) ∙ length-map rows f) lt in
    let here : f row ≡ row_of now k = ap f read ∙ sym (get_or-map f rows k row [] room)
    ∙ ap (λ rs. get_or rs k []) view in
    map-set f rows k new ∙ ap (λ z. set (map f rows) k z) (e ∙ ap (λ zs. set zs x n) here)
    ∙ ap (λ rs. set rs k (set (row_of now k) x n)) view
