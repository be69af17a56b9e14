-- The texts of tuples in a line: which tuple stands in front is told by the text, and the tuples of some sorts stand in
-- the order of their numbers.
use Rattle.std.proofs.Common.{◌≡◌, ℕ, zero, suc, ◌+◌, ◌<◌, ◌≤◌, Bool, true, false, List, [], ◌∷◌, ◌++◌, length, map}
use Rattle.std.proofs.Common.{drop}
use Rattle.std.proofs.Common.{Option, Some, None, refl, sym, ap, ◌∙◌, cond, arith, append_assoc, append-nil, get_or}
use Rattle.std.proofs.Common.{add-one}
use Rattle.std.specs.Prelude.{codes, decimal, slice_index}
use Rattle.std.specs.List.{AllByRecursion, flat_map}
use Rattle.base.specs.Lists.{count_from}
use Rattle.base.proofs.Lists.{flat_map-append}
use Rattle.std.proofs.lemmas.List.{drop_more}
use Rattle.fol_sig.specs.Tables.{RelationTable, FunctionTable, InRange, tuple_count, place_of, cell_at}
use Rattle.fol_sig.specs.Tuples.{join_below, tuples, tuple_at, AreNumbered}
use Rattle.rml_report.specs.TableText.{each_tuple, more_text, tuple_text}
use Rattle.line_scan.specs.Scanning.{behind, number_at, most}
use Rattle.line_scan.specs.Laws.{ScansAreExact, ends_number}
use Rattle.report_values.specs.ValueReading.{tuples_from, all_tuples}

-- the texts of those tuples that are true
abbrev pub truths_text : List (List ℕ) → List Bool → List ℕ
truths_text [] bs = []
truths_text (xs ∷ ts) [] = []
truths_text (xs ∷ ts) (b ∷ bs) = cond b (tuple_text xs) [] ++ truths_text ts bs

-- the texts of tuples with their values
abbrev pub images_text : List (List ℕ) → List ℕ → List ℕ
images_text [] vs = []
images_text (xs ∷ ts) [] = []
images_text (xs ∷ ts) (v ∷ vs) = ((tuple_text xs ++ codes "->") ++ decimal v) ++ images_text ts vs

-- no tuple stands twice
abbrev pub Distinct : List (List ℕ) → Type 0
Distinct [] = Unit {0}
Distinct (xs ∷ ts) = AllByRecursion (λ ys. xs ≡ ys → ⊥) ts × Distinct ts

abbrev number_in : Option (ℕ × List ℕ) → ℕ
number_in None = 0
number_in (Some p) = p.0

abbrev rest_in : Option (ℕ × List ℕ) → List ℕ
rest_in None = []
rest_in (Some p) = p.1

ends_more : (xs r : List ℕ) → ends_number (more_text xs ++ 41 ∷ r) ≡ true
unfolding more_text
ends_more [] r = refl
ends_more (x ∷ xs) r = refl

module _ (x : ScansAreExact) (sizes : List ℕ) (small : (k : ℕ) → slice_index sizes k ≤ most) where
  same_number : (a b : ℕ) (p q : List ℕ) → a ≤ most → b ≤ most → ends_number p ≡ true → ends_number q ≡ true
      → decimal a ++ p ≡ decimal b ++ q → (a ≡ b) × (p ≡ q)
  same_number a b p q la lb ea eb e =
      let h : Some (a, p) ≡ Some (b, q) =
      sym (x.number_there a p la ea) ∙ ap number_at e ∙ x.number_there b q lb eb in
      (ap number_in h, ap rest_in h)

  in_size : (k n : ℕ) → n < slice_index sizes k → n ≤ most
  in_size k n lt = omega (arith, small k)

  more_same : (ks xs ys r s : List ℕ) → InRange sizes ks xs → InRange sizes ks ys
      → more_text xs ++ 41 ∷ r ≡ more_text ys ++ 41 ∷ s → xs ≡ ys
  unfolding more_text
  more_same [] [] [] r s h k e = refl
  more_same [] [] (y ∷ ys) r s h k e = absurd k
  more_same [] (y ∷ ys) zs r s h k e = absurd h
  more_same (j ∷ ks) [] ys r s h k e = absurd h
  more_same (j ∷ ks) (y ∷ ys) [] r s h k e = absurd k
  more_same (j ∷ ks) (y ∷ ys) (z ∷ zs) r s h k e =
      let a : decimal y ++ (more_text ys ++ 41 ∷ r) ≡ decimal z ++ (more_text zs ++ 41 ∷ s) =
      sym (append_assoc (decimal y) (more_text ys) (41 ∷ r)) ∙ (let t : (decimal y ++ more_text ys) ++ 41 ∷ r
      ≡ (decimal z ++ more_text zs) ++ 41 ∷ s = cc e in t) ∙ append_assoc (decimal z) (more_text zs) (41 ∷ s) in
      let b = same_number y z (more_text ys ++ 41 ∷ r) (more_text zs ++ 41 ∷ s) (in_size j y h.0) (in_size j z k.0)
      (ends_more ys r) (ends_more zs s) a in
      ap (λ n. n ∷ ys) b.0 ∙ ap (λ (l : List ℕ). z ∷ l) (more_same ks ys zs r s h.1 k.1 b.1)

  pub tuple_same : (ks xs ys r s : List ℕ) → InRange sizes ks xs → InRange sizes ks ys
      → tuple_text xs ++ r ≡ tuple_text ys ++ s → xs ≡ ys
  unfolding tuple_text
  tuple_same [] [] [] r s h k e = refl
  tuple_same [] [] (y ∷ ys) r s h k e = absurd k
  tuple_same [] (y ∷ ys) zs r s h k e = absurd h
  tuple_same (j ∷ ks) [] ys r s h k e = absurd h
  tuple_same (j ∷ ks) (y ∷ ys) [] r s h k e = absurd k
  tuple_same (j ∷ ks) (y ∷ ys) (z ∷ zs) r s h k e =
      let a : decimal y ++ (more_text ys ++ 41 ∷ r) ≡ decimal z ++ (more_text zs ++ 41 ∷ s) =
      sym (append_assoc (decimal y) (more_text ys) (41 ∷ r))
      ∙ sym (append_assoc (decimal y ++ more_text ys) (codes ")") r)
      ∙ (let t : ((decimal y ++ more_text ys) ++ codes ")") ++ r ≡ ((decimal z ++ more_text zs) ++ codes ")") ++ s =
      cc e in t)
      ∙ append_assoc (decimal z ++ more_text zs) (codes ")") s ∙ append_assoc (decimal z) (more_text zs) (41 ∷ s) in
      let b = same_number y z (more_text ys ++ 41 ∷ r) (more_text zs ++ 41 ∷ s) (in_size j y h.0) (in_size j z k.0)
      (ends_more ys r) (ends_more zs s) a in
      ap (λ n. n ∷ ys) b.0 ∙ ap (λ (l : List ℕ). z ∷ l) (more_same ks ys zs r s h.1 k.1 b.1)

  at_end : (xs : List ℕ) → behind (tuple_text xs) (codes "\n") ≡ None
  unfolding tuple_text
  at_end xs = refl

  -- another tuple does not stand in front
  not_behind : (ks xs ys rest : List ℕ) → InRange sizes ks xs → InRange sizes ks ys → (xs ≡ ys → ⊥)
      → behind (tuple_text xs) (tuple_text ys ++ rest) ≡ None
  not_behind ks xs ys rest h k differ = by (behind (tuple_text xs) (tuple_text ys ++ rest)) refl
    where
      by : (o : Option (List ℕ)) → behind (tuple_text xs) (tuple_text ys ++ rest) ≡ o
          → behind (tuple_text xs) (tuple_text ys ++ rest) ≡ None
      by None is = is
      by (Some r) is = absurd (differ (sym (tuple_same ks ys xs rest r k h
          (x.behind_sound (tuple_text xs) (tuple_text ys ++ rest) r is))))

  pub none_in_front : (ks xs : List ℕ) (ts : List (List ℕ)) (bs : List Bool) → InRange sizes ks xs
      → AllByRecursion (InRange sizes ks) ts → AllByRecursion (λ ys. xs ≡ ys → ⊥) ts
      → behind (tuple_text xs) (truths_text ts bs ++ codes "\n") ≡ None
  none_in_front ks xs [] bs h all others = at_end xs
  none_in_front ks xs (ys ∷ ts) [] h all others = at_end xs
  none_in_front ks xs (ys ∷ ts) (false ∷ bs) h all others = none_in_front ks xs ts bs h all.1 others.1
  none_in_front ks xs (ys ∷ ts) (true ∷ bs) h all others =
      ap (behind (tuple_text xs)) (append_assoc (tuple_text ys) (truths_text ts bs) (codes "\n"))
      ∙ not_behind ks xs ys (truths_text ts bs ++ codes "\n") h all.0 others.0

-- the tuples from a number on
count_is : (F : ℕ → List ℕ) (n k : ℕ) → length (map F (count_from k n)) ≡ n
count_is F zero k = refl
count_is F (suc n) k = ap suc (count_is F n (suc k))

pub length-tuples_from : (sizes ks : List ℕ) (k n : ℕ) → length (tuples_from sizes ks k n) ≡ n
length-tuples_from sizes ks k n = count_is (tuple_at sizes ks) n k

module _ (sizes ks : List ℕ) (num : AreNumbered sizes ks) where
  pub in_range : (n k : ℕ) → k + n ≤ tuple_count sizes ks
      → AllByRecursion (InRange sizes ks) (map (tuple_at sizes ks) (count_from k n))
  in_range zero k le = tt
  in_range (suc n) k le = (num.tuple_within k (omega arith), in_range n (suc k) (omega arith))

  others : (n j k : ℕ) → j < k → k + n ≤ tuple_count sizes ks
      → AllByRecursion (λ ys. tuple_at sizes ks j ≡ ys → ⊥) (map (tuple_at sizes ks) (count_from k n))
  others zero j k lt le = tt
  others (suc n) j k lt le = (
    λ e. let same : j ≡ k = sym (num.place_of_tuple j (omega arith)) ∙ ap (place_of sizes ks) e
        ∙ num.place_of_tuple k (omega arith) in absurd (omega (arith, same)),
    others n j (suc k) (omega arith) (omega arith),
  )

  pub distinct : (n k : ℕ) → k + n ≤ tuple_count sizes ks → Distinct (map (tuple_at sizes ks) (count_from k n))
  distinct zero k le = tt
  distinct (suc n) k le = (others n k (suc k) (omega arith) (omega arith), distinct n (suc k) (omega arith))

-- a list, by its elements
list_is : {A : Type 0} (xs : List A) (d : A) (f : ℕ → A) (k n : ℕ) → length xs ≡ n
    → ((i : ℕ) → i < n → get_or xs i d ≡ f (k + i)) → xs ≡ map f (count_from k n)
list_is [] d f k zero len h = refl
list_is [] d f k (suc n) len h = absurd (omega (arith, len))
list_is (x ∷ xs) d f k zero len h = absurd (omega (arith, len))
list_is (x ∷ xs) d f k (suc n) len h =
    let z : k + 0 ≡ k = omega arith in
    let first : x ≡ f k = h 0 (omega arith) ∙ ap f z in
    let more : xs ≡ map f (count_from (suc k) n) =
    list_is xs d f (suc k) n (omega (arith, len))
    (λ i lt. let s : k + suc i ≡ suc k + i = omega arith in h (suc i) (omega arith) ∙ ap f s) in
    ap (λ y. y ∷ xs) first ∙ ap (λ l. f k ∷ l) more

pub tuples_are : (sizes ks : List ℕ) → AreNumbered sizes ks → tuples sizes ks ≡ all_tuples sizes ks
tuples_are sizes ks num = list_is (tuples sizes ks) [] (tuple_at sizes ks) 0 (tuple_count sizes ks) num.count
    (λ i lt. let s : i ≡ 0 + i = omega arith in num.listed i lt ∙ ap (tuple_at sizes ks) s)

-- the text of each tuple
shifted : (f : List ℕ → List ℕ) (before : List ℕ) (n : ℕ) (ts : List (List ℕ))
    → flat_map (λ xs. f ((before ++ n ∷ []) ++ xs)) ts ≡ flat_map (λ xs. f (before ++ xs)) (map (λ xs. n ∷ xs) ts)
shifted f before n [] = refl
shifted f before n (t ∷ ts) =
    ap (λ (l : List ℕ). f l ++ flat_map (λ xs. f ((before ++ n ∷ []) ++ xs)) ts) (append_assoc before (n ∷ []) t)
    ∙ ap (λ l. f (before ++ n ∷ t) ++ l) (shifted f before n ts)

below : (A : ℕ → List ℕ) (B : ℕ → List (List ℕ)) (g : List ℕ → List ℕ) → ((n : ℕ) → A n ≡ flat_map g (B n)) → (n : ℕ)
    → join_below n A ≡ flat_map g (join_below n B)
below A B g h zero = refl
below A B g h (suc n) =
    ap (λ l. l ++ A n) (below A B g h n) ∙ ap (λ l. flat_map g (join_below n B) ++ l) (h n)
    ∙ sym (flat_map-append g (join_below n B) (B n))

each_is : (sizes : List ℕ) (f : List ℕ → List ℕ) (ks before : List ℕ)
    → each_tuple sizes f ks before ≡ flat_map (λ xs. f (before ++ xs)) (tuples sizes ks)
each_is sizes f [] before = ap f (sym (append-nil before)) ∙ sym (append-nil (f (before ++ [])))
each_is sizes f (k ∷ ks) before =
    below (λ n. each_tuple sizes f ks (before ++ n ∷ [])) (λ n. map (λ xs. n ∷ xs) (tuples sizes ks))
    (λ xs. f (before ++ xs))
    (λ n. each_is sizes f ks (before ++ n ∷ []) ∙ shifted f before n (tuples sizes ks)) (slice_index sizes k)

pub each_tuple_is : (sizes ks : List ℕ) (f : List ℕ → List ℕ) → AreNumbered sizes ks
    → each_tuple sizes f ks [] ≡ flat_map f (all_tuples sizes ks)
each_tuple_is sizes ks f num = each_is sizes f ks [] ∙ ap (flat_map f) (tuples_are sizes ks num)

-- a cell's text, as a table has it
abbrev pub truth_cell : List ℕ → RelationTable → List ℕ → List ℕ
truth_cell sizes t xs = cond (cell_at sizes t xs false) (tuple_text xs) []

abbrev pub image_at : List ℕ → FunctionTable → List ℕ → ℕ
image_at sizes t xs = slice_index t.cells (place_of sizes t.sorts xs)

abbrev pub image_cell : List ℕ → FunctionTable → List ℕ → List ℕ
image_cell sizes t xs = (tuple_text xs ++ codes "->") ++ decimal (image_at sizes t xs)

truths_from : (sizes : List ℕ) (t : RelationTable) → AreNumbered sizes t.sorts
    → length t.cells ≡ tuple_count sizes t.sorts → (n k : ℕ) → k + n ≡ tuple_count sizes t.sorts
    → flat_map (truth_cell sizes t) (map (tuple_at sizes t.sorts) (count_from k n))
    ≡ truths_text (map (tuple_at sizes t.sorts) (count_from k n)) (drop k t.cells)
truths_from sizes t num full zero k e = refl
truths_from sizes t num full (suc n) k e =
    let lt : k < tuple_count sizes t.sorts = omega arith in
    let inside : k < length t.cells = omega (arith, full) in
    let xs : List ℕ = tuple_at sizes t.sorts k in
    let ts : List (List ℕ) = map (tuple_at sizes t.sorts) (count_from (suc k) n) in
    ap (λ i. cond (get_or t.cells i false) (tuple_text xs) [] ++ flat_map (truth_cell sizes t) ts)
    (num.place_of_tuple k lt)
    ∙ ap (λ l. cond (get_or t.cells k false) (tuple_text xs) [] ++ l)
    (truths_from sizes t num full n (suc k) (omega arith))
    ∙ ap (λ j. cond (get_or t.cells k false) (tuple_text xs) [] ++ truths_text ts (drop j t.cells)) (sym (add-one k))
    ∙ sym (ap (truths_text (xs ∷ ts)) (drop_more t.cells k false inside))

images_from : (sizes : List ℕ) (t : FunctionTable) → AreNumbered sizes t.sorts
    → length t.cells ≡ tuple_count sizes t.sorts → (n k : ℕ) → k + n ≡ tuple_count sizes t.sorts
    → flat_map (image_cell sizes t) (map (tuple_at sizes t.sorts) (count_from k n))
    ≡ images_text (map (tuple_at sizes t.sorts) (count_from k n)) (drop k t.cells)
images_from sizes t num full zero k e = refl
images_from sizes t num full (suc n) k e =
    let lt : k < tuple_count sizes t.sorts = omega arith in
    let inside : k < length t.cells = omega (arith, full) in
    let xs : List ℕ = tuple_at sizes t.sorts k in
    let ts : List (List ℕ) = map (tuple_at sizes t.sorts) (count_from (suc k) n) in
    ap (λ i. ((tuple_text xs ++ codes "->") ++ decimal (get_or t.cells i 0)) ++ flat_map (image_cell sizes t) ts)
    (num.place_of_tuple k lt)
    ∙ ap (λ l. ((tuple_text xs ++ codes "->") ++ decimal (get_or t.cells k 0)) ++ l)
    (images_from sizes t num full n (suc k) (omega arith))
    ∙ ap (λ j. ((tuple_text xs ++ codes "->") ++ decimal (get_or t.cells k 0)) ++ images_text ts (drop j t.cells))
    (sym (add-one k))
    ∙ sym (ap (images_text (xs ∷ ts)) (drop_more t.cells k 0 inside))

pub truths_are : (sizes : List ℕ) (t : RelationTable) → AreNumbered sizes t.sorts
    → length t.cells ≡ tuple_count sizes t.sorts
    → each_tuple sizes (truth_cell sizes t) t.sorts [] ≡ truths_text (all_tuples sizes t.sorts) t.cells
truths_are sizes t num full =
    each_tuple_is sizes t.sorts (truth_cell sizes t) num
    ∙ truths_from sizes t num full (tuple_count sizes t.sorts) 0 (omega arith)

pub images_are : (sizes : List ℕ) (t : FunctionTable) → AreNumbered sizes t.sorts
    → length t.cells ≡ tuple_count sizes t.sorts
    → each_tuple sizes (image_cell sizes t) t.sorts [] ≡ images_text (all_tuples sizes t.sorts) t.cells
images_are sizes t num full =
    each_tuple_is sizes t.sorts (image_cell sizes t) num
    ∙ images_from sizes t num full (tuple_count sizes t.sorts) 0 (omega arith)
