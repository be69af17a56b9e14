-- Relations as the sets of tuples of which they are true.
use Rattle.std.proofs.Common.{◌≡◌, ℕ, ◌+◌, ◌<◌, ◌≤◌, ◌&&◌, ◌||◌, Bool, true, false, List, [], ◌∷◌, ◌++◌, length}
use Rattle.std.proofs.Common.{get_or, set, refl, sym, ap, ◌∙◌, subst, arith, ⊎_elim, length-set, take, take_all}
use Rattle.std.proofs.Common.{replicate}
use Rattle.std.specs.Prelude.{◌↔◌, All, IsTrue, reverse, nat_eq, nat_lt, cond}
use Rattle.std.specs.List.{filter}
use Rattle.std.specs.Cmp.Lexicographic.{pointwise, bytes_decides, unequal}
use Rattle.std.proofs.lemmas.Bool.{cases_eq, and_parts, and_from, or_right, and_right, lt-ltb, ltb-true}
use Rattle.std.proofs.lemmas.List.{same_lists, reverse-reverse, get_or-set_same, get_or-set_other, get_or_default}
use Rattle.std.proofs.lemmas.List.{get_or-replicate, length-replicate, append-nil}
use Rattle.std.proofs.lemmas.List.Elements.{All-filter, filter_more}
use Rattle.std.proofs.lemmas.List.Folds.{list_any_at, list_any_more}
use Rattle.std.proofs.lemmas.List.Sums.{AllPass-from_list_all, list_all-from_AllPass}
use Rattle.fol_sig.specs.Tables.{RelationTable, InRange, tuple_count, place_of, relation_at, cell_at, with_cell}
use Rattle.fol_sig.specs.Tuples.{tuples, tuple_at}
use Rattle.fol_sig.specs.Updates.{cells_from, with_relation_cells}
use Rattle.fol_sig.specs.TupleSets.{has_tuple, is_in_range, are_in_range, tuples_where}
use Rattle.fol_sig.specs.TupleSets.{TablesAreExtensional, TablesAreTuples}
use Rattle.fol_sig.proofs.TuplePlaces.{are_numbered}
use Rattle.fol_sig.proofs.Updates.{length-cells_from, cells_from-at}

-- what stands in a table at the place of a tuple
cell-of : {A : Type 0} (sizes : List ℕ) (f : List ℕ → A) (ks xs : List ℕ) (d : A) → InRange sizes ks xs
    → get_or (cells_from sizes f ks []) (place_of sizes ks xs) d ≡ f (reverse xs)
unfolding place_of
cell-of sizes f ks xs d h = cells_from-at sizes f ks xs [] d h

-- a table is known by what stands at the places of its tuples
same-cells : (sizes ks : List ℕ) (cells more : List Bool) → length cells ≡ tuple_count sizes ks
    → length more ≡ tuple_count sizes ks
    → ((xs : List ℕ) (d : Bool) → InRange sizes ks xs
    → get_or cells (place_of sizes ks xs) d ≡ get_or more (place_of sizes ks xs) d)
    → cells ≡ more
same-cells sizes ks cells more full full' each =
    let numbered = are_numbered sizes ks in
    same_lists cells more (full ∙ sym full')
    (λ n d lt. let low : n < tuple_count sizes ks = subst (λ m. n < m) full lt in
    subst (λ m. get_or cells m d ≡ get_or more m d) (numbered.place_of_tuple n low)
    (each (tuple_at sizes ks n) d (numbered.tuple_within n low)))

same-tables : (sizes ks : List ℕ) (f g : List ℕ → Bool)
    → ((xs : List ℕ) → InRange sizes ks xs → f (reverse xs) ≡ g (reverse xs))
    → cells_from sizes f ks [] ≡ cells_from sizes g ks []
same-tables sizes ks f g alike =
    same-cells sizes ks (cells_from sizes f ks []) (cells_from sizes g ks []) (length-cells_from sizes f ks [])
    (length-cells_from sizes g ks [])
    (λ xs d h. cell-of sizes f ks xs d h ∙ alike xs h ∙ sym (cell-of sizes g ks xs d h))

pub tables_are_extensional : TablesAreExtensional
tables_are_extensional s r f g alike =
    ap (with_relation_cells s r) (same-tables s.sizes (relation_at s r).sorts f g alike)

abbrev is_same : List ℕ → List ℕ → Bool
is_same xs ys = pointwise nat_eq xs ys

same-self : (xs : List ℕ) → is_same xs xs ≡ true
same-self xs = (bytes_decides xs xs).1 refl

or-false : (a : Bool) → (a || false) ≡ a
or-false true = refl
or-false false = refl

not-true : (a : Bool) → (a ≡ true → ⊥) → a ≡ false
not-true true h = absurd (h refl)
not-true false h = refl

-- one tuple more, which stays where f is true of it
filter-step : (f : List ℕ → Bool) (xs : List ℕ) (xss : List (List ℕ)) (ys : List ℕ) (b same : Bool) → f xs ≡ b
    → is_same xs ys ≡ same → has_tuple (filter f xss) ys ≡ (has_tuple xss ys && f ys)
    → has_tuple (cond b (xs ∷ filter f xss) (filter f xss)) ys ≡ ((is_same xs ys || has_tuple xss ys) && f ys)
filter-step f xs xss ys true true is e rest =
    let there : f ys ≡ true = ap f (sym ((bytes_decides xs ys).0 e)) ∙ is in
    ap (λ c. c || has_tuple (filter f xss) ys) e ∙ sym there ∙ sym (ap (λ c. (c || has_tuple xss ys) && f ys) e)
filter-step f xs xss ys true false is e rest =
    ap (λ c. c || has_tuple (filter f xss) ys) e ∙ rest ∙ sym (ap (λ c. (c || has_tuple xss ys) && f ys) e)
filter-step f xs xss ys false true is e rest =
    let out : f ys ≡ false = ap f (sym ((bytes_decides xs ys).0 e)) ∙ is in
    rest ∙ and_right (has_tuple xss ys) (f ys) out ∙ sym (and_right (is_same xs ys || has_tuple xss ys) (f ys) out)
filter-step f xs xss ys false false is e rest =
    rest ∙ sym (ap (λ c. (c || has_tuple xss ys) && f ys) e)

-- of the tuples of which f is true, each that is one of the list is one
has-filter : (f : List ℕ → Bool) (xss : List (List ℕ)) (ys : List ℕ)
    → has_tuple (filter f xss) ys ≡ (has_tuple xss ys && f ys)
has-filter f [] ys = refl
has-filter f (xs ∷ xss) ys = filter-step f xs xss ys (f xs) (is_same xs ys) refl refl (has-filter f xss ys)

in_range-true : (sizes ks xs : List ℕ) → InRange sizes ks xs → is_in_range sizes ks xs ≡ true
in_range-true sizes [] [] h = refl
in_range-true sizes [] (x ∷ xs) h = absurd h
in_range-true sizes (k ∷ ks) [] h = absurd h
in_range-true sizes (k ∷ ks) (x ∷ xs) h =
    and_from (nat_lt x (get_or sizes k 0)) (is_in_range sizes ks xs) (lt-ltb x (get_or sizes k 0) h.0)
    (in_range-true sizes ks xs h.1)

in_range-is : (sizes ks xs : List ℕ) → is_in_range sizes ks xs ≡ true → InRange sizes ks xs
in_range-is sizes [] [] h = tt
in_range-is sizes [] (x ∷ xs) h = absurd (cc h)
in_range-is sizes (k ∷ ks) [] h = absurd (cc h)
in_range-is sizes (k ∷ ks) (x ∷ xs) h =
    let both = and_parts (nat_lt x (get_or sizes k 0)) (is_in_range sizes ks xs) h in
    (ltb-true x (get_or sizes k 0) both.0, in_range-is sizes ks xs both.1)

-- the test of a tuple decides what `InRange` says
pub is_in_range_decides : (sizes ks xs : List ℕ) (answer : Bool) → answer ≡ is_in_range sizes ks xs
    → IsTrue answer ↔ InRange sizes ks xs
is_in_range_decides sizes ks xs answer is =
    ((λ e. in_range-is sizes ks xs (sym is ∙ e)), (λ h. is ∙ in_range-true sizes ks xs h))

-- and that of tuples for each of them
pub range-decided : (sizes ks : List ℕ) (xss : List (List ℕ)) (answer : Bool) → answer ≡ are_in_range sizes ks xss
    → IsTrue answer ↔ All (InRange sizes ks) xss
range-decided sizes ks xss answer is = (
  (λ e n d lt. in_range-is sizes ks (get_or xss n d)
      (AllPass-from_list_all (is_in_range sizes ks) xss (sym is ∙ e) n d lt)),
  (λ all. is ∙ list_all-from_AllPass (is_in_range sizes ks) xss
      (λ n d lt. in_range-true sizes ks (get_or xss n d) (all n d lt))),
)

-- a tuple of another length is not in range
pub range-long : (sizes ks xs : List ℕ) → (length ks ≡ length xs → ⊥) → is_in_range sizes ks xs ≡ false
range-long sizes ks xs h = unequal (λ k x. nat_lt x (get_or sizes k 0)) ks xs h

-- each tuple that is listed is in range, and each in range is listed
listed-in-range : (sizes ks : List ℕ) → All (λ xs. is_in_range sizes ks xs ≡ true) (tuples sizes ks)
listed-in-range sizes ks n d lt =
    let numbered = are_numbered sizes ks in
    let low : n < tuple_count sizes ks = subst (λ m. n < m) numbered.count lt in
    subst (λ xs. is_in_range sizes ks xs ≡ true)
    (sym (get_or_default (tuples sizes ks) n d [] lt ∙ numbered.listed n low))
    (in_range-true sizes ks (tuple_at sizes ks n) (numbered.tuple_within n low))

has-listed : (sizes ks ys : List ℕ) → InRange sizes ks ys → has_tuple (tuples sizes ks) ys ≡ true
has-listed sizes ks ys h =
    let numbered = are_numbered sizes ks in
    let n = place_of sizes ks ys in
    let low = numbered.place_within ys h in
    let there : get_or (tuples sizes ks) n [] ≡ ys = numbered.listed n low ∙ numbered.tuple_of_place ys h in
    list_any_at (λ xs. is_same xs ys) (tuples sizes ks) n [] (subst (λ m. n < m) (sym numbered.count) low)
    (ap (λ xs. is_same xs ys) there ∙ same-self ys)

has-where : (sizes ks : List ℕ) (f : List ℕ → Bool) (ys : List ℕ) → InRange sizes ks ys
    → has_tuple (filter f (tuples sizes ks)) ys ≡ f ys
has-where sizes ks f ys h =
    has-filter f (tuples sizes ks) ys ∙ ap (λ b. b && f ys) (has-listed sizes ks ys h)

pub tables_are_tuples : TablesAreTuples
tables_are_tuples s r f =
    let ks = (relation_at s r).sorts in
    record {
      in_range = list_all-from_AllPass (is_in_range s.sizes ks) (tuples_where s r f)
          (All-filter f (λ xs. is_in_range s.sizes ks xs ≡ true) (tuples s.sizes ks) (listed-in-range s.sizes ks));
      same = tables_are_extensional s r (λ tuple. has_tuple (tuples_where s r f) (reverse tuple))
          (λ tuple. f (reverse tuple))
          (λ xs h. subst (λ ys. has_tuple (tuples_where s r f) ys ≡ f ys) (sym (reverse-reverse xs))
          (has-where s.sizes ks f xs h));
    }

-- the cells of the table that is true of these tuples alone
abbrev cells : List ℕ → List ℕ → List (List ℕ) → List Bool
cells sizes ks xss = cells_from sizes (λ tuple. has_tuple xss (reverse tuple)) ks []

cells-at : (sizes ks : List ℕ) (xss : List (List ℕ)) (xs : List ℕ) (d : Bool) → InRange sizes ks xs
    → get_or (cells sizes ks xss) (place_of sizes ks xs) d ≡ has_tuple xss xs
cells-at sizes ks xss xs d h =
    cell-of sizes (λ tuple. has_tuple xss (reverse tuple)) ks xs d h ∙ ap (has_tuple xss) (reverse-reverse xs)

pub cells-full : (sizes ks : List ℕ) (xss : List (List ℕ)) → length (cells sizes ks xss) ≡ tuple_count sizes ks
cells-full sizes ks xss = length-cells_from sizes (λ tuple. has_tuple xss (reverse tuple)) ks []

pub no-tuples : (sizes ks : List ℕ) → replicate (tuple_count sizes ks) false ≡ cells sizes ks []
no-tuples sizes ks =
    same-cells sizes ks (replicate (tuple_count sizes ks) false) (cells sizes ks [])
    (length-replicate (tuple_count sizes ks) false) (cells-full sizes ks [])
    (λ xs d h. get_or-replicate (tuple_count sizes ks) (place_of sizes ks xs) false d
    ((are_numbered sizes ks).place_within xs h)
    ∙ sym (cells-at sizes ks [] xs d h))

-- a turn of the loop that sets tuple after tuple
turn : (sizes ks : List ℕ) (xss : List (List ℕ)) (i : ℕ) (d : List ℕ) → All (InRange sizes ks) xss → i < length xss
    → set (cells sizes ks (take i xss)) (place_of sizes ks (get_or xss i d)) true ≡ cells sizes ks (take (i + 1) xss)
turn sizes ks xss i d all lt =
    let xs = get_or xss i d in
    let h = all i d lt in
    let old = cells sizes ks (take i xss) in
    let at = place_of sizes ks xs in
    let numbered = are_numbered sizes ks in
    let full = cells-full sizes ks (take i xss) in
    let room : at < length old = subst (λ n. at < n) (sym full) (numbered.place_within xs h) in
    same-cells sizes ks (set old at true) (cells sizes ks (take (i + 1) xss)) (length-set old at true ∙ full)
    (cells-full sizes ks (take (i + 1) xss))
    (λ ys e in-range.
    let new = cells-at sizes ks (take (i + 1) xss) ys e in-range ∙ list_any_more (λ zs. is_same zs ys) xss i d lt in
    ⊎_elim
    (λ same-place. let same = numbered.once ys xs in-range h same-place in
    ap (λ n. get_or (set old at true) n e) same-place
    ∙ get_or-set_same old at true e room
    ∙ sym (new ∙ or_right (has_tuple (take i xss) ys) (is_same xs ys)
    (ap (λ zs. is_same xs zs) same ∙ same-self xs)))
    (λ away. let differs = not-true (is_same xs ys)
    (λ s. away (ap (place_of sizes ks) (sym ((bytes_decides xs ys).0 s)))) in
    get_or-set_other old at (place_of sizes ks ys) true e away
    ∙ cells-at sizes ks (take i xss) ys e in-range
    ∙ sym (new ∙ ap (λ b. has_tuple (take i xss) ys || b) differs ∙ or-false (has_tuple (take i xss) ys)))
    (cases_eq (place_of sizes ks ys) at))

-- a turn of that loop, in which the table is another
pub table-turn : (sizes ks : List ℕ) (xss : List (List ℕ)) (i : ℕ) (d xs : List ℕ) (t new : RelationTable)
    → All (InRange sizes ks) xss → i < length xss → t.sorts ≡ ks → t.cells ≡ cells sizes ks (take i xss)
    → xs ≡ get_or xss i d → new ≡ with_cell sizes t xs true
    → (new.sorts ≡ ks) × (new.cells ≡ cells sizes ks (take (i + 1) xss))
table-turn sizes ks xss i d xs t new all lt sorts before is set_is = (
  ap (λ (u : RelationTable). u.sorts) set_is ∙ sorts,
  ap (λ (u : RelationTable). u.cells) set_is
      ∙ ap (λ ys. set t.cells (place_of sizes t.sorts ys) true) is
      ∙ ap (λ js. set t.cells (place_of sizes js (get_or xss i d)) true) sorts
      ∙ ap (λ cs. set cs (place_of sizes ks (get_or xss i d)) true) before
      ∙ turn sizes ks xss i d all lt,
)

pub table-full : (sizes ks : List ℕ) (xss : List (List ℕ)) (t : RelationTable) → t.sorts ≡ ks
    → t.cells ≡ cells sizes ks xss → length t.cells ≡ tuple_count sizes t.sorts
table-full sizes ks xss t sorts is =
    ap length is ∙ cells-full sizes ks xss ∙ ap (tuple_count sizes) (sym sorts)

-- a turn of the loop that lists the tuples at which a table is true
listed-turn : (sizes : List ℕ) (t : RelationTable) (n : ℕ) (b : Bool) → n < length t.cells
    → length t.cells ≡ tuple_count sizes t.sorts → b ≡ get_or t.cells n b
    → filter (λ tuple. cell_at sizes t tuple false) (take (n + 1) (tuples sizes t.sorts))
    ≡ filter (λ tuple. cell_at sizes t tuple false) (take n (tuples sizes t.sorts))
    ++ cond b (tuple_at sizes t.sorts n ∷ []) []
listed-turn sizes t n b lt full is =
    let f : List ℕ → Bool = (λ tuple. cell_at sizes t tuple false) in
    let numbered = are_numbered sizes t.sorts in
    let low : n < tuple_count sizes t.sorts = subst (λ m. n < m) full lt in
    let xs = tuple_at sizes t.sorts n in
    let there : f xs ≡ b =
    ap (λ m. get_or t.cells m false) (numbered.place_of_tuple n low) ∙ get_or_default t.cells n false b lt ∙ sym is in
    filter_more f (tuples sizes t.sorts) n [] (subst (λ m. n < m) (sym numbered.count) low)
    ∙ ap (λ ys. filter f (take n (tuples sizes t.sorts)) ++ cond (f ys) (ys ∷ []) []) (numbered.listed n low)
    ∙ ap (λ c. filter f (take n (tuples sizes t.sorts)) ++ cond c (xs ∷ []) []) there

pub listed-true : (sizes : List ℕ) (t : RelationTable) (n : ℕ) (b : Bool) → n < length t.cells
    → length t.cells ≡ tuple_count sizes t.sorts → b ≡ get_or t.cells n b → b ≡ true
    → filter (λ tuple. cell_at sizes t tuple false) (take (n + 1) (tuples sizes t.sorts))
    ≡ filter (λ tuple. cell_at sizes t tuple false) (take n (tuples sizes t.sorts)) ++ tuple_at sizes t.sorts n ∷ []
listed-true sizes t n b lt full is on =
    listed-turn sizes t n b lt full is
    ∙ ap (λ c. filter (λ tuple. cell_at sizes t tuple false) (take n (tuples sizes t.sorts))
    ++ cond c (tuple_at sizes t.sorts n ∷ []) []) on

pub listed-false : (sizes : List ℕ) (t : RelationTable) (n : ℕ) (b : Bool) → n < length t.cells
    → length t.cells ≡ tuple_count sizes t.sorts → b ≡ get_or t.cells n b → b ≡ false
    → filter (λ tuple. cell_at sizes t tuple false) (take (n + 1) (tuples sizes t.sorts))
    ≡ filter (λ tuple. cell_at sizes t tuple false) (take n (tuples sizes t.sorts))
listed-false sizes t n b lt full is off =
    listed-turn sizes t n b lt full is
    ∙ ap (λ c. filter (λ tuple. cell_at sizes t tuple false) (take n (tuples sizes t.sorts))
    ++ cond c (tuple_at sizes t.sorts n ∷ []) []) off
    ∙ append-nil (filter (λ tuple. cell_at sizes t tuple false) (take n (tuples sizes t.sorts)))

pub listed-all : (sizes : List ℕ) (t : RelationTable) (n : ℕ) → length t.cells ≤ n
    → length t.cells ≡ tuple_count sizes t.sorts → take n (tuples sizes t.sorts) ≡ tuples sizes t.sorts
listed-all sizes t n le full =
    take_all n (tuples sizes t.sorts) (omega (arith, le, full, (are_numbered sizes t.sorts).count))
