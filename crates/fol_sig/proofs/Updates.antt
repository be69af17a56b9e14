-- A structure with another table for one symbol.
use Rattle.std.proofs.Common.{◌≡◌, ℕ, zero, suc, ◌+◌, ◌*◌, ◌<◌, Bool, false, List, [], ◌∷◌, length, get_or, refl, sym}
use Rattle.std.proofs.Common.{ap, ◌∙◌, subst, ⊎_elim, length-set, arith, All}
use Rattle.std.specs.Prelude.{reverse}
use mathlib.Core.List.{reverse_aux}
use Rattle.std.proofs.lemmas.List.{get_or-set_same, get_or-set_other}
use Rattle.std.proofs.lemmas.Bool.{cases_eq}
use Rattle.std.proofs.lemmas.List.Elements.{All-get_or, All-set}
use Rattle.fol_sig.specs.Tables.{Tables, RelationTable, FunctionTable, IsFullRelation, IsFullFunction, InRange}
use Rattle.fol_sig.specs.Tables.{tuple_count, place_from, place_of, relation_at, function_at, size_at}
use Rattle.fol_sig.specs.Symbols.{Symbols, FitsStructure}
use Rattle.fol_sig.proofs.Joined.{length-join_below, get_or-join_below, All-join_below}
use Rattle.fol_sig.proofs.Places.{place_from-base, place_from-below}
use Rattle.fol_sig.specs.Updates.{cells_from, with_relation_cells, with_function_cells, with_relation, with_function}
use Rattle.fol_sig.specs.Updates.{UpdatesRelation, UpdatesFunction}

pub length-cells_from : {A : Type 0} (sizes : List ℕ) (f : List ℕ → A) (ks before : List ℕ)
    → length (cells_from sizes f ks before) ≡ tuple_count sizes ks
length-cells_from sizes f [] before = refl
length-cells_from sizes f (k ∷ ks) before =
    length-join_below (get_or sizes k 0) (tuple_count sizes ks) _ (λ x. length-cells_from sizes f ks (x ∷ before))

pub cells_from-at : {A : Type 0} (sizes : List ℕ) (f : List ℕ → A) (ks xs before : List ℕ) (d : A) → InRange sizes ks xs
    → get_or (cells_from sizes f ks before) (place_from sizes 0 ks xs) d ≡ f (reverse_aux xs before)
cells_from-at sizes f [] [] before d h = refl
cells_from-at sizes f [] (x ∷ xs) before d h = absurd h
cells_from-at sizes f (k ∷ ks) [] before d h = absurd h
cells_from-at sizes f (k ∷ ks) (x ∷ xs) before d h =
    let n = get_or sizes k 0 in
    let at : place_from sizes (0 * n + x) ks xs ≡ x * tuple_count sizes ks + place_from sizes 0 ks xs =
    omega (arith, place_from-base sizes ks xs (0 * n + x) h.1) in
    ap (λ i. get_or (cells_from sizes f (k ∷ ks) before) i d) at
    ∙ get_or-join_below n (tuple_count sizes ks) x (place_from sizes 0 ks xs) (λ y. cells_from sizes f ks (y ∷ before))
    d (λ y. length-cells_from sizes f ks (y ∷ before)) h.0 (place_from-below sizes ks xs h.1)
    ∙ cells_from-at sizes f ks xs (x ∷ before) d h.1

-- what is so of f at each tuple is so of each cell
one_cell : {A : Type 0} (P : A → Type 0) (a : A) → P a → All P (a ∷ [])
one_cell P a h zero d lt = h
one_cell P a h (suc k) d lt = absurd (omega arith)

pub All-cells_from : {A : Type 0} (P : A → Type 0) (sizes : List ℕ) (f : List ℕ → A) (ks done before : List ℕ)
    → InRange sizes done before → ((tuple : List ℕ) → InRange sizes (reverse_aux ks done) tuple → P (f tuple))
    → All P (cells_from sizes f ks before)
All-cells_from P sizes f [] done before h each = one_cell P (f before) (each before h)
All-cells_from P sizes f (k ∷ ks) done before h each =
    All-join_below P (get_or sizes k 0) _ (λ x lt. All-cells_from P sizes f ks (k ∷ done) (x ∷ before) (lt, h) each)

abbrev pub no_table : RelationTable
no_table = record { sorts = []; cells = [] }

abbrev pub no_function_table : FunctionTable
no_function_table = record { sorts = []; into = 0; cells = [] }

-- with a full table it is a structure of the same symbols
pub fits-relation_cells : (sig : Symbols) (s : Tables) (r : ℕ) (cells : List Bool) → r < sig.relations
    → length cells ≡ tuple_count s.sizes (relation_at s r).sorts → FitsStructure sig s
    → FitsStructure sig (with_relation_cells s r cells)
fits-relation_cells sig s r cells known full f =
    let new = with_relation_cells s r cells in
    let inside : r < length s.relations = subst (λ n. r < n) f.relations known in
    let same : (q : ℕ) → (relation_at new q).sorts ≡ (relation_at s q).sorts =
    λ q. ⊎_elim (λ e. ap (λ m. (relation_at new m).sorts) e
    ∙ ap (λ t. t.sorts) (get_or-set_same s.relations r _ no_table inside)
    ∙ sym (ap (λ m. (relation_at s m).sorts) e))
    (λ n. ap (λ t. t.sorts) (get_or-set_other s.relations r q _ no_table n)) (cases_eq q r) in
    let old = All-get_or (IsFullRelation s.sizes) s.relations r no_table inside f.whole.relations_full in
    record {
      whole = record {
        positive = f.whole.positive;
        relations_full =
            All-set (IsFullRelation s.sizes) s.relations r _
            (record { sorted = old.sorted; short = old.short; full = full }) f.whole.relations_full;
        functions_full = f.whole.functions_full;
      };
      sorts = f.sorts;
      relations = f.relations ∙ sym (length-set s.relations r _);
      functions = f.functions;
      sorts_of = λ q lt. f.sorts_of q lt ∙ sym (same q);
      from_of = f.from_of;
      into_of = f.into_of;
    }

pub fits-function_cells : (sig : Symbols) (s : Tables) (g : ℕ) (cells : List ℕ) → g < sig.functions
    → length cells ≡ tuple_count s.sizes (function_at s g).sorts → All (λ x. x < size_at s (function_at s g).into) cells
    → FitsStructure sig s → FitsStructure sig (with_function_cells s g cells)
fits-function_cells sig s g cells known full within f =
    let new = with_function_cells s g cells in
    let inside : g < length s.functions = subst (λ n. g < n) f.functions known in
    let same : (q : ℕ) → (function_at new q).sorts ≡ (function_at s q).sorts =
    λ q. ⊎_elim (λ e. ap (λ m. (function_at new m).sorts) e
    ∙ ap (λ t. t.sorts) (get_or-set_same s.functions g _ no_function_table inside)
    ∙ sym (ap (λ m. (function_at s m).sorts) e))
    (λ n. ap (λ t. t.sorts) (get_or-set_other s.functions g q _ no_function_table n)) (cases_eq q g) in
    let same_into : (q : ℕ) → (function_at new q).into ≡ (function_at s q).into =
    λ q. ⊎_elim (λ e. ap (λ m. (function_at new m).into) e
    ∙ ap (λ t. t.into) (get_or-set_same s.functions g _ no_function_table inside)
    ∙ sym (ap (λ m. (function_at s m).into) e))
    (λ n. ap (λ t. t.into) (get_or-set_other s.functions g q _ no_function_table n)) (cases_eq q g) in
    let old = All-get_or (IsFullFunction s.sizes) s.functions g no_function_table inside f.whole.functions_full in
    record {
      whole = record {
        positive = f.whole.positive;
        relations_full = f.whole.relations_full;
        functions_full =
            All-set (IsFullFunction s.sizes) s.functions g _
            (record {
              sorted = old.sorted;
              short = old.short;
              into_sorted = old.into_sorted;
              full = full;
              within = within;
            }) f.whole.functions_full;
      };
      sorts = f.sorts;
      relations = f.relations;
      functions = f.functions ∙ sym (length-set s.functions g _);
      sorts_of = f.sorts_of;
      from_of = λ q lt. f.from_of q lt ∙ sym (same q);
      into_of = λ q lt. f.into_of q lt ∙ sym (same_into q);
    }

pub fits-with_relation : (sig : Symbols) (s : Tables) (r : ℕ) (f : List ℕ → Bool) → r < sig.relations
    → FitsStructure sig s → FitsStructure sig (with_relation s r f)
fits-with_relation sig s r f known fits =
    fits-relation_cells sig s r _ known (length-cells_from s.sizes f (relation_at s r).sorts []) fits

pub fits-with_function : (sig : Symbols) (s : Tables) (g : ℕ) (f : List ℕ → ℕ) → g < sig.functions
    → ((tuple : List ℕ) → InRange s.sizes (reverse (function_at s g).sorts) tuple
    → f tuple < size_at s (function_at s g).into) → FitsStructure sig s → FitsStructure sig (with_function s g f)
fits-with_function sig s g f known within fits =
    fits-function_cells sig s g _ known (length-cells_from s.sizes f (function_at s g).sorts [])
    (All-cells_from (λ x. x < size_at s (function_at s g).into) s.sizes f (function_at s g).sorts [] [] tt within) fits

pub updates_relation : (s : Tables) (r : ℕ) (f : List ℕ → Bool) → UpdatesRelation s r f
unfolding place_of
updates_relation s r f =
    let ks = (relation_at s r).sorts in
    record {
      sizes = refl;
      here = λ xs known inside.
          ap (λ t. get_or t.cells (place_of s.sizes t.sorts xs) false) (get_or-set_same s.relations r _ no_table known)
          ∙ cells_from-at s.sizes f ks xs [] false inside;
      others = λ q xs away. ap (λ t. get_or t.cells (place_of s.sizes t.sorts xs) false)
          (get_or-set_other s.relations r q _ no_table away);
      functions = refl;
      full = length-cells_from s.sizes f ks [];
      fits = λ sig known. fits-with_relation sig s r f known;
    }

pub updates_function : (s : Tables) (g : ℕ) (f : List ℕ → ℕ) → UpdatesFunction s g f
unfolding place_of
updates_function s g f =
    let ks = (function_at s g).sorts in
    record {
      sizes = refl;
      here = λ xs known inside.
          ap (λ t. get_or t.cells (place_of s.sizes t.sorts xs) 0)
          (get_or-set_same s.functions g _ no_function_table known)
          ∙ cells_from-at s.sizes f ks xs [] 0 inside;
      others = λ q xs away. ap (λ t. get_or t.cells (place_of s.sizes t.sorts xs) 0)
          (get_or-set_other s.functions g q _ no_function_table away);
      relations = refl;
      full = length-cells_from s.sizes f ks [];
      within = All-cells_from (λ x. x < size_at s (function_at s g).into) s.sizes f ks [] [] tt;
      fits = λ sig known. fits-with_function sig s g f known;
    }
