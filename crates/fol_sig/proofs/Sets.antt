-- A written cell of a table.
use Rattle.std.proofs.Common.{◌≡◌, ◌≢◌, ℕ, ◌<◌, Bool, false, List, length, get_or, refl, sym, ap, ◌∙◌, subst, ⊎_elim}
use Rattle.std.proofs.Common.{length-set}
use Rattle.std.proofs.Math.ListN.{set}
use Rattle.std.proofs.lemmas.List.{get_or-set_same, get_or-set_other, get_or_read}
use Rattle.std.proofs.lemmas.List.Elements.{All-get_or}
use Rattle.std.proofs.lemmas.Bool.{cases_eq}
use Rattle.fol_sig.specs.Tables.{tuple_count, TableOf, FunctionTable, IsStructure, IsFullRelation, IsFullFunction}
use Rattle.fol_sig.specs.Tables.{with_cell, Tables, RelationTable, InRange, place_of, relation_at, function_at, rel_at}
use Rattle.fol_sig.specs.Tables.{fun_at}
use Rattle.fol_sig.specs.Updates.{SetsRelation, SetsFunction, with_relation_cells, with_function_cells, with_rel_at}
use Rattle.fol_sig.specs.Updates.{with_fun_at}
use Rattle.fol_sig.proofs.Places.{same_place, place_of-room}
use Rattle.fol_sig.proofs.Updates.{no_table, no_function_table}

-- the written cell, and another one
module _ {A : Type 0} (sizes ks : List ℕ) (cells : List A) (xs : List ℕ) (v d : A) (in_range : InRange sizes ks xs)
  where
    written : length cells ≡ tuple_count sizes ks → get_or (set cells (place_of sizes ks xs) v) (place_of sizes ks xs) d
        ≡ v
    written full =
        get_or-set_same cells (place_of sizes ks xs) v d
        (subst (λ n. place_of sizes ks xs < n) (sym full) (place_of-room sizes ks xs in_range))

    other : (ys : List ℕ) → InRange sizes ks ys → ys ≢ xs
        → get_or (set cells (place_of sizes ks xs) v) (place_of sizes ks ys) d ≡ get_or cells (place_of sizes ks ys) d
    unfolding place_of
    other ys h away =
        get_or-set_other cells (place_of sizes ks xs) (place_of sizes ks ys) v d
        (λ e. away (same_place sizes ks ys xs 0 0 h in_range e).tuple)

pub sets_relation : (s : Tables) (r : ℕ) (xs : List ℕ) (v : Bool) → r < length s.relations
    → InRange s.sizes (relation_at s r).sorts xs → length (relation_at s r).cells
    ≡ tuple_count s.sizes (relation_at s r).sorts
    → SetsRelation s
    (with_relation_cells s r (set (relation_at s r).cells (place_of s.sizes (relation_at s r).sorts xs) v)) r xs v
sets_relation s r xs v known in_range full =
    let t = relation_at s r in
    let new = with_relation_cells s r (set t.cells (place_of s.sizes t.sorts xs) v) in
    let here = get_or-set_same s.relations r
    (record { sorts = t.sorts; cells = set t.cells (place_of s.sizes t.sorts xs) v }) no_table known in
    let there : (q : ℕ) → q ≢ r → relation_at new q ≡ relation_at s q =
    λ q n. get_or-set_other s.relations r q _ no_table n in
    record {
      sizes = refl;
      functions = refl;
      relations = length-set s.relations r _;
      sorts = λ q.
          ⊎_elim
          (λ e. ap (λ m. (relation_at new m).sorts) e ∙ ap (λ t. t.sorts) here
          ∙ sym (ap (λ m. (relation_at s m).sorts) e))
          (λ n. ap (λ t. t.sorts) (there q n))
          (cases_eq q r);
      set = ap (λ t. get_or t.cells (place_of s.sizes t.sorts xs) false) here
          ∙ written s.sizes t.sorts t.cells xs v false in_range full;
      others = λ q ys h apart.
          ⊎_elim
          (λ e.
          let h' = subst (λ m. InRange s.sizes (relation_at s m).sorts ys) e h in
          ap (λ m. rel_at new m ys) e
          ∙ ap (λ t. get_or t.cells (place_of s.sizes t.sorts ys) false) here
          ∙ other s.sizes t.sorts t.cells xs v false in_range ys h' (apart e)
          ∙ sym (ap (λ m. rel_at s m ys) e))
          (λ n. ap (λ t. get_or t.cells (place_of s.sizes t.sorts ys) false) (there q n))
          (cases_eq q r);
    }

pub sets_function : (s : Tables) (g : ℕ) (xs : List ℕ) (v : ℕ) → g < length s.functions
    → InRange s.sizes (function_at s g).sorts xs → length (function_at s g).cells
    ≡ tuple_count s.sizes (function_at s g).sorts
    → SetsFunction s
    (with_function_cells s g (set (function_at s g).cells (place_of s.sizes (function_at s g).sorts xs) v)) g xs v
sets_function s g xs v known in_range full =
    let t = function_at s g in
    let new = with_function_cells s g (set t.cells (place_of s.sizes t.sorts xs) v) in
    let here = get_or-set_same s.functions g
    (record { sorts = t.sorts; into = t.into; cells = set t.cells (place_of s.sizes t.sorts xs) v })
    no_function_table known in
    let there : (q : ℕ) → q ≢ g → function_at new q ≡ function_at s q =
    λ q n. get_or-set_other s.functions g q _ no_function_table n in
    record {
      sizes = refl;
      relations = refl;
      functions = length-set s.functions g _;
      sorts = λ q.
          ⊎_elim
          (λ e. ap (λ m. (function_at new m).sorts) e ∙ ap (λ t. t.sorts) here
          ∙ sym (ap (λ m. (function_at s m).sorts) e))
          (λ n. ap (λ t. t.sorts) (there q n))
          (cases_eq q g);
      into = λ q.
          ⊎_elim
          (λ e. ap (λ m. (function_at new m).into) e ∙ ap (λ t. t.into) here ∙ sym (ap (λ m. (function_at s m).into) e))
          (λ n. ap (λ t. t.into) (there q n))
          (cases_eq q g);
      set = ap (λ t. get_or t.cells (place_of s.sizes t.sorts xs) 0) here
          ∙ written s.sizes t.sorts t.cells xs v 0 in_range full;
      others = λ q ys h apart.
          ⊎_elim
          (λ e.
          let h' = subst (λ m. InRange s.sizes (function_at s m).sorts ys) e h in
          ap (λ m. fun_at new m ys) e
          ∙ ap (λ t. get_or t.cells (place_of s.sizes t.sorts ys) 0) here
          ∙ other s.sizes t.sorts t.cells xs v 0 in_range ys h' (apart e)
          ∙ sym (ap (λ m. fun_at s m ys) e))
          (λ n. ap (λ t. get_or t.cells (place_of s.sizes t.sorts ys) 0) (there q n))
          (cases_eq q g);
    }

-- the same, from what the code reads and writes
pub relation_is_written : (s inside : Tables) (r : ℕ) (xs : List ℕ) (v : Bool) (sizes : List ℕ)
    (t written : RelationTable) → inside ≡ s → t ≡ get_or inside.relations r t → sizes ≡ inside.sizes
    → written ≡ with_cell sizes t xs v → r < length s.relations
    → record { sizes = inside.sizes; relations = set inside.relations r written; functions = inside.functions }
    ≡ with_rel_at s r xs v
relation_is_written s inside r xs v sizes t written is read same_sizes wrote =
    let whole : RelationTable → Tables =
    (λ w. record { sizes = inside.sizes; relations = set inside.relations r w; functions = inside.functions }) in
    subst (λ z. r < length z.relations → whole written ≡ with_rel_at z r xs v) is (λ known.
    let found : t ≡ relation_at inside r = get_or_read inside.relations r t known read no_table in
    ap whole (wrote ∙ ap (λ ns. with_cell ns t xs v) same_sizes ∙ ap (λ z. with_cell inside.sizes z xs v) found))

pub function_is_written : (s inside : Tables) (g : ℕ) (xs : List ℕ) (v : ℕ) (sizes : List ℕ) (t : FunctionTable)
    (written : TableOf ℕ) → inside ≡ s → t ≡ get_or inside.functions g t → sizes ≡ inside.sizes
    → written ≡ with_cell sizes (record { sorts = t.sorts; cells = t.cells }) xs v → g < length s.functions
    → record {
      sizes = inside.sizes;
      relations = inside.relations;
      functions = set inside.functions g (record { sorts = written.sorts; into = t.into; cells = written.cells });
    }
    ≡ with_fun_at s g xs v
function_is_written s inside g xs v sizes t written is read same_sizes wrote =
    let with_into : TableOf ℕ → FunctionTable → FunctionTable =
    (λ w z. record { sorts = w.sorts; into = z.into; cells = w.cells }) in
    let plain : FunctionTable → TableOf ℕ = (λ z. record { sorts = z.sorts; cells = z.cells }) in
    let whole : FunctionTable → Tables =
    (λ w. record { sizes = inside.sizes; relations = inside.relations; functions = set inside.functions g w }) in
    subst (λ z. g < length z.functions → whole (with_into written t) ≡ with_fun_at z g xs v) is (λ known.
    let found : t ≡ function_at inside g = get_or_read inside.functions g t known read no_function_table in
    ap whole (ap (λ w. with_into w t) (wrote ∙ ap (λ ns. with_cell ns (plain t) xs v) same_sizes)
    ∙ ap (λ z. with_into (with_cell inside.sizes (plain z) xs v) z) found))

pub relation_is_set : (s new : Tables) (r : ℕ) (xs : List ℕ) (v : Bool) → new ≡ with_rel_at s r xs v → IsStructure s
    → r < length s.relations → InRange s.sizes (relation_at s r).sorts xs → SetsRelation s new r xs v
relation_is_set s new r xs v is ok known in_range =
    subst (λ z. SetsRelation s z r xs v) (sym is)
    (sets_relation s r xs v known in_range
    (All-get_or (IsFullRelation s.sizes) s.relations r no_table known ok.relations_full).full)

pub function_is_set : (s new : Tables) (g : ℕ) (xs : List ℕ) (v : ℕ) → new ≡ with_fun_at s g xs v → IsStructure s
    → g < length s.functions → InRange s.sizes (function_at s g).sorts xs → SetsFunction s new g xs v
function_is_set s new g xs v is ok known in_range =
    subst (λ z. SetsFunction s z g xs v) (sym is)
    (sets_function s g xs v known in_range
    (All-get_or (IsFullFunction s.sizes) s.functions g no_function_table known ok.functions_full).full)
