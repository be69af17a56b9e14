-- Structures of a signature: the blank one, and one with other cells in one of its tables.
use Rattle.std.proofs.Common.{◌≡◌, ℕ, ◌<◌, Bool, false, List, [], length, get_or, All, sym, ap, ◌∙◌, subst, ⊎_elim}
use Rattle.std.proofs.Common.{length-set}
use Rattle.std.proofs.lemmas.Bool.{cases_eq}
use Rattle.std.proofs.lemmas.List.{length-replicate, length-map, get_or-map, get_or-set_same, get_or-set_other}
use Rattle.std.proofs.lemmas.List.Elements.{All-get_or, All-set, All-map, All-replicate}
use Rattle.fol_sig.specs.Symbols.{Symbols, FitsStructure, symbols, no_function}
use Rattle.fol_sig.specs.Tables.{Declared, IsSignature, AreSorts, Tables, RelationTable, FunctionTable, IsStructure}
use Rattle.fol_sig.specs.Tables.{IsFullRelation, IsFullFunction, tuple_count, blank_relation, blank_function, blank}
use Rattle.fol_sig.specs.Tables.{relation_at, function_at, size_at}
use Rattle.fol_sig.specs.Updates.{with_relation_cells, with_function_cells}

abbrev pub no_table : RelationTable
no_table = record { sorts = []; cells = [] }

abbrev pub no_function_table : FunctionTable
no_function_table = record { sorts = []; into = 0; cells = [] }

pub fits_relation_cells : (sig : Symbols) (s : Tables) (r : ℕ) (cells : List Bool) → r < sig.relations
    → length cells ≡ tuple_count s.sizes (relation_at s r).sorts → FitsStructure sig s
    → FitsStructure sig (with_relation_cells s r cells)
fits_relation_cells sig s r cells known full f =
    let new = with_relation_cells s r cells in
    let inside : r < length s.relations = subst (λ n. r < n) f.relations known in
    let same : (q : ℕ) → (relation_at new q).sorts ≡ (relation_at s q).sorts =
    λ q. ⊎_elim (λ e. ap (λ m. (relation_at new m).sorts) e
    ∙ ap (λ t. t.sorts) (get_or-set_same s.relations r _ no_table inside)
    ∙ sym (ap (λ m. (relation_at s m).sorts) e))
    (λ n. ap (λ t. t.sorts) (get_or-set_other s.relations r q _ no_table n)) (cases_eq q r) in
    let old = All-get_or (IsFullRelation s.sizes) s.relations r no_table inside f.whole.relations_full in
    record {
      whole = record {
        positive = f.whole.positive;
        relations_full =
            All-set (IsFullRelation s.sizes) s.relations r _
            (record { sorted = old.sorted; short = old.short; full = full }) f.whole.relations_full;
        functions_full = f.whole.functions_full;
      };
      sorts = f.sorts;
      relations = f.relations ∙ sym (length-set s.relations r _);
      functions = f.functions;
      sorts_of = λ q lt. f.sorts_of q lt ∙ sym (same q);
      from_of = f.from_of;
      into_of = f.into_of;
    }

pub fits_function_cells : (sig : Symbols) (s : Tables) (g : ℕ) (cells : List ℕ) → g < sig.functions
    → length cells ≡ tuple_count s.sizes (function_at s g).sorts → All (λ x. x < size_at s (function_at s g).into) cells
    → FitsStructure sig s → FitsStructure sig (with_function_cells s g cells)
fits_function_cells sig s g cells known full within f =
    let new = with_function_cells s g cells in
    let inside : g < length s.functions = subst (λ n. g < n) f.functions known in
    let same : (q : ℕ) → (function_at new q).sorts ≡ (function_at s q).sorts =
    λ q. ⊎_elim (λ e. ap (λ m. (function_at new m).sorts) e
    ∙ ap (λ t. t.sorts) (get_or-set_same s.functions g _ no_function_table inside)
    ∙ sym (ap (λ m. (function_at s m).sorts) e))
    (λ n. ap (λ t. t.sorts) (get_or-set_other s.functions g q _ no_function_table n)) (cases_eq q g) in
    let same_into : (q : ℕ) → (function_at new q).into ≡ (function_at s q).into =
    λ q. ⊎_elim (λ e. ap (λ m. (function_at new m).into) e
    ∙ ap (λ t. t.into) (get_or-set_same s.functions g _ no_function_table inside)
    ∙ sym (ap (λ m. (function_at s m).into) e))
    (λ n. ap (λ t. t.into) (get_or-set_other s.functions g q _ no_function_table n)) (cases_eq q g) in
    let old = All-get_or (IsFullFunction s.sizes) s.functions g no_function_table inside f.whole.functions_full in
    record {
      whole = record {
        positive = f.whole.positive;
        relations_full = f.whole.relations_full;
        functions_full =
            All-set (IsFullFunction s.sizes) s.functions g _
            (record {
              sorted = old.sorted;
              short = old.short;
              into_sorted = old.into_sorted;
              full = full;
              within = within;
            }) f.whole.functions_full;
      };
      sorts = f.sorts;
      relations = f.relations;
      functions = f.functions ∙ sym (length-set s.functions g _);
      sorts_of = f.sorts_of;
      from_of = λ q lt. f.from_of q lt ∙ sym (same q);
      into_of = λ q lt. f.into_of q lt ∙ sym (same_into q);
    }

blank_structure : (sig : Declared) (sizes : List ℕ) → IsSignature sig → length sizes ≡ sig.sorts
    → All (λ n. 0 < n) sizes → IsStructure (blank sig sizes)
blank_structure sig sizes ok len pos = record {
  positive = pos;
  relations_full = All-map (IsFullRelation sizes) (blank_relation sizes) sig.relations (λ k d lt. record {
    sorted = subst (λ n. AreSorts n (get_or sig.relations k d)) (sym len) (ok.relations_sorted k d lt);
    short = ok.relations_short k d lt;
    full = length-replicate (tuple_count sizes (get_or sig.relations k d)) false;
  });
  functions_full = All-map (IsFullFunction sizes) (λ f. blank_function sizes f.0 f.1.0) sig.functions (λ k d lt.
      let f = get_or sig.functions k d in
      let h = ok.functions_sorted k d lt in
      let into : f.1.0 < length sizes = subst (λ n. f.1.0 < n) (sym len) h.1 in
      record {
        sorted = subst (λ n. AreSorts n f.0) (sym len) h.0;
        short = ok.functions_short k d lt;
        into_sorted = into;
        full = length-replicate (tuple_count sizes f.0) 0;
        within = All-replicate (λ x. x < get_or sizes f.1.0 0) (tuple_count sizes f.0) 0 (pos f.1.0 0 into);
      });
}

pub fits_blank : (sig : Declared) (sizes : List ℕ) → IsSignature sig → length sizes ≡ sig.sorts
    → All (λ n. 0 < n) sizes → FitsStructure (symbols sig) (blank sig sizes)
fits_blank sig sizes ok len pos = record {
  whole = blank_structure sig sizes ok len pos;
  sorts = sym len;
  relations = sym (length-map sig.relations (blank_relation sizes));
  functions = sym (length-map sig.functions (λ f. blank_function sizes f.0 f.1.0));
  sorts_of = λ r lt. sym
      (ap (λ t. t.sorts) (get_or-map (blank_relation sizes) sig.relations r [] (record { sorts = []; cells = [] }) lt));
  from_of = λ f lt. sym
      (ap (λ t. t.sorts)
      (get_or-map (λ f. blank_function sizes f.0 f.1.0) sig.functions f no_function
      (record { sorts = []; into = 0; cells = [] }) lt));
  into_of = λ f lt. sym
      (ap (λ t. t.into)
      (get_or-map (λ f. blank_function sizes f.0 f.1.0) sig.functions f no_function
      (record { sorts = []; into = 0; cells = [] }) lt));
}
