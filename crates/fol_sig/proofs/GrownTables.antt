-- Signatures and structures with relations behind their own.
use Rattle.std.proofs.Common.{◌≡◌, ℕ, zero, suc, ◌+◌, ◌-◌, ◌<◌, ◌≤◌, false, List, [], ◌∷◌, ◌++◌, length, get_or, set}
use Rattle.std.proofs.Common.{take}
use Rattle.std.proofs.Common.{take_all, drop, map, refl, sym, ap, ◌∙◌, subst, arith, ⊎_elim}
use Rattle.std.specs.Prelude.{All}
use Rattle.std.proofs.lemmas.Bool.{cases_lt}
use Rattle.std.proofs.lemmas.List.{length-append, length-drop, length-map, get_or_append_left, get_or-append-add}
use Rattle.std.proofs.lemmas.List.{get_or-take, get_or-drop, get_or-map, take_at, take-append-drop, ext_get_or}
use Rattle.std.proofs.lemmas.List.Elements.{All-append, All-drop}
use Rattle.fol_sig.specs.Tables.{Declared, Tables, RelationTable, FunctionTable, AreSorts, IsFullRelation, reading}
use Rattle.fol_sig.specs.Tables.{place_of, relation_at, function_at}
use Rattle.fol_sig.specs.Symbols.{Symbols, FitsStructure}
use Rattle.fol_sig.specs.Constants.{with_fresh_tables, reduct}
use Rattle.fol_sig.specs.Growing.{Grows, GrowsByRelations, GrowsSignatureByRelations, SignaturesGrowByRelations}
use Rattle.fol_sig.specs.Growing.{AreReadAlike, AreTablesOf, IsExtensionByTables, StructuresExtendByTables}
use Rattle.fol_sig.specs.Growing.{StructuresAreExtensionsByTables}
use Rattle.fol_sig.specs.Growing.{CommutesWithUpdates, ReductsCommuteWithUpdates}

module _ (sig : Declared) (rs : List (List ℕ)) where
  abbrev all : List (List ℕ)
  all = sig.relations ++ rs

  count : length all ≡ length sig.relations + length rs
  count = length-append sig.relations rs

  new-at : (r : ℕ) → length sig.relations ≤ r → get_or all r [] ≡ get_or rs (r - length sig.relations) []
  new-at r le =
      let e : r ≡ length sig.relations + (r - length sig.relations) = omega (arith, le) in
      ap (λ j. get_or all j []) e ∙ get_or-append-add sig.relations rs (r - length sig.relations) []

  inside : (r : ℕ) → length sig.relations ≤ r → r < length all → r - length sig.relations < length rs
  inside r le lt = omega (arith, le, lt, count)

  grows-signature : All (AreSorts sig.sorts) rs → All (λ (ks : List ℕ). length ks ≤ 8) rs
      → GrowsSignatureByRelations sig rs
  grows-signature known short = record {
    grows = record {
      grows = record {
        sorts = refl;
        relations = omega (arith, count);
        functions = omega arith;
        sorts_of = λ r lt. get_or_append_left sig.relations rs [] r lt;
        new_sorts = λ r le lt. subst (AreSorts sig.sorts) (sym (new-at r le))
            (known (r - length sig.relations) [] (inside r le lt));
        new_short = λ r le lt. subst (λ (ks : List ℕ). length ks ≤ 8) (sym (new-at r le))
            (short (r - length sig.relations) [] (inside r le lt));
        from_of = λ f lt. refl;
        into_of = λ f lt. refl;
        new_from = λ f le lt. absurd (omega (arith, le, lt));
        new_into = λ f le lt. absurd (omega (arith, le, lt));
      };
      functions = refl;
      count = count;
      sorts = λ i lt. get_or-append-add sig.relations rs i [];
    };
    signature = λ ok few. record {
      relations_sorted = All-append (AreSorts sig.sorts) sig.relations rs ok.relations_sorted known;
      functions_sorted = ok.functions_sorted;
      relations_short = All-append (λ (ks : List ℕ). length ks ≤ 8) sig.relations rs ok.relations_short short;
      functions_short = ok.functions_short;
      listed_known = ok.listed_known;
      few_sorts = ok.few_sorts;
      few_relations = omega (arith, few, count);
      few_functions = ok.few_functions;
    };
  }

pub signatures_grow_by_relations : SignaturesGrowByRelations
signatures_grow_by_relations sig rs known short = grows-signature sig rs known short

abbrev no_relation : RelationTable
no_relation = record { sorts = []; cells = [] }

abbrev other_tables : Tables → List RelationTable → List FunctionTable → Tables
other_tables s rs fs = record { sizes = s.sizes; relations = rs; functions = fs }

module _ (sig more : Symbols) (s : Tables) (rs : List (List ℕ)) (ts : List RelationTable)
    (by : GrowsByRelations sig rs more) (f : FitsStructure sig s) (tables : AreTablesOf s.sizes rs ts) where
  abbrev g : Grows sig more
  g = by.grows

  abbrev wide : Tables
  wide = with_fresh_tables s ts

  old : (r : ℕ) → r < sig.relations → relation_at wide r ≡ relation_at s r
  old r lt = get_or_append_left s.relations ts no_relation r (subst (λ n. r < n) f.relations lt)

  new : (i : ℕ) → relation_at wide (sig.relations + i) ≡ get_or ts i no_relation
  new i = ap (λ n. relation_at wide (n + i)) f.relations ∙ get_or-append-add s.relations ts i no_relation

  sorts-at : (i : ℕ) → i < length ts → more.sorts_of (sig.relations + i) ≡ (get_or ts i no_relation).sorts
  sorts-at i lt =
      by.sorts i (omega (arith, lt, tables.count))
      ∙ ap (λ ks. get_or ks i []) (sym tables.sorts)
      ∙ get_or-map (λ (t : RelationTable). t.sorts) ts i no_relation [] lt

  new-sorts : (r : ℕ) → sig.relations ≤ r → r < more.relations → more.sorts_of r ≡ (relation_at wide r).sorts
  new-sorts r le lt =
      let i = r - sig.relations in
      let e : r ≡ sig.relations + i = omega (arith, le) in
      ap more.sorts_of e
      ∙ sorts-at i (omega (arith, le, lt, by.count, tables.count))
      ∙ ap (λ (t : RelationTable). t.sorts) (sym (new i))
      ∙ ap (λ n. (relation_at wide n).sorts) (sym e)

  alike : AreReadAlike sig (reading wide) (reading s)
  alike = record {
    size = λ k. refl;
    rel = λ r ys lt. ap (λ (t : RelationTable). get_or t.cells (place_of s.sizes t.sorts ys) false) (old r lt);
    fun = λ q ys lt. refl;
  }

  is-extension : IsExtensionByTables sig more s ts
  is-extension = record {
    fits = record {
      whole = record {
        positive = f.whole.positive;
        relations_full = All-append (IsFullRelation s.sizes) s.relations ts f.whole.relations_full tables.full;
        functions_full = f.whole.functions_full;
      };
      sorts = g.sorts ∙ f.sorts;
      relations = omega (arith, by.count, f.relations, length-append s.relations ts, tables.count);
      functions = by.functions ∙ f.functions;
      sorts_of = λ r lt.
          ⊎_elim
          (λ before. g.sorts_of r before ∙ f.sorts_of r before
          ∙ sym (ap (λ (t : RelationTable). t.sorts) (old r before)))
          (λ behind. new-sorts r behind lt)
          (cases_lt r sig.relations);
      from_of = λ q lt. let low = subst (λ n. q < n) by.functions lt in g.from_of q low ∙ f.from_of q low;
      into_of = λ q lt. let low = subst (λ n. q < n) by.functions lt in g.into_of q low ∙ f.into_of q low;
    };
    table = λ i lt. new i;
    alike = alike;
    without =
        ap (λ rs. other_tables s rs (take sig.functions s.functions))
        (take_at s.relations ts sig.relations (sym f.relations))
        ∙ ap (other_tables s s.relations) (take_all sig.functions s.functions (omega (arith, f.functions)));
  }

pub structures_extend_by_tables : StructuresExtendByTables
structures_extend_by_tables sig more s rs ts by f tables = is-extension sig more s rs ts by f tables

module _ (sig more : Symbols) (rs : List (List ℕ)) (t : Tables) (by : GrowsByRelations sig rs more)
    (f : FitsStructure more t) where
  abbrev behind : List RelationTable
  behind = drop sig.relations t.relations

  long : length behind ≡ length rs
  long = omega (arith, length-drop sig.relations t.relations, by.count, f.relations)

  sorts-of : (i : ℕ) → i < length rs → (get_or behind i no_relation).sorts ≡ get_or rs i []
  sorts-of i lt =
      ap (λ (t : RelationTable). t.sorts) (get_or-drop sig.relations t.relations i no_relation)
      ∙ sym (f.sorts_of (sig.relations + i) (omega (arith, lt, by.count)))
      ∙ by.sorts i lt

  same-sorts : map (λ (t : RelationTable). t.sorts) behind ≡ rs
  same-sorts =
      ext_get_or [] (map (λ (t : RelationTable). t.sorts) behind) rs
      (length-map behind (λ (t : RelationTable). t.sorts) ∙ long)
      (λ i lt. let low : i < length behind = omega (arith, lt, length-map behind (λ (t : RelationTable). t.sorts)) in
      get_or-map (λ (t : RelationTable). t.sorts) behind i no_relation [] low
      ∙ sorts-of i (omega (arith, low, long)))

  are-extensions : (ts : List RelationTable) × AreTablesOf t.sizes rs ts × (with_fresh_tables (reduct sig t) ts ≡ t)
  are-extensions = (
    behind,
    record {
      count = long;
      sorts = same-sorts;
      full = All-drop (IsFullRelation t.sizes) sig.relations t.relations f.whole.relations_full;
    },
    ap (λ rs. other_tables t rs (take sig.functions t.functions)) (take-append-drop sig.relations t.relations)
        ∙ ap (other_tables t t.relations)
        (take_all sig.functions t.functions (omega (arith, by.functions, f.functions))),
  )

pub structures_are_extensions_by_tables : StructuresAreExtensionsByTables
structures_are_extensions_by_tables sig more rs t by f = are-extensions sig more rs t by f

take-set-lt : {A : Type 0} (n : ℕ) (xs : List A) (i : ℕ) (x : A) → i < n → take n (set xs i x) ≡ set (take n xs) i x
take-set-lt zero xs i x lt = absurd (omega (arith, lt))
take-set-lt (suc n) [] i x lt = refl
take-set-lt (suc n) (y ∷ ys) zero x lt = refl
take-set-lt (suc n) (y ∷ ys) (suc i) x lt = ap (λ zs. y ∷ zs) (take-set-lt n ys i x (omega (arith, lt)))

abbrev no_table : FunctionTable
no_table = record { sorts = []; into = 0; cells = [] }

module _ (sig : Symbols) (t : Tables) where
  relation-table : (r : ℕ) → r < sig.relations → relation_at (reduct sig t) r ≡ relation_at t r
  relation-table r lt = get_or-take sig.relations t.relations r no_relation lt

  function-table : (q : ℕ) → q < sig.functions → function_at (reduct sig t) q ≡ function_at t q
  function-table q lt = get_or-take sig.functions t.functions q no_table lt

  commutes : CommutesWithUpdates sig t
  commutes = record {
    relation_table = relation-table;
    function_table = function-table;
    relation = λ r cells lt.
        ap (λ rs. other_tables t rs (take sig.functions t.functions))
        (take-set-lt sig.relations t.relations r (record { sorts = (relation_at t r).sorts; cells = cells }) lt
        ∙ ap (λ (u : RelationTable). set (take sig.relations t.relations) r (record { sorts = u.sorts; cells = cells }))
        (sym (relation-table r lt)));
    function = λ q cells lt.
        ap (other_tables t (take sig.relations t.relations))
        (take-set-lt sig.functions t.functions q
        (record { sorts = (function_at t q).sorts; into = (function_at t q).into; cells = cells }) lt
        ∙ ap (λ (u : FunctionTable). set (take sig.functions t.functions) q
        (record { sorts = u.sorts; into = u.into; cells = cells }))
        (sym (function-table q lt)));
  }

pub reducts_commute_with_updates : ReductsCommuteWithUpdates
reducts_commute_with_updates sig t = commutes sig t
