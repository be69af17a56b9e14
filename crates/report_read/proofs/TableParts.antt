-- The lines of a structure's tables.
use Rattle.std.proofs.Common.{◌≡◌, ◌≢◌, ℕ, zero, suc, ◌+◌, ◌<◌, ◌≤◌, Bool, List, [], ◌∷◌, ◌++◌, length, map, All}
use Rattle.std.proofs.Common.{get_or}
use Rattle.std.proofs.Common.{refl, sym, ap, ◌∙◌, subst, arith, length-set, ⊎_elim}
use Rattle.std.proofs.lemmas.Bool.{cases_eq, cases_lt}
use Rattle.std.specs.Prelude.{slice_index}
use Rattle.std.specs.List.{AllByRecursion}
use Rattle.std.proofs.lemmas.List.{get_or-set_same, get_or-set_other, get_or_default, same_lists}
use Rattle.std.proofs.lemmas.List.Elements.{All-get_or, All-from_recursion, recursion_from_All}
use Rattle.base.specs.Lists.{count_from}
use Rattle.fol_sig.specs.Tables.{Tables, RelationTable, FunctionTable, IsFullRelation, IsFullFunction, IsSignature}
use Rattle.fol_sig.specs.Tables.{blank}
use Rattle.fol_sig.specs.Tables.{tuple_count, relation_at, function_at, size_at}
use Rattle.fol_sig.specs.Symbols.{Symbols, FitsStructure, symbols}
use Rattle.fol_sig.specs.Tuples.{TuplesAreNumbered}
use Rattle.fol_sig.specs.Updates.{with_relation_cells, with_function_cells}
use Rattle.rml_command.specs.Models.{ModelTree}
use Rattle.rml_command.specs.declared.names.Names.{Names}
use Rattle.rml_report.specs.Words.{name_at}
use Rattle.rml_report.specs.TableText.{relation_line, function_line}
use Rattle.line_scan.specs.Scanning.{most}
use Rattle.line_scan.specs.Laws.{ScansAreExact}
use Rattle.printed_report.specs.Lines.{table_lines}
use Rattle.report_values.specs.ValueReading.{truths_in, values_in}
use Rattle.report_read.specs.Reading.{read_truths, read_images, read_relations, read_functions, read_tables, AreSizes}
use Rattle.report_read.specs.Reading.{HasTables}
use Rattle.report_read.proofs.Parts.{Lines, IsPart, IsOne, IsBoth, part_as, nothing, one_part, both_part}
use Rattle.report_read.proofs.TableLines.{truths_line, images_line, relation_line_is, function_line_is, relation_of}
use Rattle.report_read.proofs.TableLines.{function_of, IsTruths, AreImages, truths_line_is, images_line_is}
use Rattle.report_read.proofs.Fitting.{no_table, no_function_table, fits_relation_cells, fits_function_cells}
use Rattle.report_read.proofs.Fitting.{fits_blank}

map_same : (f g : ℕ → List ℕ) → ((k : ℕ) → f k ≡ g k) → (ks : List ℕ) → map f ks ≡ map g ks
map_same f g h [] = refl
map_same f g h (k ∷ ks) = ap (λ l. l ∷ map f ks) (h k) ∙ ap (λ ls. g k ∷ ls) (map_same f g h ks)

get_or_beyond : {A : Type 0} (xs : List A) (k : ℕ) (d : A) → length xs ≤ k → get_or xs k d ≡ d
get_or_beyond [] zero d le = refl
get_or_beyond [] (suc k) d le = refl
get_or_beyond (x ∷ xs) zero d le = absurd (omega (arith, le))
get_or_beyond (x ∷ xs) (suc k) d le = get_or_beyond xs k d (omega (arith, le))

abbrev make_tables : List ℕ → List RelationTable → List FunctionTable → Tables
make_tables z rs fs = record { sizes = z; relations = rs; functions = fs }

module _ (names : Names) where
  -- the lines of n relations from k on
  abbrev relation_lines : Tables → ℕ → ℕ → Lines
  relation_lines u k n = map (λ q. truths_line (name_at names.relations q) u.sizes (relation_at u q)) (count_from k n)

  abbrev function_lines : Tables → ℕ → ℕ → Lines
  function_lines u k n = map (λ q. images_line (name_at names.functions q) u.sizes (function_at u q)) (count_from k n)

  abbrev TruthsOf : Tables → ℕ → List Bool → List ℕ → Type 0
  TruthsOf s k = IsTruths s.sizes (relation_at s k).sorts (name_at names.relations k)

  abbrev ImagesOf : Tables → ℕ → List ℕ → List ℕ → Type 0
  ImagesOf s k = AreImages s.sizes (function_at s k).sorts (function_at s k).into (name_at names.functions k)

  abbrev RelationsFrom : ℕ → ℕ → Tables → ℕ → Tables → Lines → Type 0
  RelationsFrom k zero s p t lines = (s ≡ t) × (lines ≡ [])
  RelationsFrom k (suc n) s p t lines =
      (cells : List Bool) × (front : Lines) × (back : Lines) × IsOne (TruthsOf s k) p cells front
      × RelationsFrom (suc k) n (with_relation_cells s k cells) (p + length front) t back × (lines ≡ front ++ back)

  abbrev FunctionsFrom : ℕ → ℕ → Tables → ℕ → Tables → Lines → Type 0
  FunctionsFrom k zero s p t lines = (s ≡ t) × (lines ≡ [])
  FunctionsFrom k (suc n) s p t lines =
      (cells : List ℕ) × (front : Lines) × (back : Lines) × IsOne (ImagesOf s k) p cells front
      × FunctionsFrom (suc k) n (with_function_cells s k cells) (p + length front) t back × (lines ≡ front ++ back)

  -- what they give
  record GiveRelations (k n : ℕ) (s t : Tables) (lines : Lines) : Type 0 where
    sizes : t.sizes ≡ s.sizes
    functions : t.functions ≡ s.functions
    count : length t.relations ≡ length s.relations
    before : (q : ℕ) → q < k → relation_at t q ≡ relation_at s q
    text : lines ≡ relation_lines t k n
    fits : (sig : Symbols) → FitsStructure sig s → FitsStructure sig t

  record GiveFunctions (k n : ℕ) (s t : Tables) (lines : Lines) : Type 0 where
    sizes : t.sizes ≡ s.sizes
    relations : t.relations ≡ s.relations
    count : length t.functions ≡ length s.functions
    before : (q : ℕ) → q < k → function_at t q ≡ function_at s q
    text : lines ≡ function_lines t k n
    fits : (sig : Symbols) → FitsStructure sig s → FitsStructure sig t

  give_relations : (n k p : ℕ) (s t : Tables) (lines : Lines) → k + n ≡ length s.relations
      → RelationsFrom k n s p t lines → GiveRelations k n s t lines
  give_relations zero k p s t lines len is =
      subst (λ u. GiveRelations k zero s u lines) is.0
      (record {
        sizes = refl;
        functions = refl;
        count = refl;
        before = λ q lt. refl;
        text = is.1;
        fits = λ sig f. f;
      })
  give_relations (suc n) k p s t lines len is =
      let here = is.3 in
      let inside : k < length s.relations = omega arith in
      let g = give_relations n (suc k) (p + length is.1) (with_relation_cells s k is.0) t is.2
      (let l : length (with_relation_cells s k is.0).relations ≡ length s.relations = length-set s.relations k _ in
      omega (arith, l)) is.4 in
      let at : relation_at t k ≡ relation_of (relation_at s k).sorts is.0 =
      g.before k (omega arith) ∙ get_or-set_same s.relations k _ no_table inside in
      record {
        sizes = g.sizes;
        functions = g.functions;
        count = g.count ∙ length-set s.relations k _;
        before = λ q lt. let other : q ≢ k = omega arith in
            g.before q (omega arith) ∙ get_or-set_other s.relations k q _ no_table other;
        text = is.5 ∙ ap (λ l. l ++ is.2) here.2 ∙ ap (λ l. here.0 ∷ l) g.text
            ∙ ap (λ l. l ∷ relation_lines t (suc k) n)
            (here.1.text
            ∙ ap (λ z. truths_line (name_at names.relations k) z (relation_of (relation_at s k).sorts is.0))
            (sym g.sizes)
            ∙ ap (truths_line (name_at names.relations k) t.sizes) (sym at));
        fits = λ sig f. g.fits sig
            (fits_relation_cells sig s k is.0 (subst (λ m. k < m) (sym f.relations) inside) here.1.full f);
      }

  give_functions : (n k p : ℕ) (s t : Tables) (lines : Lines) → k + n ≡ length s.functions
      → FunctionsFrom k n s p t lines → GiveFunctions k n s t lines
  give_functions zero k p s t lines len is =
      subst (λ u. GiveFunctions k zero s u lines) is.0
      (record {
        sizes = refl;
        relations = refl;
        count = refl;
        before = λ q lt. refl;
        text = is.1;
        fits = λ sig f. f;
      })
  give_functions (suc n) k p s t lines len is =
      let here = is.3 in
      let inside : k < length s.functions = omega arith in
      let g = give_functions n (suc k) (p + length is.1) (with_function_cells s k is.0) t is.2
      (let l : length (with_function_cells s k is.0).functions ≡ length s.functions = length-set s.functions k _ in
      omega (arith, l)) is.4 in
      let at : function_at t k ≡ function_of (function_at s k).sorts (function_at s k).into is.0 =
      g.before k (omega arith) ∙ get_or-set_same s.functions k _ no_function_table inside in
      record {
        sizes = g.sizes;
        relations = g.relations;
        count = g.count ∙ length-set s.functions k _;
        before = λ q lt. let other : q ≢ k = omega arith in
            g.before q (omega arith) ∙ get_or-set_other s.functions k q _ no_function_table other;
        text = is.5 ∙ ap (λ l. l ++ is.2) here.2 ∙ ap (λ l. here.0 ∷ l) g.text
            ∙ ap (λ l. l ∷ function_lines t (suc k) n)
            (here.1.text
            ∙ ap (λ z. images_line (name_at names.functions k) z
            (function_of (function_at s k).sorts (function_at s k).into is.0)) (sym g.sizes)
            ∙ ap (images_line (name_at names.functions k) t.sizes) (sym at));
        fits = λ sig f. g.fits sig
            (fits_function_cells sig s k is.0 (subst (λ m. k < m) (sym f.functions) inside) here.1.full
            (All-from_recursion (λ x. x < size_at s (function_at s k).into) is.0 here.1.within) f);
      }

  -- the lines of a structure give its tables
  record RelationsLike (k n : ℕ) (s u : Tables) : Type 0 where
    sizes : u.sizes ≡ s.sizes
    count : length s.relations ≡ length u.relations
    sorts : (q : ℕ) → (relation_at s q).sorts ≡ (relation_at u q).sorts
    before : (q : ℕ) → q < k → relation_at s q ≡ relation_at u q
    place : k + n ≡ length s.relations
    full : All (IsFullRelation u.sizes) u.relations

  record FunctionsLike (k n : ℕ) (s u : Tables) : Type 0 where
    sizes : u.sizes ≡ s.sizes
    count : length s.functions ≡ length u.functions
    sorts : (q : ℕ) → (function_at s q).sorts ≡ (function_at u q).sorts
    into : (q : ℕ) → (function_at s q).into ≡ (function_at u q).into
    before : (q : ℕ) → q < k → function_at s q ≡ function_at u q
    place : k + n ≡ length s.functions
    full : All (IsFullFunction u.sizes) u.functions

  abbrev with_relations : Tables → List RelationTable → Tables
  with_relations s rs = record { sizes = s.sizes; relations = rs; functions = s.functions }

  abbrev with_functions : Tables → List FunctionTable → Tables
  with_functions s fs = record { sizes = s.sizes; relations = s.relations; functions = fs }

  set_relation_like : (k n : ℕ) (s u : Tables) → RelationsLike k (suc n) s u
      → RelationsLike (suc k) n (with_relation_cells s k (relation_at u k).cells) u
  set_relation_like k n s u h =
      let inside : k < length s.relations = omega (arith, h.place) in
      let new = with_relation_cells s k (relation_at u k).cells in
      let len : length (with_relation_cells s k (relation_at u k).cells).relations ≡ length s.relations =
      length-set s.relations k _ in
      let here : relation_at new k ≡ relation_at u k =
      get_or-set_same s.relations k _ no_table inside
      ∙ ap (λ ks. relation_of ks (relation_at u k).cells) (h.sorts k) in
      let other : (q : ℕ) → q ≢ k → relation_at new q ≡ relation_at s q =
      λ q away. get_or-set_other s.relations k q _ no_table away in
      record {
        sizes = h.sizes;
        count = len ∙ h.count;
        sorts = λ q. ⊎_elim
            (λ e. ap (λ j. (relation_at new j).sorts) e ∙ ap (λ (t : RelationTable). t.sorts) here
            ∙ sym (ap (λ j. (relation_at u j).sorts) e))
            (λ away. ap (λ (t : RelationTable). t.sorts) (other q away) ∙ h.sorts q) (cases_eq q k);
        before = λ q lt. ⊎_elim
            (λ e. ap (relation_at new) e ∙ here ∙ sym (ap (relation_at u) e))
            (λ away. other q away ∙ h.before q (omega (arith, away))) (cases_eq q k);
        place = omega (arith, h.place, len);
        full = h.full;
      }

  set_function_like : (k n : ℕ) (s u : Tables) → FunctionsLike k (suc n) s u
      → FunctionsLike (suc k) n (with_function_cells s k (function_at u k).cells) u
  set_function_like k n s u h =
      let inside : k < length s.functions = omega (arith, h.place) in
      let new = with_function_cells s k (function_at u k).cells in
      let len : length (with_function_cells s k (function_at u k).cells).functions ≡ length s.functions =
      length-set s.functions k _ in
      let here : function_at new k ≡ function_at u k =
      get_or-set_same s.functions k _ no_function_table inside
      ∙ ap (λ ks. function_of ks (function_at s k).into (function_at u k).cells) (h.sorts k)
      ∙ ap (λ i. function_of (function_at u k).sorts i (function_at u k).cells) (h.into k) in
      let other : (q : ℕ) → q ≢ k → function_at new q ≡ function_at s q =
      λ q away. get_or-set_other s.functions k q _ no_function_table away in
      record {
        sizes = h.sizes;
        count = len ∙ h.count;
        sorts = λ q. ⊎_elim
            (λ e. ap (λ j. (function_at new j).sorts) e ∙ ap (λ (t : FunctionTable). t.sorts) here
            ∙ sym (ap (λ j. (function_at u j).sorts) e))
            (λ away. ap (λ (t : FunctionTable). t.sorts) (other q away) ∙ h.sorts q) (cases_eq q k);
        into = λ q. ⊎_elim
            (λ e. ap (λ j. (function_at new j).into) e ∙ ap (λ (t : FunctionTable). t.into) here
            ∙ sym (ap (λ j. (function_at u j).into) e))
            (λ away. ap (λ (t : FunctionTable). t.into) (other q away) ∙ h.into q) (cases_eq q k);
        before = λ q lt. ⊎_elim
            (λ e. ap (function_at new) e ∙ here ∙ sym (ap (function_at u) e))
            (λ away. other q away ∙ h.before q (omega (arith, away))) (cases_eq q k);
        place = omega (arith, h.place, len);
        full = h.full;
      }

  build_relations : (n k p : ℕ) (s u : Tables) → RelationsLike k n s u
      → RelationsFrom k n s p (with_relations s u.relations) (relation_lines u k n)
  build_relations zero k p s u h =
      let same : s.relations ≡ u.relations = same_lists s.relations u.relations h.count
      (λ q d lt. get_or_default s.relations q d no_table lt
      ∙ h.before q (omega (arith, h.place))
      ∙ get_or_default u.relations q no_table d (omega (arith, h.count))) in
      (ap (with_relations s) same, refl)
  build_relations (suc n) k p s u h =
      let inside : k < length u.relations = omega (arith, h.place, h.count) in
      let full = All-get_or (IsFullRelation u.sizes) u.relations k no_table inside h.full in
      let line : List ℕ = truths_line (name_at names.relations k) u.sizes (relation_at u k) in (
        (relation_at u k).cells,
        line ∷ [],
        relation_lines u (suc k) n,
        (
          line,
          record {
            full = full.full ∙ ap (λ z. tuple_count z (relation_at u k).sorts) h.sizes
                ∙ ap (tuple_count s.sizes) (sym (h.sorts k));
            text = ap (λ z. truths_line (name_at names.relations k) z (relation_at u k)) h.sizes
                ∙ ap (λ ks. truths_line (name_at names.relations k) s.sizes (relation_of ks (relation_at u k).cells))
                (sym (h.sorts k));
          },
          refl,
        ),
        build_relations n (suc k) (p + 1) (with_relation_cells s k (relation_at u k).cells) u
            (set_relation_like k n s u h),
        refl,
      )

  build_functions : (n k p : ℕ) (s u : Tables) → FunctionsLike k n s u
      → FunctionsFrom k n s p (with_functions s u.functions) (function_lines u k n)
  build_functions zero k p s u h =
      let same : s.functions ≡ u.functions = same_lists s.functions u.functions h.count
      (λ q d lt. get_or_default s.functions q d no_function_table lt
      ∙ h.before q (omega (arith, h.place))
      ∙ get_or_default u.functions q no_function_table d (omega (arith, h.count))) in
      (ap (with_functions s) same, refl)
  build_functions (suc n) k p s u h =
      let inside : k < length u.functions = omega (arith, h.place, h.count) in
      let full = All-get_or (IsFullFunction u.sizes) u.functions k no_function_table inside h.full in
      let line : List ℕ = images_line (name_at names.functions k) u.sizes (function_at u k) in
      let within : AllByRecursion (λ x. x < slice_index u.sizes (function_at u k).into) (function_at u k).cells =
      recursion_from_All (λ x. x < slice_index u.sizes (function_at u k).into) (function_at u k).cells full.within in (
        (function_at u k).cells,
        line ∷ [],
        function_lines u (suc k) n,
        (
          line,
          record {
            full = full.full ∙ ap (λ z. tuple_count z (function_at u k).sorts) h.sizes
                ∙ ap (tuple_count s.sizes) (sym (h.sorts k));
            within = subst (λ i. AllByRecursion (λ x. x < slice_index s.sizes i) (function_at u k).cells)
                (sym (h.into k))
                (subst (λ z. AllByRecursion (λ x. x < slice_index z (function_at u k).into) (function_at u k).cells)
                h.sizes
                within);
            text = ap (λ z. images_line (name_at names.functions k) z (function_at u k)) h.sizes
                ∙ ap (λ ks. images_line (name_at names.functions k) s.sizes
                (function_of ks (function_at u k).into (function_at u k).cells)) (sym (h.sorts k))
                ∙ ap (λ i. images_line (name_at names.functions k) s.sizes
                (function_of (function_at s k).sorts i (function_at u k).cells)) (sym (h.into k));
          },
          refl,
        ),
        build_functions n (suc k) (p + 1) (with_function_cells s k (function_at u k).cells) u
            (set_function_like k n s u h),
        refl,
      )

  -- they are read
  module _ (x : ScansAreExact) (numbered : TuplesAreNumbered) where
    relations_part : (n k : ℕ) (s : Tables) → ((j : ℕ) → slice_index s.sizes j ≤ most)
        → IsPart (read_relations names k n s) (RelationsFrom k n s)
    relations_part zero k s small = nothing s
    relations_part (suc n) k s small =
        both_part (read_truths names s k) (IsOne (TruthsOf s k))
        (λ cells more. read_relations names (suc k) n (with_relation_cells s k cells) more)
        (λ cells. RelationsFrom (suc k) n (with_relation_cells s k cells))
        (one_part (truths_in s.sizes (relation_at s k).sorts (name_at names.relations k)) (TruthsOf s k)
        (truths_line_is x s.sizes small numbered (relation_at s k).sorts (name_at names.relations k)))
        (λ cells _ _ _. relations_part n (suc k) (with_relation_cells s k cells) small)

    functions_part : (n k : ℕ) (s : Tables) (sig : Symbols) → FitsStructure sig s → k + n ≡ length s.functions
        → ((j : ℕ) → slice_index s.sizes j ≤ most) → IsPart (read_functions names k n s) (FunctionsFrom k n s)
    functions_part zero k s sig fits len small = nothing s
    functions_part (suc n) k s sig fits len small =
        let inside : k < length s.functions = omega (arith, len) in
        let full = All-get_or (IsFullFunction s.sizes) s.functions k no_function_table inside
        fits.whole.functions_full in
        both_part (read_images names s k) (IsOne (ImagesOf s k))
        (λ cells more. read_functions names (suc k) n (with_function_cells s k cells) more)
        (λ cells. FunctionsFrom (suc k) n (with_function_cells s k cells))
        (one_part (values_in s.sizes (function_at s k).sorts (size_at s (function_at s k).into)
        (name_at names.functions k)) (ImagesOf s k)
        (images_line_is x s.sizes small numbered (function_at s k).sorts (function_at s k).into
        (name_at names.functions k) (fits.whole.positive (function_at s k).into 0 full.into_sorted)))
        (λ cells _ _ is. functions_part n (suc k) (with_function_cells s k cells) sig
        (fits_function_cells sig s k cells (subst (λ m. k < m) (sym fits.functions) inside) is.1.full
        (All-from_recursion (λ v. v < size_at s (function_at s k).into) cells is.1.within) fits)
        (let l : length (with_function_cells s k cells).functions ≡ length s.functions = length-set s.functions k _ in
        omega (arith, l, len)) small)

-- the tables of a structure with these sizes
abbrev pub AreTables : ModelTree → List ℕ → ℕ → Tables → Lines → Type 0
AreTables m sizes n u lines = HasTables m sizes u × (lines ≡ table_lines m.names u)

module _ (x : ScansAreExact) (numbered : TuplesAreNumbered) (m : ModelTree) (ok : IsSignature m.signature)
    (sizes : List ℕ) (are : AreSizes m sizes) (small : (j : ℕ) → slice_index sizes j ≤ most) where
  abbrev start : Tables
  start = blank m.signature sizes

  abbrev TablesFrom : ℕ → Tables → Lines → Type 0
  TablesFrom = IsBoth (RelationsFrom m.names 0 (length m.signature.relations) (blank m.signature sizes))
      (λ t. FunctionsFrom m.names 0 (length m.signature.functions) t)

  start_fits : FitsStructure (symbols m.signature) (blank m.signature sizes)
  start_fits = fits_blank m.signature sizes ok are.count are.positive

  relations_all : 0 + length m.signature.relations ≡ length (blank m.signature sizes).relations
  relations_all = let e : length m.signature.relations ≡ length (blank m.signature sizes).relations =
      start_fits.relations in omega (arith, e)

  functions_all : (t : Tables) → t.functions ≡ (blank m.signature sizes).functions
      → 0 + length m.signature.functions ≡ length t.functions
  functions_all t same = let e : length m.signature.functions ≡ length (blank m.signature sizes).functions =
      start_fits.functions in
      let l : length t.functions ≡ length (blank m.signature sizes).functions =
      ap (λ (fs : List FunctionTable). length fs) same in
      omega (arith, e, l)

  lines_as : (u : Tables) → FitsStructure (symbols m.signature) u
      → relation_lines m.names u 0 (length m.signature.relations)
      ++ function_lines m.names u 0 (length m.signature.functions) ≡ table_lines m.names u
  lines_as u fits =
      let r : length m.signature.relations ≡ length u.relations = fits.relations in
      let f : length m.signature.functions ≡ length u.functions = fits.functions in
      ap (λ n. relation_lines m.names u 0 n ++ function_lines m.names u 0 (length m.signature.functions)) r
      ∙ ap (λ n. relation_lines m.names u 0 (length u.relations) ++ function_lines m.names u 0 n) f
      ∙ ap (λ l. l ++ function_lines m.names u 0 (length u.functions))
      (map_same (λ q. truths_line (name_at m.names.relations q) u.sizes (relation_at u q)) (relation_line m.names u)
      (λ q. sym (relation_line_is m.names u q)) (count_from 0 (length u.relations)))
      ∙ ap (λ l. map (relation_line m.names u) (count_from 0 (length u.relations)) ++ l)
      (map_same (λ q. images_line (name_at m.names.functions q) u.sizes (function_at u q)) (function_line m.names u)
      (λ q. sym (function_line_is m.names u q)) (count_from 0 (length u.functions)))

  tables_to : (n : ℕ) (u : Tables) (lines : Lines) → TablesFrom n u lines → AreTables m sizes n u lines
  tables_to n u lines is =
      let g = give_relations m.names (length m.signature.relations) 0 n (blank m.signature sizes) is.0 is.1
      relations_all
      is.3 in
      let h = give_functions m.names (length m.signature.functions) 0 (n + length is.1) is.0 u is.2
      (functions_all is.0 g.functions) is.4 in
      let fits : FitsStructure (symbols m.signature) u =
      h.fits (symbols m.signature) (g.fits (symbols m.signature) start_fits) in (
        record { fits = fits; sizes_are = h.sizes ∙ g.sizes },
        is.5 ∙ ap (λ l. l ++ is.2)
            (g.text
            ∙ ap (λ z. map (λ q. truths_line (name_at m.names.relations q) z (relation_at is.0 q))
            (count_from 0 (length m.signature.relations))) (sym h.sizes)
            ∙ ap (λ rs. map (λ q. truths_line (name_at m.names.relations q) u.sizes (get_or rs q no_table))
            (count_from 0 (length m.signature.relations))) (sym h.relations))
            ∙ ap (λ l. relation_lines m.names u 0 (length m.signature.relations) ++ l) h.text
            ∙ lines_as u fits,
      )

  -- tables of the same symbols have the same sorts
  relation_sorts : (u : Tables) → FitsStructure (symbols m.signature) u → (q : ℕ)
      → (relation_at (blank m.signature sizes) q).sorts ≡ (relation_at u q).sorts
  relation_sorts u fits q = ⊎_elim
      (λ lt. sym (start_fits.sorts_of q lt) ∙ fits.sorts_of q lt)
      (λ le.
      let a : length (blank m.signature sizes).relations ≤ q =
      (let e : length m.signature.relations ≡ length (blank m.signature sizes).relations = start_fits.relations in
      omega (arith, e)) in
      let b : length u.relations ≤ q =
      (let e : length m.signature.relations ≡ length u.relations = fits.relations in omega (arith, e)) in
      ap (λ (t : RelationTable). t.sorts) (get_or_beyond (blank m.signature sizes).relations q no_table a
      ∙ sym (get_or_beyond u.relations q no_table b)))
      (cases_lt q (length m.signature.relations))

  function_sorts : (u : Tables) → FitsStructure (symbols m.signature) u → (q : ℕ)
      → (function_at (blank m.signature sizes) q).sorts ≡ (function_at u q).sorts
  function_sorts u fits q = ⊎_elim
      (λ lt. sym (start_fits.from_of q lt) ∙ fits.from_of q lt)
      (λ le.
      let a : length (blank m.signature sizes).functions ≤ q =
      (let e : length m.signature.functions ≡ length (blank m.signature sizes).functions = start_fits.functions in
      omega (arith, e)) in
      let b : length u.functions ≤ q =
      (let e : length m.signature.functions ≡ length u.functions = fits.functions in omega (arith, e)) in
      ap (λ (t : FunctionTable). t.sorts) (get_or_beyond (blank m.signature sizes).functions q no_function_table a
      ∙ sym (get_or_beyond u.functions q no_function_table b)))
      (cases_lt q (length m.signature.functions))

  function_into : (u : Tables) → FitsStructure (symbols m.signature) u → (q : ℕ)
      → (function_at (blank m.signature sizes) q).into ≡ (function_at u q).into
  function_into u fits q = ⊎_elim
      (λ lt. sym (start_fits.into_of q lt) ∙ fits.into_of q lt)
      (λ le.
      let a : length (blank m.signature sizes).functions ≤ q =
      (let e : length m.signature.functions ≡ length (blank m.signature sizes).functions = start_fits.functions in
      omega (arith, e)) in
      let b : length u.functions ≤ q =
      (let e : length m.signature.functions ≡ length u.functions = fits.functions in omega (arith, e)) in
      ap (λ (t : FunctionTable). t.into) (get_or_beyond (blank m.signature sizes).functions q no_function_table a
      ∙ sym (get_or_beyond u.functions q no_function_table b)))
      (cases_lt q (length m.signature.functions))

  tables_back : (n : ℕ) (u : Tables) (lines : Lines) → AreTables m sizes n u lines → TablesFrom n u lines
  tables_back n u lines is =
      let r : length m.signature.relations ≡ length u.relations = is.0.fits.relations in
      let f : length m.signature.functions ≡ length u.functions = is.0.fits.functions in
      let made : with_functions m.names (with_relations m.names (blank m.signature sizes) u.relations) u.functions ≡ u =
      ap (λ z. make_tables z u.relations u.functions) (sym is.0.sizes_are) in (
        with_relations m.names (blank m.signature sizes) u.relations,
        relation_lines m.names u 0 (length m.signature.relations),
        function_lines m.names u 0 (length m.signature.functions),
        build_relations m.names (length m.signature.relations) 0 n (blank m.signature sizes) u
            (record {
              sizes = is.0.sizes_are;
              count = sym start_fits.relations ∙ r;
              sorts = relation_sorts u is.0.fits;
              before = λ q lt. absurd (omega arith);
              place = relations_all;
              full = is.0.fits.whole.relations_full;
            }),
        subst (λ v. FunctionsFrom m.names 0 (length m.signature.functions)
            (with_relations m.names (blank m.signature sizes) u.relations)
            (n + length (relation_lines m.names u 0 (length m.signature.relations))) v
            (function_lines m.names u 0 (length m.signature.functions))) made
            (build_functions m.names (length m.signature.functions) 0
            (n + length (relation_lines m.names u 0 (length m.signature.relations)))
            (with_relations m.names (blank m.signature sizes) u.relations) u
            (record {
              sizes = is.0.sizes_are;
              count = sym start_fits.functions ∙ f;
              sorts = function_sorts u is.0.fits;
              into = function_into u is.0.fits;
              before = λ q lt. absurd (omega arith);
              place = functions_all (with_relations m.names (blank m.signature sizes) u.relations) refl;
              full = is.0.fits.whole.functions_full;
            })),
        is.1 ∙ sym (lines_as u is.0.fits),
      )

  pub tables_part : IsPart (read_tables m sizes) (AreTables m sizes)
  tables_part =
      part_as (read_tables m sizes) TablesFrom (AreTables m sizes) tables_to tables_back
      (both_part (read_relations m.names 0 (length m.signature.relations) (blank m.signature sizes))
      (RelationsFrom m.names 0 (length m.signature.relations) (blank m.signature sizes))
      (read_functions m.names 0 (length m.signature.functions))
      (λ t. FunctionsFrom m.names 0 (length m.signature.functions) t)
      (relations_part m.names x numbered (length m.signature.relations) 0 (blank m.signature sizes) small)
      (λ t p front is.
      let g = give_relations m.names (length m.signature.relations) 0 p (blank m.signature sizes) t front
      relations_all is
      in functions_part m.names x numbered (length m.signature.functions) 0 t (symbols m.signature)
      (g.fits (symbols m.signature) start_fits) (functions_all t g.functions)
      (subst (λ z. (j : ℕ) → slice_index z j ≤ most) (sym g.sizes) small)))
