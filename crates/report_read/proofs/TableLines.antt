-- The lines of relations, functions and variables.
use Rattle.std.proofs.Common.{◌≡◌, ℕ, zero, suc, ◌+◌, ◌<◌, ◌≤◌, Bool, true, false, List, [], ◌∷◌, ◌++◌, length}
use Rattle.std.proofs.Common.{Option, Some, None, refl, sym, ap, ◌∙◌, subst, cond, arith, append_assoc, append-nil}
use Rattle.std.proofs.Common.{get_or}
use Rattle.std.specs.Prelude.{codes, decimal, slice_index, replicate}
use Rattle.std.specs.Str.{bytes_eq}
use Rattle.std.specs.List.{AllByRecursion}
use Rattle.std.proofs.lemmas.List.{length-replicate}
use Rattle.fol_sig.specs.Tables.{Tables, RelationTable, FunctionTable, InRange, tuple_count, place_of, cell_at}
use Rattle.fol_sig.specs.Tables.{relation_at, function_at}
use Rattle.fol_sig.specs.Tuples.{TuplesAreNumbered}
use Rattle.rml_command.specs.declared.names.Names.{Names}
use Rattle.rml_report.specs.Words.{labelled, truth_text, name_at}
use Rattle.rml_report.specs.TableText.{each_tuple, tuple_text, symbol_line, relation_line, function_line, values_text}
use Rattle.rml_report.specs.TableText.{symbol_label}
use Rattle.fol_sig.specs.declared.symbol.Symbol.TheVariants as symbol
use Rattle.line_scan.specs.Scanning.{behind, is_end, most}
use Rattle.line_scan.specs.Laws.{ScansAreExact, ends_number}
use Rattle.report_values.specs.ValueReading.{choose, on, behind_labelled, value_at, element_at, all_tuples, truths_end}
use Rattle.report_values.specs.ValueReading.{mapped_at, values_end, truth_end, relation_end, truths_in, variable_end}
use Rattle.report_values.specs.ValueReading.{values_in}
use Rattle.report_read.proofs.Pieces.{apart5, behind_then}
use Rattle.report_read.proofs.Parts.{IsLine}
use Rattle.report_read.proofs.LineLaws.{taken, kept, are_words, labelled_there, labelled_sound, value_there}
use Rattle.report_read.proofs.LineLaws.{value_sound}
use Rattle.report_read.proofs.Tuples.{truths_text, images_text, Distinct, none_in_front, length-tuples_from, in_range}
use Rattle.report_read.proofs.Tuples.{distinct, truth_cell, image_at, image_cell, truths_are, images_are}

-- what a relation's line says behind its name
abbrev pub table_truths : List ℕ → RelationTable → List ℕ → List ℕ
table_truths sizes t [] = codes " " ++ truth_text (cell_at sizes t [] false)
table_truths sizes t (k ∷ ks) = each_tuple sizes (truth_cell sizes t) (k ∷ ks) []

abbrev pub truths_line : List ℕ → List ℕ → RelationTable → List ℕ
truths_line name sizes t =
    labelled (codes "    relation ") name (codes ":") ++ table_truths sizes t t.sorts ++ codes "\n"

-- a function's
abbrev pub table_images : List ℕ → FunctionTable → List ℕ → List ℕ
table_images sizes t [] = codes " " ++ decimal (image_at sizes t [])
table_images sizes t (k ∷ ks) = each_tuple sizes (image_cell sizes t) (k ∷ ks) []

abbrev pub image_label : List ℕ → List ℕ → List ℕ
image_label name [] = labelled (codes "    variable ") name (codes ":")
image_label name (k ∷ ks) = labelled (codes "    function ") name (codes ":")

abbrev pub images_line : List ℕ → List ℕ → FunctionTable → List ℕ
images_line name sizes t = image_label name t.sorts ++ table_images sizes t t.sorts ++ codes "\n"

pub relation_line_is : (names : Names) (s : Tables) (r : ℕ)
    → relation_line names s r ≡ truths_line (name_at names.relations r) s.sizes (relation_at s r)
unfolding symbol_line
relation_line_is names s r = by (relation_at s r).sorts
  where
    by : (ks : List ℕ) → labelled (codes "    relation ") (name_at names.relations r) (codes ":")
        ++ values_text s (symbol.Relation (record { 0 = r })) ks ++ codes "\n"
        ≡ labelled (codes "    relation ") (name_at names.relations r) (codes ":")
        ++ table_truths s.sizes (relation_at s r) ks ++ codes "\n"
    by [] = refl
    by (k ∷ ks) = refl

pub function_line_is : (names : Names) (s : Tables) (f : ℕ)
    → function_line names s f ≡ images_line (name_at names.functions f) s.sizes (function_at s f)
unfolding symbol_line
function_line_is names s f = by (function_at s f).sorts
  where
    by : (ks : List ℕ) → symbol_label names (symbol.Function (record { 0 = f })) ks
        ++ values_text s (symbol.Function (record { 0 = f })) ks ++ codes "\n"
        ≡ image_label (name_at names.functions f) ks ++ table_images s.sizes (function_at s f) ks ++ codes "\n"
    by [] = refl
    by (k ∷ ks) = refl

-- a line of cells
abbrev pub relation_of : List ℕ → List Bool → RelationTable
relation_of ks cells = record { sorts = ks; cells = cells }

abbrev pub function_of : List ℕ → ℕ → List ℕ → FunctionTable
function_of ks into cells = record { sorts = ks; into = into; cells = cells }

pub record IsTruths (sizes ks name : List ℕ) (cells : List Bool) (line : List ℕ) : Type 0 where
  pub full : length cells ≡ tuple_count sizes ks
  pub text : line ≡ truths_line name sizes (relation_of ks cells)

pub record AreImages (sizes ks : List ℕ) (into : ℕ) (name cells line : List ℕ) : Type 0 where
  pub full : length cells ≡ tuple_count sizes ks
  pub within : AllByRecursion (λ x. x < slice_index sizes into) cells
  pub text : line ≡ images_line name sizes (function_of ks into cells)

pub record HasTruths (ts : List (List ℕ)) (done cells : List Bool) (bs : List ℕ) : Type 0 where
  pub values : List Bool
  pub count : length values ≡ length ts
  pub all : cells ≡ done ++ values
  pub text : bs ≡ truths_text ts values ++ codes "\n"

pub record HasImages (size : ℕ) (ts : List (List ℕ)) (done cells bs : List ℕ) : Type 0 where
  pub values : List ℕ
  pub count : length values ≡ length ts
  pub within : AllByRecursion (λ x. x < size) values
  pub all : cells ≡ done ++ values
  pub text : bs ≡ images_text ts values ++ codes "\n"

ends_images : (ts : List (List ℕ)) (vs : List ℕ) → ends_number (images_text ts vs ++ codes "\n") ≡ true
unfolding tuple_text
ends_images [] vs = refl
ends_images (t ∷ ts) [] = refl
ends_images (t ∷ ts) (v ∷ vs) = refl

single : {A : Type 0} (cells : List A) (n : ℕ) → length cells ≡ 1 → (d : A) → cells ≡ get_or cells 0 d ∷ []
single [] n e d = absurd (omega (arith, e))
single (b ∷ []) n e d = refl
single (b ∷ c ∷ cs) n e d = absurd (omega (arith, e))

module _ (x : ScansAreExact) (sizes : List ℕ) (small : (k : ℕ) → slice_index sizes k ≤ most)
    (numbered : TuplesAreNumbered) where
  truths_there : (ks : List ℕ) (ts : List (List ℕ)) (bs done : List Bool) → length bs ≡ length ts
      → AllByRecursion (InRange sizes ks) ts → Distinct ts
      → truths_end ts done (truths_text ts bs ++ codes "\n") ≡ Some (done ++ bs)
  truths_there ks [] [] done len all one =
      ap (λ t. cond t (Some done) None) x.end_there ∙ ap Some (sym (append-nil done))
  truths_there ks [] (b ∷ bs) done len all one = absurd (omega (arith, len))
  truths_there ks (t ∷ ts) [] done len all one = absurd (omega (arith, len))
  truths_there ks (t ∷ ts) (true ∷ bs) done len all one =
      let here : List ℕ = truths_text (t ∷ ts) (true ∷ bs) ++ codes "\n" in
      let found : behind (tuple_text t) ((tuple_text t ++ truths_text ts bs) ++ codes "\n")
      ≡ Some (truths_text ts bs ++ codes "\n") =
      ap (behind (tuple_text t)) (append_assoc (tuple_text t) (truths_text ts bs) (codes "\n"))
      ∙ x.behind_there (tuple_text t) (truths_text ts bs ++ codes "\n") in
      ap (λ o. choose o (truths_end ts (done ++ true ∷ [])) (truths_end ts (done ++ false ∷ []) here)) found
      ∙ truths_there ks ts bs (done ++ true ∷ []) (omega (arith, len)) all.1 one.1
      ∙ ap Some (append_assoc done (true ∷ []) bs)
  truths_there ks (t ∷ ts) (false ∷ bs) done len all one =
      let here : List ℕ = truths_text ts bs ++ codes "\n" in
      ap (λ o. choose o (truths_end ts (done ++ true ∷ [])) (truths_end ts (done ++ false ∷ []) here))
      (none_in_front x sizes small ks t ts bs all.0 all.1 one.0)
      ∙ truths_there ks ts bs (done ++ false ∷ []) (omega (arith, len)) all.1 one.1
      ∙ ap Some (append_assoc done (false ∷ []) bs)

  truths_sound : (ts : List (List ℕ)) (done cells : List Bool) (bs : List ℕ) → truths_end ts done bs ≡ Some cells
      → HasTruths ts done cells bs
  truths_sound [] done cells bs e =
      let k = kept (is_end bs) done cells e in
      record {
        values = [];
        count = refl;
        all = sym k.value ∙ sym (append-nil done);
        text = x.end_sound bs k.test;
      }
  truths_sound (t ∷ ts) done cells bs e =
      by (behind (tuple_text t) bs) refl e (λ a. truths_sound ts (done ++ true ∷ []) cells a)
      (truths_sound ts (done ++ false ∷ []) cells bs)
    where
      by : (o : Option (List ℕ)) → behind (tuple_text t) bs ≡ o
          → choose o (truths_end ts (done ++ true ∷ [])) (truths_end ts (done ++ false ∷ []) bs) ≡ Some cells
          → ((a : List ℕ) → truths_end ts (done ++ true ∷ []) a ≡ Some cells → HasTruths ts (done ++ true ∷ []) cells a)
          → (truths_end ts (done ++ false ∷ []) bs ≡ Some cells → HasTruths ts (done ++ false ∷ []) cells bs)
          → HasTruths (t ∷ ts) done cells bs
      by (Some a) is f yes_more no_more =
          let r = yes_more a f in
          record {
            values = true ∷ r.values;
            count = ap suc r.count;
            all = r.all ∙ append_assoc done (true ∷ []) r.values;
            text = behind_then x (tuple_text t) bs a (truths_text ts r.values ++ codes "\n") is r.text
                ∙ sym (append_assoc (tuple_text t) (truths_text ts r.values) (codes "\n"));
          }
      by None is f yes_more no_more =
          let r = no_more f in
          record {
            values = false ∷ r.values;
            count = ap suc r.count;
            all = r.all ∙ append_assoc done (false ∷ []) r.values;
            text = r.text;
          }

  images_there : (size : ℕ) → size ≤ most → (ts : List (List ℕ)) (vs done : List ℕ) → length vs ≡ length ts
      → AllByRecursion (λ v. v < size) vs
      → values_end size ts done (images_text ts vs ++ codes "\n") ≡ Some (done ++ vs)
  images_there size le [] [] done len all =
      ap (λ t. cond t (Some done) None) x.end_there ∙ ap Some (sym (append-nil done))
  images_there size le [] (v ∷ vs) done len all = absurd (omega (arith, len))
  images_there size le (t ∷ ts) [] done len all = absurd (omega (arith, len))
  images_there size le (t ∷ ts) (v ∷ vs) done len all =
      let found : mapped_at size t ((((tuple_text t ++ codes "->") ++ decimal v) ++ images_text ts vs) ++ codes "\n")
      ≡ Some (v, images_text ts vs ++ codes "\n") =
      ap (mapped_at size t) (apart5 (tuple_text t) (codes "->") (decimal v) (images_text ts vs) (codes "\n"))
      ∙ ap (λ o. on o (λ (a : List ℕ). on (behind (codes "->") a) (value_at size)))
      (x.behind_there (tuple_text t) (codes "->" ++ (decimal v ++ (images_text ts vs ++ codes "\n"))))
      ∙ value_there x size v (images_text ts vs ++ codes "\n") all.0 le (ends_images ts vs) in
      ap (λ o. on o (λ (n : ℕ × List ℕ). values_end size ts (done ++ n.0 ∷ []) n.1)) found
      ∙ images_there size le ts vs (done ++ v ∷ []) (omega (arith, len)) all.1
      ∙ ap Some (append_assoc done (v ∷ []) vs)

  images_sound : (size : ℕ) (ts : List (List ℕ)) (done cells bs : List ℕ) → values_end size ts done bs ≡ Some cells
      → HasImages size ts done cells bs
  images_sound size [] done cells bs e =
      let k = kept (is_end bs) done cells e in
      record {
        values = [];
        count = refl;
        within = tt;
        all = sym k.value ∙ sym (append-nil done);
        text = x.end_sound bs k.test;
      }
  images_sound size (t ∷ ts) done cells bs e =
      let a = taken (mapped_at size t bs) (λ (n : ℕ × List ℕ). values_end size ts (done ++ n.0 ∷ []) n.1) cells e in
      let b = taken (behind (tuple_text t) bs) (λ (l : List ℕ). on (behind (codes "->") l) (value_at size)) a.value
      a.found in
      let c = taken (behind (codes "->") b.value) (value_at size) a.value b.gives in
      let v = value_sound x size c.value a.value c.gives in
      let r = images_sound size ts (done ++ a.value.0 ∷ []) cells a.value.1 a.gives in
      record {
        values = a.value.0 ∷ r.values;
        count = ap suc r.count;
        within = (v.below, r.within);
        all = r.all ∙ append_assoc done (a.value.0 ∷ []) r.values;
        text = behind_then x (tuple_text t) bs b.value
            (codes "->" ++ (decimal a.value.0 ++ (images_text ts r.values ++ codes "\n"))) b.found
            (behind_then x (codes "->") b.value c.value (decimal a.value.0 ++ (images_text ts r.values ++ codes "\n"))
            c.found (v.text ∙ ap (λ l. decimal a.value.0 ++ l) r.text))
            ∙ sym (apart5 (tuple_text t) (codes "->") (decimal a.value.0) (images_text ts r.values) (codes "\n"));
      }

  -- what stands behind the name of a relation
  truth_there : (b : Bool) → truth_end ((codes " " ++ truth_text b) ++ codes "\n") ≡ Some (b ∷ [])
  unfolding truth_text
  truth_there true = refl
  truth_there false = refl

  relation_there : (ks : List ℕ) (cells : List Bool) → length cells ≡ tuple_count sizes ks
      → relation_end sizes ks (table_truths sizes (relation_of ks cells) ks ++ codes "\n") ≡ Some cells
  unfolding place_of
  relation_there [] cells full =
      truth_there (get_or cells 0 false) ∙ ap Some (sym (single cells 0 full false))
  relation_there (k ∷ ks) cells full =
      let num = numbered sizes (k ∷ ks) in
      let le : 0 + tuple_count sizes (k ∷ ks) ≤ tuple_count sizes (k ∷ ks) = omega arith in
      ap (λ l. truths_end (all_tuples sizes (k ∷ ks)) [] (l ++ codes "\n"))
      (truths_are sizes (relation_of (k ∷ ks) cells) num full)
      ∙ truths_there (k ∷ ks) (all_tuples sizes (k ∷ ks)) cells []
      (full ∙ sym (length-tuples_from sizes (k ∷ ks) 0 (tuple_count sizes (k ∷ ks))))
      (in_range sizes (k ∷ ks) num (tuple_count sizes (k ∷ ks)) 0 le)
      (distinct sizes (k ∷ ks) num (tuple_count sizes (k ∷ ks)) 0 le)

  record IsRelationEnd (ks : List ℕ) (cells : List Bool) (bs : List ℕ) : Type 0 where
    full : length cells ≡ tuple_count sizes ks
    text : bs ≡ table_truths sizes (relation_of ks cells) ks ++ codes "\n"

  truth_sound : (bs : List ℕ) (cells : List Bool) → truth_end bs ≡ Some cells → IsRelationEnd [] cells bs
  unfolding place_of truth_text
  truth_sound bs cells e = by (bytes_eq bs (codes " true\n")) (bytes_eq bs (codes " false\n")) refl refl e
    where
      by : (t u : Bool) → bytes_eq bs (codes " true\n") ≡ t → bytes_eq bs (codes " false\n") ≡ u
          → cond t (Some (true ∷ [])) (cond u (Some (false ∷ [])) None) ≡ Some cells → IsRelationEnd [] cells bs
      by true u i j f =
          let s : true ∷ [] ≡ cells = cc f in
          subst (λ l. IsRelationEnd [] l bs) s (record { full = refl; text = are_words (codes " true\n") bs i })
      by false true i j f =
          let s : false ∷ [] ≡ cells = cc f in
          subst (λ l. IsRelationEnd [] l bs) s (record { full = refl; text = are_words (codes " false\n") bs j })
      by false false i j f = absurd (cc f)

  relation_sound : (ks : List ℕ) (cells : List Bool) (bs : List ℕ) → relation_end sizes ks bs ≡ Some cells
      → IsRelationEnd ks cells bs
  relation_sound [] cells bs e = truth_sound bs cells e
  relation_sound (k ∷ ks) cells bs e =
      let num = numbered sizes (k ∷ ks) in
      let h = truths_sound (all_tuples sizes (k ∷ ks)) [] cells bs e in
      let full : length cells ≡ tuple_count sizes (k ∷ ks) =
      ap (λ (l : List Bool). length l) h.all ∙ h.count
      ∙ length-tuples_from sizes (k ∷ ks) 0 (tuple_count sizes (k ∷ ks)) in
      record {
        full = full;
        text = h.text
            ∙ ap (λ l. truths_text (all_tuples sizes (k ∷ ks)) l ++ codes "\n") (sym h.all)
            ∙ ap (λ l. l ++ codes "\n") (sym (truths_are sizes (relation_of (k ∷ ks) cells) num full));
      }

  pub truths_in_there : (ks name : List ℕ) (cells : List Bool) (line : List ℕ) → IsTruths sizes ks name cells line
      → truths_in sizes ks name line ≡ Some cells
  truths_in_there ks name cells line is =
      let label : List ℕ = labelled (codes "    relation ") name (codes ":") in
      let body : List ℕ = table_truths sizes (relation_of ks cells) ks in
      ap (truths_in sizes ks name) (is.text ∙ append_assoc label body (codes "\n"))
      ∙ ap (λ o. on o (relation_end sizes ks))
      (labelled_there x (codes "    relation ") name (codes ":") (body ++ codes "\n"))
      ∙ relation_there ks cells is.full

  pub truths_in_sound : (ks name line : List ℕ) (cells : List Bool) → truths_in sizes ks name line ≡ Some cells
      → IsTruths sizes ks name cells line
  truths_in_sound ks name line cells e =
      let label : List ℕ = labelled (codes "    relation ") name (codes ":") in
      let body : List ℕ = table_truths sizes (relation_of ks cells) ks in
      let a = taken (behind_labelled (codes "    relation ") name (codes ":") line) (relation_end sizes ks) cells e in
      let h = relation_sound ks cells a.value a.gives in
      record {
        full = h.full;
        text = labelled_sound x (codes "    relation ") name (codes ":") line a.value a.found
            ∙ ap (λ l. label ++ l) h.text ∙ sym (append_assoc label body (codes "\n"));
      }

  blank_cells : (ks : List ℕ) → List Bool
  blank_cells ks = replicate (tuple_count sizes ks) false

  pub truths_line_is : (ks name : List ℕ) → IsLine (truths_in sizes ks name) (IsTruths sizes ks name)
  truths_line_is ks name = record {
    there = truths_in_there ks name;
    sound = λ line cells e. truths_in_sound ks name line cells e;
    empty = refl;
    value = replicate (tuple_count sizes ks) false;
    line = truths_line name sizes (relation_of ks (replicate (tuple_count sizes ks) false));
    some = record { full = length-replicate (tuple_count sizes ks) false; text = refl };
  }

  -- what stands behind the name of a function or a variable
  variable_there : (size v : ℕ) → v < size → size ≤ most
      → variable_end size ((codes " " ++ decimal v) ++ codes "\n") ≡ Some (v ∷ [])
  variable_there size v lt le =
      ap (λ o. on o (λ (n : ℕ × List ℕ). cond (is_end n.1) (Some (n.0 ∷ [])) None))
      (value_there x size v (codes "\n") lt le refl)
      ∙ ap (λ t. cond t (Some (v ∷ [])) None) x.end_there

  abbrev function_end : ℕ → List ℕ → List ℕ → Option (List ℕ)
  function_end size [] bs = variable_end size bs
  function_end size (k ∷ ks) bs = values_end size (all_tuples sizes (k ∷ ks)) [] bs

  function_there : (ks : List ℕ) (into : ℕ) (cells : List ℕ) → length cells ≡ tuple_count sizes ks
      → AllByRecursion (λ v. v < slice_index sizes into) cells
      → function_end (slice_index sizes into) ks (table_images sizes (function_of ks into cells) ks ++ codes "\n")
      ≡ Some cells
  unfolding place_of
  function_there [] into [] full all = absurd (omega (arith, full))
  function_there [] into (v ∷ []) full all = variable_there (slice_index sizes into) v all.0 (small into)
  function_there [] into (v ∷ w ∷ vs) full all = absurd (omega (arith, full))
  function_there (k ∷ ks) into cells full all =
      ap (λ l. values_end (slice_index sizes into) (all_tuples sizes (k ∷ ks)) [] (l ++ codes "\n"))
      (images_are sizes (function_of (k ∷ ks) into cells) (numbered sizes (k ∷ ks)) full)
      ∙ images_there (slice_index sizes into) (small into) (all_tuples sizes (k ∷ ks)) cells []
      (full ∙ sym (length-tuples_from sizes (k ∷ ks) 0 (tuple_count sizes (k ∷ ks)))) all

  record IsFunctionEnd (ks : List ℕ) (into : ℕ) (cells bs : List ℕ) : Type 0 where
    full : length cells ≡ tuple_count sizes ks
    within : AllByRecursion (λ v. v < slice_index sizes into) cells
    text : bs ≡ table_images sizes (function_of ks into cells) ks ++ codes "\n"

  variable_sound : (into : ℕ) (cells bs : List ℕ) → variable_end (slice_index sizes into) bs ≡ Some cells
      → IsFunctionEnd [] into cells bs
  unfolding place_of
  variable_sound into cells bs e =
      let a = taken (element_at (slice_index sizes into) bs)
      (λ (n : ℕ × List ℕ). cond (is_end n.1) (Some (n.0 ∷ [])) None) cells e in
      let b = taken (behind (codes " ") bs) (value_at (slice_index sizes into)) a.value a.found in
      let v = value_sound x (slice_index sizes into) b.value a.value b.gives in
      let k = kept (is_end a.value.1) (a.value.0 ∷ []) cells a.gives in
      subst (λ l. IsFunctionEnd [] into l bs) k.value
      (record {
        full = refl;
        within = (v.below, tt);
        text = behind_then x (codes " ") bs b.value (decimal a.value.0 ++ codes "\n") b.found
            (v.text ∙ ap (λ l. decimal a.value.0 ++ l) (x.end_sound a.value.1 k.test));
      })

  function_sound : (ks : List ℕ) (into : ℕ) (cells bs : List ℕ)
      → function_end (slice_index sizes into) ks bs ≡ Some cells → IsFunctionEnd ks into cells bs
  function_sound [] into cells bs e = variable_sound into cells bs e
  function_sound (k ∷ ks) into cells bs e =
      let num = numbered sizes (k ∷ ks) in
      let h = images_sound (slice_index sizes into) (all_tuples sizes (k ∷ ks)) [] cells bs e in
      let full : length cells ≡ tuple_count sizes (k ∷ ks) =
      ap (λ (l : List ℕ). length l) h.all ∙ h.count
      ∙ length-tuples_from sizes (k ∷ ks) 0 (tuple_count sizes (k ∷ ks)) in
      record {
        full = full;
        within = subst (AllByRecursion (λ v. v < slice_index sizes into)) (sym h.all) h.within;
        text = h.text
            ∙ ap (λ l. images_text (all_tuples sizes (k ∷ ks)) l ++ codes "\n") (sym h.all)
            ∙ ap (λ l. l ++ codes "\n") (sym (images_are sizes (function_of (k ∷ ks) into cells) num full));
      }

  pub values_in_there : (ks : List ℕ) (into : ℕ) (name cells line : List ℕ) → AreImages sizes ks into name cells line
      → values_in sizes ks (slice_index sizes into) name line ≡ Some cells
  values_in_there [] into name cells line is =
      let label : List ℕ = labelled (codes "    variable ") name (codes ":") in
      let body : List ℕ = table_images sizes (function_of [] into cells) [] in
      ap (values_in sizes [] (slice_index sizes into) name) (is.text ∙ append_assoc label body (codes "\n"))
      ∙ ap (λ o. on o (variable_end (slice_index sizes into)))
      (labelled_there x (codes "    variable ") name (codes ":") (body ++ codes "\n"))
      ∙ function_there [] into cells is.full is.within
  values_in_there (k ∷ ks) into name cells line is =
      let label : List ℕ = labelled (codes "    function ") name (codes ":") in
      let body : List ℕ = table_images sizes (function_of (k ∷ ks) into cells) (k ∷ ks) in
      ap (values_in sizes (k ∷ ks) (slice_index sizes into) name) (is.text ∙ append_assoc label body (codes "\n"))
      ∙ ap (λ o. on o (values_end (slice_index sizes into) (all_tuples sizes (k ∷ ks)) []))
      (labelled_there x (codes "    function ") name (codes ":") (body ++ codes "\n"))
      ∙ function_there (k ∷ ks) into cells is.full is.within

  pub values_in_sound : (ks : List ℕ) (into : ℕ) (name line cells : List ℕ)
      → values_in sizes ks (slice_index sizes into) name line ≡ Some cells → AreImages sizes ks into name cells line
  values_in_sound [] into name line cells e =
      let label : List ℕ = labelled (codes "    variable ") name (codes ":") in
      let body : List ℕ = table_images sizes (function_of [] into cells) [] in
      let a = taken (behind_labelled (codes "    variable ") name (codes ":") line)
      (variable_end (slice_index sizes into)) cells e in
      let h = function_sound [] into cells a.value a.gives in
      record {
        full = h.full;
        within = h.within;
        text = labelled_sound x (codes "    variable ") name (codes ":") line a.value a.found
            ∙ ap (λ l. label ++ l) h.text ∙ sym (append_assoc label body (codes "\n"));
      }
  values_in_sound (k ∷ ks) into name line cells e =
      let label : List ℕ = labelled (codes "    function ") name (codes ":") in
      let body : List ℕ = table_images sizes (function_of (k ∷ ks) into cells) (k ∷ ks) in
      let a = taken (behind_labelled (codes "    function ") name (codes ":") line)
      (values_end (slice_index sizes into) (all_tuples sizes (k ∷ ks)) []) cells e in
      let h = function_sound (k ∷ ks) into cells a.value a.gives in
      record {
        full = h.full;
        within = h.within;
        text = labelled_sound x (codes "    function ") name (codes ":") line a.value a.found
            ∙ ap (λ l. label ++ l) h.text ∙ sym (append_assoc label body (codes "\n"));
      }

  zeros_below : (n size : ℕ) → 0 < size → AllByRecursion (λ v. v < size) (replicate n 0)
  zeros_below zero size lt = tt
  zeros_below (suc n) size lt = (lt, zeros_below n size lt)

  none_named : (ks : List ℕ) (size : ℕ) (name : List ℕ) → values_in sizes ks size name [] ≡ None
  none_named [] size name = refl
  none_named (k ∷ ks) size name = refl

  pub images_line_is : (ks : List ℕ) (into : ℕ) (name : List ℕ) → 0 < slice_index sizes into
      → IsLine (values_in sizes ks (slice_index sizes into) name) (AreImages sizes ks into name)
  images_line_is ks into name positive = record {
    there = values_in_there ks into name;
    sound = values_in_sound ks into name;
    empty = none_named ks (slice_index sizes into) name;
    value = replicate (tuple_count sizes ks) 0;
    line = images_line name sizes (function_of ks into (replicate (tuple_count sizes ks) 0));
    some = record {
      full = length-replicate (tuple_count sizes ks) 0;
      within = zeros_below (tuple_count sizes ks) (slice_index sizes into) positive;
      text = refl;
    };
  }
