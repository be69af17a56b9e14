-- How many cells a line gives, and that they are elements.
use Rattle.std.proofs.Common.{◌≡◌, ℕ, ◌+◌, ◌<◌, ◌≤◌, Bool, true, false, List, [], ◌∷◌, ◌++◌, length, Option, Some, None}
use Rattle.std.proofs.Common.{refl, sym, ap, ◌∙◌, subst, cond, arith, length-append, All}
use Rattle.std.specs.Prelude.{codes, nat_lt, nat_le, ◌&&◌}
use Rattle.std.specs.Str.{bytes_eq}
use Rattle.std.proofs.lemmas.Bool.{ltb-true, leb-true, and_parts}
use Rattle.std.proofs.lemmas.List.Elements.{All-push, All-nil}
use Rattle.fol_sig.specs.Tables.{tuple_count}
use Rattle.rml_report.specs.TableText.{tuple_text}
use Rattle.line_scan.specs.Scanning.{behind, number_at, is_end}
use Rattle.report_values.specs.ValueReading.{choose, on, behind_labelled, value_at, element_at, all_tuples, truths_end}
use Rattle.report_values.specs.ValueReading.{mapped_at, values_end, truth_end, relation_end, truths_in, variable_end}
use Rattle.report_values.specs.ValueReading.{values_in}
use Rattle.report_read.specs.LineReading.{size_in, size_end}
use Rattle.report_read.proofs.LineLaws.{taken, kept}
use Rattle.report_read.proofs.Tuples.{length-tuples_from}

truths_length : (ts : List (List ℕ)) (done cells : List Bool) (bs : List ℕ) → truths_end ts done bs ≡ Some cells
    → length cells ≡ length done + length ts
truths_length [] done cells bs e =
    let k = kept (is_end bs) done cells e in
    let same : length done ≡ length cells = ap (λ (l : List Bool). length l) k.value in omega (arith, same)
truths_length (t ∷ ts) done cells bs e =
    by (behind (tuple_text t) bs) e (λ a. truths_length ts (done ++ true ∷ []) cells a)
    (truths_length ts (done ++ false ∷ []) cells bs)
  where
    by : (o : Option (List ℕ))
        → choose o (truths_end ts (done ++ true ∷ [])) (truths_end ts (done ++ false ∷ []) bs) ≡ Some cells
        → ((a : List ℕ) → truths_end ts (done ++ true ∷ []) a ≡ Some cells
        → length cells ≡ length (done ++ true ∷ []) + length ts)
        → (truths_end ts (done ++ false ∷ []) bs ≡ Some cells
        → length cells ≡ length (done ++ false ∷ []) + length ts)
        → length cells ≡ length done + length (t ∷ ts)
    by (Some a) f yes_more no_more = omega (arith, yes_more a f, length-append done (true ∷ []))
    by None f yes_more no_more = omega (arith, no_more f, length-append done (false ∷ []))

truth_length : (bs : List ℕ) (cells : List Bool) → truth_end bs ≡ Some cells → length cells ≡ 1
truth_length bs cells e = by (bytes_eq bs (codes " true\n")) (bytes_eq bs (codes " false\n")) e
  where
    by : (t u : Bool) → cond t (Some (true ∷ [])) (cond u (Some (false ∷ [])) None) ≡ Some cells → length cells ≡ 1
    by true u f = let s : true ∷ [] ≡ cells = cc f in ap (λ (l : List Bool). length l) (sym s)
    by false true f = let s : false ∷ [] ≡ cells = cc f in ap (λ (l : List Bool). length l) (sym s)
    by false false f = absurd (cc f)

relation_length : (sizes ks : List ℕ) (bs : List ℕ) (cells : List Bool) → relation_end sizes ks bs ≡ Some cells
    → length cells ≡ tuple_count sizes ks
relation_length sizes [] bs cells e = truth_length bs cells e
relation_length sizes (k ∷ ks) bs cells e =
    omega (
      arith,
      truths_length (all_tuples sizes (k ∷ ks)) [] cells bs e,
      length-tuples_from sizes (k ∷ ks) 0 (tuple_count sizes (k ∷ ks)),
    )

pub length_truths : (sizes given ks name line : List ℕ) (cells : List Bool) → given ≡ sizes
    → truths_in given ks name line ≡ Some cells → length cells ≡ tuple_count sizes ks
length_truths sizes given ks name line cells same e =
    let a = taken (behind_labelled (codes "    relation ") name (codes ":") line) (relation_end given ks) cells e in
    relation_length given ks a.value cells a.gives ∙ ap (λ z. tuple_count z ks) same

value_below : (size : ℕ) (bs : List ℕ) (n : ℕ × List ℕ) → value_at size bs ≡ Some n → n.0 < size
value_below size bs n e =
    let a = taken (number_at bs) (λ (m : ℕ × List ℕ). cond (nat_lt m.0 size) (Some m) None) n e in
    let k = kept (nat_lt a.value.0 size) a.value n a.gives in
    subst (λ (m : ℕ × List ℕ). m.0 < size) k.value (ltb-true a.value.0 size k.test)

mapped_below : (size : ℕ) (t bs : List ℕ) (n : ℕ × List ℕ) → mapped_at size t bs ≡ Some n → n.0 < size
mapped_below size t bs n e =
    let b = taken (behind (tuple_text t) bs) (λ (l : List ℕ). on (behind (codes "->") l) (value_at size)) n e in
    let c = taken (behind (codes "->") b.value) (value_at size) n b.gives in
    value_below size c.value n c.gives

record AreCells (n size : ℕ) (cells : List ℕ) : Type 0 where
  count : length cells ≡ n
  within : All (λ x. x < size) cells

values_cells : (size : ℕ) (ts : List (List ℕ)) (done cells bs : List ℕ) → All (λ x. x < size) done
    → values_end size ts done bs ≡ Some cells → AreCells (length done + length ts) size cells
values_cells size [] done cells bs all e =
    let k = kept (is_end bs) done cells e in
    let same : length done ≡ length cells = ap (λ (l : List ℕ). length l) k.value in
    record { count = omega (arith, same); within = subst (All (λ x. x < size)) k.value all }
values_cells size (t ∷ ts) done cells bs all e =
    let a = taken (mapped_at size t bs) (λ (n : ℕ × List ℕ). values_end size ts (done ++ n.0 ∷ []) n.1) cells e in
    let r = values_cells size ts (done ++ a.value.0 ∷ []) cells a.value.1
    (All-push (λ x. x < size) done a.value.0 all (mapped_below size t bs a.value a.found)) a.gives in
    record { count = omega (arith, r.count, length-append done (a.value.0 ∷ [])); within = r.within }

variable_cells : (size : ℕ) (bs cells : List ℕ) → variable_end size bs ≡ Some cells → AreCells 1 size cells
variable_cells size bs cells e =
    let a = taken (element_at size bs) (λ (n : ℕ × List ℕ). cond (is_end n.1) (Some (n.0 ∷ [])) None) cells e in
    let b = taken (behind (codes " ") bs) (value_at size) a.value a.found in
    let k = kept (is_end a.value.1) (a.value.0 ∷ []) cells a.gives in
    subst (AreCells 1 size) k.value
    (record {
      count = refl;
      within = All-push (λ x. x < size) [] a.value.0 (All-nil (λ x. x < size))
          (value_below size b.value a.value b.gives);
    })

images_cells : (sizes ks : List ℕ) (size : ℕ) (name line cells : List ℕ)
    → values_in sizes ks size name line ≡ Some cells
    → AreCells (tuple_count sizes ks) size cells
images_cells sizes [] size name line cells e =
    let a = taken (behind_labelled (codes "    variable ") name (codes ":") line) (variable_end size) cells e in
    variable_cells size a.value cells a.gives
images_cells sizes (k ∷ ks) size name line cells e =
    let a = taken (behind_labelled (codes "    function ") name (codes ":") line)
    (values_end size (all_tuples sizes (k ∷ ks)) []) cells e in
    let r = values_cells size (all_tuples sizes (k ∷ ks)) [] cells a.value (All-nil (λ x. x < size)) a.gives in
    record {
      count = omega (arith, r.count, length-tuples_from sizes (k ∷ ks) 0 (tuple_count sizes (k ∷ ks)));
      within = r.within;
    }

pub length_images : (sizes given ks : List ℕ) (size : ℕ) (name line cells : List ℕ) → given ≡ sizes
    → values_in given ks size name line ≡ Some cells → length cells ≡ tuple_count sizes ks
length_images sizes given ks size name line cells same e =
    (images_cells given ks size name line cells e).count ∙ ap (λ z. tuple_count z ks) same

pub within_images : (given ks : List ℕ) (size : ℕ) (name line cells : List ℕ)
    → values_in given ks size name line ≡ Some cells → All (λ x. x < size) cells
within_images given ks size name line cells e = (images_cells given ks size name line cells e).within

pub size_positive : (name line : List ℕ) (size : ℕ) (o : Option ℕ) → o ≡ size_in name line → o ≡ Some size → 0 < size
size_positive name line size o told found =
    let a = taken (behind_labelled (codes "    sort ") name (codes " ") line) size_end size (sym told ∙ found) in
    let b = taken (number_at a.value)
    (λ (n : ℕ × List ℕ). cond (nat_le 1 n.0 && nat_le n.0 100000 && is_end n.1) (Some n.0) None) size a.gives in
    let k = kept (nat_le 1 b.value.0 && nat_le b.value.0 100000 && is_end b.value.1) b.value.0 size b.gives in
    let p = and_parts (nat_le 1 b.value.0 && nat_le b.value.0 100000) (is_end b.value.1) k.test in
    let q = and_parts (nat_le 1 b.value.0) (nat_le b.value.0 100000) p.0 in
    let lo : 1 ≤ b.value.0 = leb-true 1 b.value.0 q.0 in
    let v : b.value.0 ≡ size = k.value in
    omega (arith, lo, v)
