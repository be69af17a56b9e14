use Rattle.std.proofs.Common.{ℕ, List, [], length, sym, ap, ◌∙◌}
use Rattle.std.specs.Prelude.{slice_index}
use Rattle.std.proofs.lemmas.Bool.{eqb-false}
use Rattle.std.proofs.lemmas.List.{length-map}
use Rattle.fol_sig.specs.Tables.{numbers, function_at, size_at}
use Rattle.line_scan.specs.Scanning.{name_at}
use Rattle.report_values.specs.ValueReading.{all_tuples, values_end}
use Rattle.report_values.proofs.Turns.{values_found}
use Rattle.report_values.proofs.cells.values_in.Goals as goal

pub returns-in_ok-cells-in-Some-behind_labelled : goal.returns-in_ok-cells-in-Some-behind_labelled
returns-in_ok-cells-in-Some-behind_labelled c =
    values_found c.args.sizes.now (function_at c.args.structure.now c.args.fun.0).sorts
    (size_at c.args.structure.now (function_at c.args.structure.now c.args.fun.0).into)
    (name_at c.args.names.now c.args.fun.0) c.args.line.now c.in-Some-behind_labelled.scan
    c.in_ok-cells-in-Some-behind_labelled.cells
    (λ none. eqb-false (length c.function_sorts-sorts.result.now) 0 (sym c.is_empty.ensures ∙ c.if-is_empty.false)
    (sym (length-map c.function_sorts-sorts.result.now _)
    ∙ ap (λ (l : List ℕ). length l) (c.function_sorts-sorts.ensures ∙ none)))
    (sym c.behind_labelled-else-is_empty.ensures ∙ c.in-Some-behind_labelled.is)
    (c.in_ok-cells-in-Some-behind_labelled.ensures
    ∙ ap (λ k. values_end (slice_index c.args.structure.now.sizes k)
    (all_tuples c.args.sizes.now (numbers c.function_sorts-sorts.result.now)) [] c.in-Some-behind_labelled.scan)
    c.function_into-into.ensures
    ∙ ap (λ (ks : List ℕ). values_end
    (size_at c.args.structure.now (function_at c.args.structure.now c.args.fun.0).into)
    (all_tuples c.args.sizes.now ks) [] c.in-Some-behind_labelled.scan) c.function_sorts-sorts.ensures)
