use Rattle.std.proofs.Common.{◌<◌, length, map, sym, subst, ◌∙◌}
use Rattle.std.proofs.lemmas.List.{length-map}
use Rattle.fol_sig.specs.Symbols.{symbols}
use Rattle.ground_terms.proofs.Rows.{number, rows-next, row-pushed}
use Rattle.ground_terms.proofs.functions_into.FunctionsInto.new.Goals as goal

pub loop-f-preserved : goal.loop-f-preserved
loop-f-preserved c =
    let sig = symbols c.args.signature.now in
    let rows = c.loop-f.rows.items in
    let k = c.into_of-into.result.0 in
    let h = c.loop-f.invariant in
    let lt : k < sig.sorts = subst (λ q. q < sig.sorts) (sym c.into_of-into.ensures)
    (c.sorts.ensures.sorted.into c.loop-f.f (subst (λ n. c.loop-f.f < n) c.function_count-f-end.ensures
    c.loop-f-test.true)) in
    let inside : k < length rows = subst (λ n. k < n) (sym (sym (length-map rows (λ v. map number v.items)) ∙ h.sorts))
    lt in
    rows-next sig c.loop-f.f k (map (λ v. map number v.items) rows) _ h c.into_of-into.ensures lt
    (row-pushed (λ v. v.items) rows k c.index_mut.result.now c.push.new.self c.index_mut.result.now
    (record { 0 = c.loop-f.f }) inside c.index_mut.ensures.value c.in_ok-push.ensures.items)
