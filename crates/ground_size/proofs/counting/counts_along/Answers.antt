use Rattle.std.specs.Prelude.{slice_set, All}
use Rattle.std.proofs.Common.{◌+◌, ◌<◌, length, get_or, map, sum_by, ap, sym, subst, ◌∙◌}
use Rattle.fol_sig.specs.Symbols.{symbols}
use Rattle.fol_formula.specs.Counts.{saturated}
use Rattle.ground_terms.specs.TermCounts.{or_one}
use Rattle.ground_size.specs.Walks.{own_count}
use Rattle.ground_size.proofs.RowSums.{number, row-known, row-sum}
use Rattle.ground_size.proofs.Turns.{at_sort, along-turn, written_back}
use Rattle.ground_size.proofs.counting.counts_along.Goals as goal

pub of_sort-requires : goal.of_sort-requires
of_sort-requires c =
    let at = at_sort c.order-sort-items.result.now c.args.strata.now c.loop-sort.sort-index
    (record { 0 = 0 }) c.order-sort-items.ensures c.loop-sort-test.true in
    let lt = subst (λ q. q < c.args.signature.now.sorts) at.1 (c.requires c.loop-sort.sort-index 0 at.0) in
    subst (λ n. (get_or c.order-sort-items.result.now c.loop-sort.sort-index (record { 0 = 0 })).0 < n)
    (sym c.in_ok-functions.ensures.sorts) lt

pub terms_of-count-requires : goal.terms_of-count-requires
terms_of-count-requires c =
    let sig = symbols c.args.signature.now in
    let k = (get_or c.order-sort-items.result.now c.loop-sort.sort-index (record { 0 = 0 })).0 in
    let at = at_sort c.order-sort-items.result.now c.args.strata.now c.loop-sort.sort-index
    (record { 0 = 0 }) c.order-sort-items.ensures c.loop-sort-test.true in
    let lt = subst (λ q. q < c.args.signature.now.sorts) at.1 (c.requires c.loop-sort.sort-index 0 at.0) in
    subst (All (λ f. f < sig.functions)) (sym (c.of_sort.ensures ∙ c.in_ok-functions.ensures.each k lt))
    (row-known sig sig.functions k)

pub loop-sort-preserved : goal.loop-sort-preserved
loop-sort-preserved c =
    let sig = symbols c.args.signature.now in
    let counts = c.loop-sort.counts in
    let at = at_sort c.order-sort-items.result.now c.args.strata.now c.loop-sort.sort-index
    (record { 0 = 0 }) c.order-sort-items.ensures c.loop-sort-test.true in
    let k = (get_or c.order-sort-items.result.now c.loop-sort.sort-index (record { 0 = 0 })).0 in
    let lt = subst (λ q. q < c.args.signature.now.sorts) at.1 (c.requires c.loop-sort.sort-index 0 at.0) in
    let row = c.of_sort.ensures ∙ c.in_ok-functions.ensures.each k lt in
    let back = written_back counts.items c.set_count.new.counts counts.len counts.ok.0 (c.set_count.auto.counts
    ∙ ap length c.deref_mut.ensures.value) in
    let count = c.terms_of-count.ensures
    ∙ ap (λ ns. saturated (or_one (c.count_of-own.result
    + sum_by (own_count sig ns) (map number c.of_sort.result.now)))) c.deref.ensures.value
    ∙ ap (λ fs. saturated (or_one (c.count_of-own.result + sum_by (own_count sig counts.items) fs))) row
    ∙ ap (λ n. saturated (or_one (c.count_of-own.result + n))) (row-sum sig counts.items sig.functions k) in
    along-turn sig c.args.constants.now c.args.strata.now counts.items _ _
    c.loop-sort.sort-index k c.terms_of-count.result c.count_of-own.result at.0 at.1 c.count_of-own.ensures count
    (back ∙ c.set_count.ensures ∙ ap (λ ns. slice_set ns k c.terms_of-count.result) c.deref_mut.ensures.value)
    c.loop-sort.invariant
