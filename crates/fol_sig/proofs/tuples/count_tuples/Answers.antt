use Rattle.std.proofs.Common.{◌≡◌, ◌*◌, ◌+◌, ◌∙◌, ap, min, get_or, drop, arith, subst}
use Rattle.std.proofs.lemmas.List.{drop_more}
use Rattle.fol_sig.specs.Tables.{tuple_count, numbers}
use Rattle.fol_sig.proofs.TupleTurns.{known_sort, times-min}
use Rattle.fol_sig.proofs.tuples.count_tuples.Goals as goal

pub bounds-sizes-sort : goal.bounds-sizes-sort
bounds-sizes-sort c =
    known_sort c.args.sizes.now c.args.sorts.now c.loop-sort.sort-index (record { 0 = 0 }) c.requires
    c.loop-sort-test.true

pub loop-sort-preserved : goal.loop-sort-preserved
loop-sort-preserved c =
    let i = c.loop-sort.invariant in
    let total = tuple_count c.args.sizes.now (numbers c.args.sorts.now) in
    let split = drop_more c.args.sorts.now c.loop-sort.sort-index (record { 0 = 0 }) c.loop-sort-test.true in
    let h = subst (λ ks. i.0 * tuple_count c.args.sizes.now (numbers ks) ≡ total) split i.2 in
    let k = (get_or c.args.sorts.now c.loop-sort.sort-index (record { 0 = 0 })).0 in
    let n = i.0 * get_or c.args.sizes.now k 0 in
    let next : n * tuple_count c.args.sizes.now (numbers (drop (c.loop-sort.sort-index + 1) c.args.sorts.now)) ≡ total =
    omega (arith, h) in (
      n,
      c.saturating_mul-count.ensures ∙ ap (λ m. min (m * get_or c.args.sizes.now k 0) 18446744073709551615) i.1
          ∙ times-min i.0 (get_or c.args.sizes.now k 0) 18446744073709551615,
      next,
    )
