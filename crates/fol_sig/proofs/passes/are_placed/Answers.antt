use Rattle.std.proofs.Common.{◌≡◌, ◌<◌, length, get_or, true, ap, ◌∙◌, subst, arith, ⊎_elim}
use Rattle.std.proofs.lemmas.Bool.{cases_lt}
use Rattle.std.proofs.lemmas.List.{length-map, get_or_default}
use Rattle.fol_sig.specs.declared.Sort.{Sort}
use Rattle.fol_sig.specs.Tables.{numbers}
use Rattle.fol_sig.specs.Strata.{has}
use Rattle.fol_sig.specs.Passes.{is_set}
use Rattle.fol_sig.proofs.Places.{number_at}
use Rattle.fol_sig.proofs.Waiting.{has-at}
use Rattle.fol_sig.proofs.passes.are_placed.Goals as goal

pub bounds-placed-sort : goal.bounds-placed-sort
bounds-placed-sort c =
    let ks = c.args.sorts.now in
    let lt : c.loop-sort.sort-index < length (numbers ks) =
    omega (arith, c.loop-sort-test.true, length-map ks (λ (k : Sort). k.0)) in
    subst (λ k. k < length c.args.placed.now)
    (number_at ks c.loop-sort.sort-index (record { 0 = 0 }) c.loop-sort-test.true)
    (c.requires c.loop-sort.sort-index 0 lt)

pub returns-then-not-placed-sort : goal.returns-then-not-placed-sort
returns-then-not-placed-sort c =
    let ks = c.args.sorts.now in
    let i = c.loop-sort.sort-index in
    let lt : i < length (numbers ks) = omega (arith, c.loop-sort-test.true, length-map ks (λ (k : Sort). k.0)) in
    let at = number_at ks i (record { 0 = 0 }) c.loop-sort-test.true in (
      (get_or ks i (record { 0 = 0 })).0,
      subst (λ k. has (numbers ks) k ≡ true) at (has-at (numbers ks) i lt),
      c.if-not-placed-sort.true,
    )

pub loop-sort-preserved : goal.loop-sort-preserved
loop-sort-preserved c =
    let ks = c.args.sorts.now in
    let at = number_at ks c.loop-sort.sort-index (record { 0 = 0 }) c.loop-sort-test.true in
    let lt : c.loop-sort.sort-index < length (numbers ks) =
    omega (arith, c.loop-sort-test.true, length-map ks (λ (k : Sort). k.0)) in
    λ i d less.
    ⊎_elim
    (λ before. c.loop-sort.invariant i d before)
    (λ last.
    let same : i ≡ c.loop-sort.sort-index = omega (arith, less, last) in
    ap (λ m. is_set c.args.placed.now (get_or (numbers ks) m d)) same
    ∙ ap (is_set c.args.placed.now) (get_or_default (numbers ks) c.loop-sort.sort-index d 0 lt ∙ at)
    ∙ c.if-not-placed-sort.false)
    (cases_lt i c.loop-sort.sort-index)
