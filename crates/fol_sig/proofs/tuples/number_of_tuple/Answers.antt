use Rattle.std.proofs.Common.{length, ◌≤◌, drop, sym, ap, ◌∙◌, arith}
use Rattle.std.proofs.lemmas.List.{drop_all, length-map}
use Rattle.fol_sig.specs.declared.Sort.{Sort}
use Rattle.fol_sig.specs.Tables.{place_from, place_of, numbers}
use Rattle.fol_sig.proofs.Places.{sort_turn}
use Rattle.fol_sig.proofs.tuples.number_of_tuple.Goals as goal

pub bounds-sizes-sorts : goal.bounds-sizes-sorts
bounds-sizes-sorts c =
    (sort_turn c.args.sizes.now c.args.sorts.now c.args.tuple.now c.loop-i.i c.loop-i.at (record { 0 = 0 })
    c.requires.sorted c.loop-i-test.true c.loop-i.invariant.rest c.loop-i.invariant.room c.requires.room).known

pub overflow_mul-at : goal.overflow_mul-at
overflow_mul-at c =
    let t = sort_turn c.args.sizes.now c.args.sorts.now c.args.tuple.now c.loop-i.i c.loop-i.at (record { 0 = 0 })
    c.requires.sorted c.loop-i-test.true c.loop-i.invariant.rest c.loop-i.invariant.room c.requires.room in
    omega (arith, t.product)

pub bounds-tuple-i : goal.bounds-tuple-i
bounds-tuple-i c =
    (sort_turn c.args.sizes.now c.args.sorts.now c.args.tuple.now c.loop-i.i c.loop-i.at (record { 0 = 0 })
    c.requires.sorted c.loop-i-test.true c.loop-i.invariant.rest c.loop-i.invariant.room c.requires.room).inside

pub overflow_add-at : goal.overflow_add-at
overflow_add-at c =
    let t = sort_turn c.args.sizes.now c.args.sorts.now c.args.tuple.now c.loop-i.i c.loop-i.at (record { 0 = 0 })
    c.requires.sorted c.loop-i-test.true c.loop-i.invariant.rest c.loop-i.invariant.room c.requires.room in
    omega (arith, t.sum)

pub loop-i-preserved : goal.loop-i-preserved
loop-i-preserved c =
    let t = sort_turn c.args.sizes.now c.args.sorts.now c.args.tuple.now c.loop-i.i c.loop-i.at (record { 0 = 0 })
    c.requires.sorted c.loop-i-test.true c.loop-i.invariant.rest c.loop-i.invariant.room c.requires.room in
    record {
      same = sym t.place ∙ c.loop-i.invariant.same;
      rest = t.rest;
      room = t.room;
    }

pub returns-clause-value : goal.returns-clause-value
unfolding place_of
returns-clause-value c =
    let ks = numbers c.args.sorts.now in
    let past : length ks ≤ c.loop-i.i =
    omega (arith, c.loop-i-test.false, length-map c.args.sorts.now (λ (k : Sort). k.0)) in
    sym (ap (λ ys. place_from c.args.sizes.now c.loop-i.at ys (drop c.loop-i.i c.args.tuple.now))
    (drop_all c.loop-i.i ks past)) ∙ c.loop-i.invariant.same
