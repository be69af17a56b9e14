use Rattle.std.proofs.Common.{rules, ◌+◌, ◌∷◌, [], get_or, length, arith, ap, subst, sym, ◌∙◌}
use Rattle.std.proofs.lemmas.List.{length-append}
use Rattle.fol_sig.specs.Tables.{numbers, InRange, place_of}
use Rattle.fol_sig.proofs.TuplePlaces.{tuple_at-within, place_of-tuple_at}
use Rattle.fol_sig.proofs.TupleTurns.{turn, ended, more}
use Rattle.fol_sig.proofs.tuples.tuple_of_number.Goals as goal

pub overflow_cast-left : goal.overflow_cast-left
overflow_cast-left c =
    let t = turn c.args.sizes.now c.args.sorts.now c.loop-sort.sort-index c.loop-sort.rest c.loop-sort.left
    (record { 0 = 0 }) c.loop-sort-test.true c.loop-sort.invariant.counted c.loop-sort.invariant.less in
    let within = t.within in
    let fits = c.type_inv.sizes (get_or c.args.sorts.now c.loop-sort.sort-index (record { 0 = 0 })).0 in
    grind (arith, rules, within, fits)

pub loop-sort-preserved : goal.loop-sort-preserved
loop-sort-preserved c =
    let t = turn c.args.sizes.now c.args.sorts.now c.loop-sort.sort-index c.loop-sort.rest c.loop-sort.left
    (record { 0 = 0 }) c.loop-sort-test.true c.loop-sort.invariant.counted c.loop-sort.invariant.less in
    record {
      counted = t.counted;
      less = t.below;
      so_far = more c.loop-sort.tuple c.push.new.self _ _ _ _ c.push.ensures t.next c.loop-sort.invariant.so_far;
      long = ap length c.push.ensures ∙ length-append c.loop-sort.tuple (_ ∷ [])
          ∙ ap (λ n. n + 1) c.loop-sort.invariant.long;
    }

pub returns-clause-in_range : goal.returns-clause-in_range
returns-clause-in_range c =
    let e = ended c.args.sizes.now c.args.sorts.now c.loop-sort.sort-index c.loop-sort.left c.loop-sort.tuple _
    c.loop-sort-test.false c.loop-sort.invariant.so_far in
    subst (InRange c.args.sizes.now (numbers c.args.sorts.now)) (sym e)
    (tuple_at-within c.args.sizes.now (numbers c.args.sorts.now) c.args.number c.requires.known)

pub returns-clause-number : goal.returns-clause-number
returns-clause-number c =
    let e = ended c.args.sizes.now c.args.sorts.now c.loop-sort.sort-index c.loop-sort.left c.loop-sort.tuple _
    c.loop-sort-test.false c.loop-sort.invariant.so_far in
    ap (place_of c.args.sizes.now (numbers c.args.sorts.now)) e
    ∙ place_of-tuple_at c.args.sizes.now (numbers c.args.sorts.now) c.args.number c.requires.known
