use Rattle.std.proofs.Common.{arith, ◌∙◌}
use Rattle.renumbering.proofs.Numbers.{rising_at, rising_few}
use Rattle.renumbering.proofs.Lists.{still_false, spread_more}
use Rattle.renumbering.proofs.back.spread.Goals as goal

pub overflow_cast-i : goal.overflow_cast-i
overflow_cast-i c =
    let few = rising_few c.args.variables 0 c.args.names.now (omega arith) c.requires.rising in omega arith

pub overflow_add-i : goal.overflow_add-i
overflow_add-i c =
    let few = rising_few c.args.variables 0 c.args.names.now (omega arith) c.requires.rising in omega arith

pub set-requires-clause-within : goal.set-requires-clause-within
set-requires-clause-within c =
    let t = rising_at c.args.variables 0 c.args.names.now c.loop-i.i c.requires.rising (omega arith) in
    (t.0, rw c.loop-i.invariant.len t.1)

pub set-requires-clause-above : goal.set-requires-clause-above
set-requires-clause-above c =
    still_false c.args.variables c.args.names.now c.requires.rising c.args.values.now c.loop-i.spread c.loop-i.i
    (omega arith) c.loop-i.invariant.spread

pub loop-i-preserved : goal.loop-i-preserved
loop-i-preserved c = record {
  len = c.in_ok-set.ensures.len ∙ c.loop-i.invariant.len;
  spread = spread_more c.args.variables c.args.names.now c.requires.rising c.args.values.now c.loop-i.spread c.loop-i.i
      (omega arith) c.loop-i.invariant.spread c.set.new.self c.value.result (c.value.ensures.value (omega arith))
      c.in_ok-set.ensures.ok;
}
