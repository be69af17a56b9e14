use Rattle.std.proofs.Common.{◌<◌, ◌≤◌, sym, subst}
use Rattle.structure_back.proofs.Lowering.{more-own, all-own}
use Rattle.structure_back.proofs.leaders.own_leaders.Goals as goal

pub loop-k-preserved : goal.loop-k-preserved
loop-k-preserved c =
    more-own c.args.counts.now c.loop-k.k c.loop-k.leaders c.push.new.self c.in_ok-own_row.field-0.items
    (subst (λ n. c.loop-k.k < n) (sym c.requires) c.loop-k-test.true) c.loop-k.invariant c.in_ok-own_row.ensures
    c.in_ok-push.ensures

pub returns : goal.returns
returns c =
    all-own c.args.counts.now c.loop-k.k c.loop-k.leaders
    (subst (λ n. n ≤ c.loop-k.k) (sym c.requires) c.loop-k-test.false) c.loop-k.invariant
