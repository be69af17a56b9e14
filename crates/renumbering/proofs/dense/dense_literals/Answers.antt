use Rattle.std.proofs.Common.{length, map, arith, ap, sym, subst, ◌∙◌}
use Rattle.cnf_base.specs.Literals.{AreLiterals}
use Rattle.renumbering.specs.Named.{named}
use Rattle.renumbering.proofs.Lists.{taken_push, literals_push}
use Rattle.renumbering.proofs.dense.dense_literals.Goals as goal

pub loop-literal-preserved : goal.loop-literal-preserved
loop-literal-preserved c =
    let f = named c.args.names.now in
    let done = c.loop-literal.dense.items in
    record {
      name = ap (map f) c.in_ok-push-in-Some.ensures.items
          ∙ taken_push f done c.args.clause.now c.loop-literal.literal-index c.in-Some.own c.literal-item.result
          (omega arith) c.literal-item.is c.in-Some.ensures.name c.loop-literal.invariant.name;
      range = subst (AreLiterals (length c.args.names.now)) (sym c.in_ok-push-in-Some.ensures.items)
          (literals_push (length c.args.names.now) done c.in-Some.own c.loop-literal.invariant.range
          c.in-Some.ensures.range);
    }
