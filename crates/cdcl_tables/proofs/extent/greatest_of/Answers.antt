use Rattle.std.proofs.Common.{rules, arith, max, ap, ◌∙◌}
use Rattle.cdcl_tables.proofs.Greatest.{tail_among, head_among, each_up_to, more_stands}
use Rattle.cdcl_tables.proofs.extent.greatest_of.Goals as goal

pub loop-rest-preserved : goal.loop-rest-preserved
loop-rest-preserved c =
    let rest = c.loop-rest.rest.now in
    let some = c.in-len1-up.len_at_least in
    let before = c.loop-rest.invariant in
    let here = head_among rest _ c.literal-item.result some c.literal-item.is in record {
      least = omega (arith, before.least, c.max-greatest.ensures);
      range = search rules;
      goes_on = λ n h later. before.goes_on n (omega (arith, h, c.max-greatest.ensures))
          (each_up_to n rest _ c.literal-item.result some c.literal-item.is
          (omega (arith, h, c.max-greatest.ensures, c.variable.ensures.variable)) later);
      among = λ x h. before.among x (tail_among rest x some h);
      stands = more_stands c.args.clause.now c.args.least c.loop-rest.greatest c.literal-item.result
          c.max-greatest.result (c.max-greatest.ensures ∙ ap (max c.loop-rest.greatest) c.variable.ensures.variable)
          (before.among c.literal-item.result here) before.stands;
    }
