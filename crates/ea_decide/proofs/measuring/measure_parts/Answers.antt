use Rattle.ground_size.specs.Conjoined.{and_of}
use Rattle.ea_decide.proofs.measuring.measure_parts.Goals as goal

pub returns : goal.returns
returns c =
    let counted = c.in_ok-counts.ensures in
    c.measure_size.ensures c.args.signature.now (and_of c.args.parts.now)
    (record {
      counts = counted.counts;
      are = counted.terms;
      terms = c.total.ensures counted.counts counted.capped;
      size = c.ground_size_of_parts.ensures counted.counts counted.capped;
    })
