use Rattle.rml_command.proofs.RouteLists.{last_span_of, spans_of}
use Rattle.rml_command.proofs.path.Path.primitives.Goals as goal

pub piece-requires : goal.piece-requires
piece-requires c = let p = c.pieces-pieces in
    last_span_of c.self.inside.block.now p.result.spans.now p.result.last _ p.ensures.places c.self.invariant.within

pub invariant_of-result : goal.invariant_of-result
invariant_of-result c = let p = c.pieces-pieces in (
  p.ensures.filled,
  spans_of c.self.inside.block.now p.result.spans.now p.result.last _ p.ensures.places
      c.self.invariant.within,
)
