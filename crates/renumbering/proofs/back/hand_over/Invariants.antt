use Rattle.std.proofs.Common.{◌≡◌, map, take}
use Rattle.renumbering.specs.Named.{named_line}
use Rattle.renumbering.proofs.back.hand_over.Given as goal

abbrev pub invariant-loop-line : goal.invariant-loop-line
invariant-loop-line g l = record {
  formula : g.S.Sink.formula l.sink ≡ g.S.Sink.formula l.initial.sink;
  lines : g.S.Sink.lines l.sink ≡ take l.line-index (map (named_line l.names) l.lines);
}
