use Rattle.std.proofs.Common.{◌≡◌, length, map, take}
use Rattle.cnf_base.specs.Literals.{AreLiterals}
use Rattle.renumbering.specs.Named.{named}
use Rattle.renumbering.proofs.dense.dense_literals.Given as goal

abbrev pub invariant-loop-literal : goal.invariant-loop-literal
invariant-loop-literal l = record {
  name : map (named l.names) l.dense.items ≡ take l.literal-index l.clause;
  range : AreLiterals (length l.names) l.dense.items;
}
