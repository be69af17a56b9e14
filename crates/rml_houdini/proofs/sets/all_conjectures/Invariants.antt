use Rattle.std.proofs.Common.{◌≡◌, ◌-◌, ◌++◌, length}
use Rattle.base.specs.Lists.{count_from}
use Rattle.rml_houdini.proofs.sets.all_conjectures.Given as goal

abbrev pub invariant-loop-k : goal.invariant-loop-k
invariant-loop-k l = record {
  count : l.count ≡ length l.checked.conjectures;
  all : l.all.items ++ count_from l.k (l.count - l.k) ≡ count_from 0 l.count;
}
