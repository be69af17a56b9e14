use Rattle.std.proofs.Common.{◌≡◌}
use Rattle.fol_sig.specs.Tuples.{join_below}
use Rattle.told_states.specs.Labels.{labels_at}
use Rattle.told_states.proofs.labels.Labels.of.Given as goal

abbrev pub invariant-loop-fun : goal.invariant-loop-fun
invariant-loop-fun l = l.labels.items ≡ join_below l.fun (labels_at l.model.signature l.structure)
