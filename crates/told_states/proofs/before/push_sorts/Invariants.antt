use Rattle.fol_sig.specs.Tables.{size_at}
use Rattle.fol_sig.specs.Tuples.{join_below}
use Rattle.told_text.specs.Written.{Wrote}
use Rattle.told_states.specs.BeforeText.{sort_text}
use Rattle.told_states.proofs.before.push_sorts.Given as goal

abbrev pub invariant-loop-sort : goal.invariant-loop-sort
invariant-loop-sort l = Wrote l.initial.out l.out
    (join_below l.sort (λ k. sort_text l.names k (size_at l.structure k)))
