use Rattle.fol_sig.specs.Tuples.{join_below}
use Rattle.told_text.specs.Written.{Wrote}
use Rattle.told_states.specs.Labels.{labels_of}
use Rattle.told_derived.specs.Definitions.{definition_at}
use Rattle.told_derived.specs.DerivedText.{change_lines}
use Rattle.told_derived.proofs.definitions.Definitions.push_changes.Given as goal

abbrev pub invariant-loop-number : goal.invariant-loop-number
invariant-loop-number l = Wrote l.initial.out l.out
    (join_below l.number (λ k. change_lines (labels_of l.model l.before) l.before l.after (definition_at l.self k)))
