use Rattle.fol_sig.specs.Tuples.{join_below}
use Rattle.told_text.specs.Written.{Wrote}
use Rattle.told_states.specs.Labels.{labels_of}
use Rattle.told_derived.specs.Definitions.{definition_at}
use Rattle.told_derived.specs.DerivedText.{facts_line}
use Rattle.told_derived.proofs.definitions.Definitions.push_facts.Given as goal

abbrev pub invariant-loop-number : goal.invariant-loop-number
invariant-loop-number l = Wrote l.initial.out l.out
    (join_below l.number (λ k. facts_line (labels_of l.model l.structure) l.structure (definition_at l.self k)))
