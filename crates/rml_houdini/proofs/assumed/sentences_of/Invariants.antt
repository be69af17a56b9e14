use Rattle.std.proofs.Common.{◌≡◌, map, take}
use Rattle.std.specs.Prelude.{slice_index_or}
use Rattle.fol_formula.specs.Syntax.{top}
use Rattle.rml_houdini.proofs.assumed.sentences_of.Given as goal

abbrev pub invariant-loop-number : goal.invariant-loop-number
invariant-loop-number l =
    l.chosen.items ≡ map (λ k. slice_index_or l.sentences k top) (take l.number-index l.numbers)
