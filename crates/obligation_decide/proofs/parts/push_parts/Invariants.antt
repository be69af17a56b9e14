use Rattle.std.proofs.Common.{◌≡◌, ◌++◌, map, take}
use Rattle.fol_formula.specs.View.{form}
use Rattle.obligation_decide.proofs.parts.push_parts.Given as goal

abbrev pub invariant-loop-sentence : goal.invariant-loop-sentence
invariant-loop-sentence l =
    map form l.parts.items ≡ map form l.initial.parts.items ++ take l.sentence-index l.more
