use Rattle.std.proofs.Common.{◌≡◌, ◌++◌, ◌-◌, map}
use Rattle.base.specs.Lists.{count_from}
use Rattle.fol_formula.specs.View.{form}
use Rattle.rml_sorts.specs.Listed.{apart_from}
use Rattle.rml_sorts.proofs.listed.push_apart.Given as goal

abbrev pub invariant-loop-other : goal.invariant-loop-other
invariant-loop-other l =
    map form l.parts.items ++ apart_from l.name (count_from l.other (l.end - l.other))
    ≡ map form l.fn.parts.items ++ apart_from l.name (count_from l.from (l.end - l.from))
