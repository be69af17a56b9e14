use Rattle.std.proofs.Common.{◌≡◌, ◌++◌, ◌-◌, map}
use Rattle.base.specs.Lists.{count_from}
use Rattle.fol_formula.specs.View.{form}
use Rattle.rml_sorts.specs.Listed.{all_apart}
use Rattle.rml_sorts.proofs.listed.all_different.Given as goal

abbrev pub invariant-loop-name : goal.invariant-loop-name
invariant-loop-name l =
    map form l.parts.items ++ all_apart (count_from l.name (l.end - l.name)) ≡ all_apart (count_from l.first (l.end - l.first))
