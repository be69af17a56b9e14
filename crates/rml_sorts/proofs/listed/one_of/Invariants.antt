use Rattle.std.proofs.Common.{◌≡◌, ◌++◌, ◌-◌, map}
use Rattle.base.specs.Lists.{count_from}
use Rattle.fol_formula.specs.View.{form}
use Rattle.rml_sorts.specs.Listed.{is_one_of}
use Rattle.rml_sorts.proofs.listed.one_of.Given as goal

abbrev pub invariant-loop-name : goal.invariant-loop-name
invariant-loop-name l =
    map form l.parts.items ++ is_one_of (count_from l.name (l.end - l.name)) ≡ is_one_of (count_from l.first (l.end - l.first))
