use Rattle.std.proofs.Common.{◌≡◌, None}
use Rattle.std.specs.List.{AllByRecursion}
use Rattle.rml_houdini.proofs.known.Known.nothing.Given as goal

abbrev pub invariant-loop : goal.invariant-loop
invariant-loop l = AllByRecursion (λ g. g ≡ None) l.groups.items
