use Rattle.rml_command.specs.InductiveSets.{IsWithin}
use Rattle.rml_houdini.specs.Keeping.{Grows}
use Rattle.rml_houdini.proofs.keeping.keep_from.Given as goal

abbrev pub invariant-loop : goal.invariant-loop
invariant-loop l = record {
  within : IsWithin l.assumed.held.items l.held;
  grows : Grows l.held l.fn.assumed.held.items l.assumed.held.items;
}
