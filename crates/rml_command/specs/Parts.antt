-- The model that its parts make.
use Rattle.std.specs.Prelude.{map}
use Rattle.rml_command.specs.View.{command}
use Rattle.rml_command.specs.Models.{ModelTree}
use Rattle.rml_command.specs.declared.model.Parts.{Parts}

abbrev pub model_of : Parts → ModelTree
model_of p = record {
  signature = p.signature;
  names = p.names;
  axioms = p.axioms;
  conjectures = p.conjectures;
  init = command p.init;
  actions = map command p.actions;
  last = command p.last;
  places = p.places;
}
