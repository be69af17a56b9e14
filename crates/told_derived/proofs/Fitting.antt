-- The derived relations of a draft that is sound are over the symbols of its model.
use Rattle.std.proofs.Common.{[]}
use Rattle.fol_sig.specs.Symbols.{symbols}
use Rattle.rml_names.specs.Drafts.{DraftTree, model_of_draft}
use Rattle.rml_sorts.specs.Sound.{IsSound}
use Rattle.told_derived.specs.Definitions.{FitDefinitions, drafted}

pub definitions_fit : (d : DraftTree) → IsSound d → FitDefinitions (symbols (model_of_draft d).signature) (drafted d)
definitions_fit d s = record {
  named = s.words.derived;
  counted = s.bodies.counted;
  each = λ k lt. record {
    sorted = s.words.derived_sorted k [] lt;
    short = s.words.derived_short k [] lt;
    body = s.bodies.fit k lt;
  };
}
