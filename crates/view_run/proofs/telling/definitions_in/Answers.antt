-- The derived relations are over the symbols of the model, which is that of the tree.
use Rattle.std.proofs.Common.{subst, sym}
use Rattle.fol_sig.specs.Symbols.{symbols}
use Rattle.rml_command.specs.Models.{ModelTree}
use Rattle.told_derived.specs.Definitions.{FitDefinitions}
use Rattle.view_run.proofs.telling.definitions_in.Goals as goal

pub returns-in_ok-definitions-in-Parsed-clause-fit : goal.returns-in_ok-definitions-in-Parsed-clause-fit
returns-in_ok-definitions-in-Parsed-clause-fit c =
    subst (λ (m : ModelTree). FitDefinitions (symbols m.signature) c.in_ok-definitions-in-Parsed.definitions)
    (sym c.model_of_tree.ensures.own) c.in_ok-definitions-in-Parsed.ensures.fit
