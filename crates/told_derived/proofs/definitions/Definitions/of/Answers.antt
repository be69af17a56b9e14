use Rattle.std.proofs.Common.{sym, subst, ap, ◌∙◌}
use Rattle.fol_sig.specs.Symbols.{symbols}
use Rattle.rml_syntax.specs.Tree.{file_tree}
use Rattle.rml_names.specs.Drafts.{empty_draft}
use Rattle.rml_sorts.specs.Items.{draft_of, model_of}
use Rattle.told_derived.specs.Definitions.{Definitions, FitDefinitions, drafted}
use Rattle.told_derived.proofs.Fitting.{definitions_fit}
use Rattle.told_derived.proofs.definitions.Definitions.of.Goals as goal

pub returns-in_ok-definitions-in-Ok-clause-fit : goal.returns-in_ok-definitions-in-Ok-clause-fit
returns-in_ok-definitions-in-Ok-clause-fit c =
    let text = c.args.text.now in
    let tree = file_tree c.args.tree.now in
    subst (λ (d : Definitions). FitDefinitions (symbols (model_of text tree).signature) d)
    (sym (c.in_ok-definitions-in-Ok.ensures ∙ ap drafted c.in-Ok.ensures.draft.0))
    (definitions_fit (draft_of text empty_draft tree.items)
    (c.draft_law.ensures text tree c.requires.shape c.requires.right))
