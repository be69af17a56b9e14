use Rattle.std.proofs.Common.{length, sym, subst}
use Rattle.base.specs.Because.{Because}
use Rattle.rml_lex.specs.Tokens.{StandsBy}
use Rattle.rml_syntax.specs.Tree.{file_tree}
use Rattle.rml_command.specs.Models.{IsModel}
use Rattle.rml_names.specs.Drafts.{DraftTree, model_of_draft}
use Rattle.rml_items.specs.Answered.{if_err}
use Rattle.rml_sorts.proofs.whole_tree.resolve.Goals as goal

pub returns-in_err-draft-clause-place : goal.returns-in_err-draft-clause-place
returns-in_err-draft-clause-place c =
    if_err (Because (StandsBy (length c.args.text.now))) c.from_residual-in_err-draft.result c.in_err-draft.field-0.0
    c.from_residual-in_err-draft.ensures.1 c.in_err-draft.ensures.place

pub into_model-requires : goal.into_model-requires
into_model-requires c =
    subst (λ (d : DraftTree). IsModel (model_of_draft d)) (sym c.in_ok-draft.ensures.draft.0)
    (c.model_law.ensures c.args.text.now (file_tree c.args.tree.now) c.requires.shape c.in_ok-judge.ensures.met)
