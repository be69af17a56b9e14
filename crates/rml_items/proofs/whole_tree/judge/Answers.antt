use Rattle.std.proofs.Common.{◌≡◌, length, Some, rules}
use Rattle.std.specs.Result.{IfErr}
use Rattle.base.specs.Because.{Because}
use Rattle.rml_lex.specs.declared.token.Fault.{Fault}
use Rattle.rml_lex.specs.Tokens.{StandsBy}
use Rattle.rml_syntax.specs.Tree.{file_tree}
use Rattle.rml_items.specs.Items.{fault_of}
use Rattle.rml_items.specs.Answered.{if_refused}
use Rattle.rml_items.proofs.whole_tree.judge.Goals as goal

pub returns-clause-place : goal.returns-clause-place
returns-clause-place c =
    let text = c.args.text.now in
    let tree = file_tree c.args.tree.now in
    let first : IfErr c.judge_items-judged.result
    (Because (λ (f : Fault). fault_of c.args.text.now (file_tree c.args.tree.now) ≡ Some f)) = search rules in
    if_refused (λ (f : Fault). fault_of text tree ≡ Some f) (StandsBy (length text))
    (λ f is. c.fault_law.ensures text (length text) tree f c.requires.within is) c.judge_items-judged.result first
