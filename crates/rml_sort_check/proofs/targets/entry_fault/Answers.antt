use Rattle.std.proofs.Common.{◌≡◌, [], rules, ◌∙◌}
use Rattle.rml_terms.specs.Tree.{expr_tree, expr_trees, exprs_of}
use Rattle.rml_sort_check.specs.declared.wanted.Wanted.TheVariants.{Term}
use Rattle.rml_names.specs.Meanings.{argument_sorts, result_sort}
use Rattle.rml_sort_check.specs.Demands.{first_fault, demands, argument_demands}
use Rattle.rml_names.specs.Drafts.{words_in}
use Rattle.rml_sort_check.proofs.Judged.{both}
use Rattle.rml_sort_check.proofs.targets.entry_fault.Goals as goal

pub returns : goal.returns
returns c =
    let m = words_in c.args.known.now in
    let xs = argument_demands c.args.text.now m [] (exprs_of (expr_trees c.args.args.now))
    (argument_sorts m c.args.symbol) in
    let ys = demands c.args.text.now m [] (Term (result_sort m c.args.symbol)) (expr_tree c.args.value.now) in
    let left : c.outer_arguments_fault-arguments.result ≡ first_fault xs = search rules in
    let right : c.outer_fault-entry.result ≡ first_fault ys = search rules in
    c.or.ensures ∙ both xs ys _ _ left right
