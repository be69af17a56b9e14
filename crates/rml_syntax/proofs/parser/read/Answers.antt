use Rattle.std.proofs.lemmas.Result.{err_from_is_err_and}
use Rattle.rml_syntax.specs.Tree.{item_trees}
use Rattle.rml_syntax.proofs.Texts.{reads_in, stops_in}
use Rattle.rml_syntax.proofs.parser.read.Goals as goal

pub returns-in_err-items-in-Ok : goal.returns-in_err-items-in-Ok
returns-in_err-items-in-Ok c =
    let p = err_from_is_err_and c.from_residual.result c.from_residual.ensures.1 in
    rw (p.1, p.2) (stops_in c.args.text.now c.args.tokens.now c.in-Ok.format c.in-Ok.ensures
    c.in_err-items-in-Ok.field-0.0 c.in_err-items-in-Ok.ensures)

pub returns-in_ok-items-in-Ok : goal.returns-in_ok-items-in-Ok
returns-in_ok-items-in-Ok c =
    reads_in c.args.text.now c.args.tokens.now c.in-Ok.format (item_trees c.in_ok-items-in-Ok.items.items)
    c.in-Ok.ensures c.in_ok-items-in-Ok.ensures
