use Rattle.std.proofs.lemmas.Result.{err_from_is_err_and}
use Rattle.cnf_base.specs.Writing.{literal_text}
use Rattle.cnf_base.proofs.Written.{none}
use Rattle.cnf_base.proofs.writer.push_literal.Goals as goal

pub returns-in_err-push-clause-kept : goal.returns-in_err-push-clause-kept
returns-in_err-push-clause-kept c =
    let p = err_from_is_err_and c.from_residual.result c.from_residual.ensures.1 in
    rw (p.1) (rw (c.in_err-push.ensures.items) (none c.args.out.now.items (literal_text c.args.lit)))
