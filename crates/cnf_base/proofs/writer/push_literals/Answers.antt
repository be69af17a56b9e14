use Rattle.std.proofs.lemmas.Result.{err_from_is_err_and}
use Rattle.cnf_base.specs.Writing.{literals_text}
use Rattle.cnf_base.proofs.Written.{within_literal}
use Rattle.cnf_base.proofs.writer.push_literals.Goals as goal

pub returns-in_err-push_literal-clause-kept : goal.returns-in_err-push_literal-clause-kept
returns-in_err-push_literal-clause-kept c =
    let p = err_from_is_err_and c.from_residual.result c.from_residual.ensures.1 in
    rw (p.1)
    (within_literal c.args.out.now.items c.loop-rest.out.items c.push_literal.new.out.items
    (literals_text c.args.lits.now) c.loop-rest.rest.now c.lit-item.result c.in-len1-up.len_at_least c.lit-item.is
    c.loop-rest.invariant.written c.in_err-push_literal.ensures.kept)
