use Rattle.fol_pool.specs.Trees.{form_at, term_at}
use Rattle.pool_size.proofs.instance.chosen.Goals as goal

pub returns : goal.returns
returns c =
    let ts = c.args.pool.now in
    c.chosen.ensures c.args.counts.now (form_at ts c.args.p.0) (term_at ts c.args.a.0) (term_at ts c.args.b.0)
    c.of_form-condition.ensures c.of_term-first.ensures c.of_term.ensures
