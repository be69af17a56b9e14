use Rattle.fol_pool.specs.Trees.{form_at, term_at, terms_at}
use Rattle.pool_size.proofs.instance.measure_of.Goals as goal

pub returns-in-Rel : goal.returns-in-Rel
returns-in-Rel c =
    let w = c.in-Rel in
    rw w.is (c.relation.ensures c.args.counts.now w.field-0.0 (terms_at c.args.pool.now w.args.0) c.of_terms.ensures)

pub returns-in-Eq : goal.returns-in-Eq
returns-in-Eq c =
    let w = c.in-Eq in
    let ts = c.args.pool.now in
    rw w.is (c.equation.ensures c.args.counts.now (term_at ts w.a.0) (term_at ts w.b.0) c.of_term-side.ensures
    c.of_term.ensures)

pub returns-in-Forall : goal.returns-in-Forall
returns-in-Forall c =
    let w = c.in-Forall in
    rw w.is (c.under_all.ensures c.args.counts.now w.k.0 (form_at c.args.pool.now w.p.0) c.of_sort.ensures
    c.of_form-in-Forall.ensures)

pub returns-in-Exists : goal.returns-in-Exists
returns-in-Exists c =
    let w = c.in-Exists in
    rw w.is (c.under_some.ensures c.args.counts.now w.k.0 (form_at c.args.pool.now w.p.0) c.of_sort-in-Exists.ensures
    c.of_form-in-Exists.ensures)

pub returns-in-App : goal.returns-in-App
returns-in-App c =
    let w = c.in-App in
    rw w.is (c.application.ensures c.args.counts.now w.field-0.0 (terms_at c.args.pool.now w.args.0)
    c.of_terms-in-App.ensures)

pub returns-in-TermThen : goal.returns-in-TermThen
returns-in-TermThen c =
    let w = c.in-TermThen in
    let ts = c.args.pool.now in
    rw w.is (c.in_front_of.ensures c.args.counts.now (term_at ts w.t.0) (terms_at ts w.ts.0) c.of_term-first.ensures
    c.of_terms-in-TermThen.ensures)
