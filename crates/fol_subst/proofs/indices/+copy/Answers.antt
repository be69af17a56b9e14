use Rattle.std.proofs.Common.{refl}
use Rattle.fol_formula.specs.View.{forms, terms}
use Rattle.fol_subst.specs.Rules.{of_indices, form_by, forms_by, term_by, terms_by}
use Rattle.fol_subst.proofs.indices.+copy.Goals as goal

pub copy_formulas-loop-p-preserved : goal.copy_formulas-loop-p-preserved
copy_formulas-loop-p-preserved g t c =
    let rules = of_indices (g.R.Indices.becomes c.args.rule.now) in
    c.lists.ensures.form_turns (forms_by rules c.args.depth) (form_by rules c.args.depth) c.args.ps.now
    c.loop-p.all.items c.push.new.self.items c.loop-p.p-index c.p-item.result c.in_ok-copy_formula.field-0
    (forms_by rules c.args.depth (forms c.args.ps.now)) (λ _ _. refl) c.loop-p-test.true c.p-item.is
    c.in_ok-push.ensures.items c.in_ok-copy_formula.ensures c.loop-p.invariant

pub copy_terms-loop-t-preserved : goal.copy_terms-loop-t-preserved
copy_terms-loop-t-preserved g t c =
    let rules = of_indices (g.R.Indices.becomes c.args.rule.now) in
    c.lists.ensures.term_turns (terms_by rules c.args.depth) (term_by rules c.args.depth) c.args.ts.now
    c.loop-t.all.items c.push.new.self.items c.loop-t.t-index c.t-item.result c.in_ok-copy_term.field-0
    (terms_by rules c.args.depth (terms c.args.ts.now)) (λ _ _. refl) c.loop-t-test.true c.t-item.is
    c.in_ok-push.ensures.items c.in_ok-copy_term.ensures c.loop-t.invariant
