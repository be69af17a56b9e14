use Rattle.std.proofs.Common.{◌≡◌, ◌+◌, ◌-◌, ◌<◌, length, sym, ap, ◌∙◌, arith}
use Rattle.fol_formula.specs.declared.Formula.TheViews.{rolls-Eq, rolls-Implies, rolls-Iff, rolls-Ite}
use Rattle.fol_formula.specs.declared.Formula.TheOpen.{Formula-F, Term-F}
use Rattle.fol_formula.specs.declared.Formula.TheFolds.{fold-roll-Formula, fold-roll-Term}
use Rattle.fol_formula.specs.Syntax.{FormTree, TermTree, equal, implication, equivalence, ite}
use Rattle.fol_formula.specs.View.{form, forms, form_step, term, terms, term_step}
use Rattle.fol_pool.specs.Trees.{a_form, a_term}
use Rattle.fol_pool.proofs.Growing.{two_forms, two_terms, choice, row_grows, forms_row, forms_whole, terms_row}
use Rattle.fol_pool.proofs.Growing.{terms_whole}
use Rattle.fol_pool.proofs.pool.Pool.+taking.Goals as goal

pub take_parts-returns-in_ok-take_term-in-Eq-2-clause-tree :
    goal.take_parts-returns-in_ok-take_term-in-Eq-2-clause-tree
take_parts-returns-in_ok-take_term-in-Eq-2-clause-tree t c =
    let w = c.in-Eq in
    let tree : form c.args.formula.now ≡ equal (term w.a) (term w.b) =
    ap form (w.is ∙ sym (rolls-Eq w.a w.b))
    ∙ fold-roll-Formula FormTree TermTree form_step term_step (Formula-F.Eq w.a w.b) in
    ap a_form
    (two_terms c.take_term.new.self c.take_term-in-Eq.new.self c.in_ok-take_term-in-Eq.field-0.0
    c.in_ok-take_term-in-Eq-2.field-0.0 c.take_term-in-Eq.ensures.grows (term w.a) (term w.b)
    (form c.args.formula.now) c.in_ok-take_term-in-Eq.ensures.node c.in_ok-take_term-in-Eq-2.ensures.node tree)

pub take_parts-returns-in_ok-take_in-in-Implies-2-clause-tree :
    goal.take_parts-returns-in_ok-take_in-in-Implies-2-clause-tree
take_parts-returns-in_ok-take_in-in-Implies-2-clause-tree t c =
    let w = c.in-Implies in
    let first = c.deref-in-Implies.result.now in
    let second = c.deref-in-Implies-2.result.now in
    let tree : form c.args.formula.now ≡ implication (form w.p.value) (form w.q.value) =
    ap form (w.is ∙ sym (rolls-Implies w.p w.q))
    ∙ fold-roll-Formula FormTree TermTree form_step term_step (Formula-F.Implies w.p w.q) in
    ap a_form
    (two_forms c.take_in-in-Implies.new.self c.take_in-in-Implies-2.new.self c.in_ok-take_in-in-Implies.field-0.0
    c.in_ok-take_in-in-Implies-2.field-0.0 c.take_in-in-Implies-2.ensures.grows implication (form first) (form second)
    (form c.args.formula.now) c.in_ok-take_in-in-Implies.ensures.node c.in_ok-take_in-in-Implies-2.ensures.node
    (tree ∙ (λ i. implication (form (sym c.deref-in-Implies.ensures i)) (form (sym c.deref-in-Implies-2.ensures i)))))

pub take_parts-returns-in_ok-take_in-in-Iff-2-clause-tree : goal.take_parts-returns-in_ok-take_in-in-Iff-2-clause-tree
take_parts-returns-in_ok-take_in-in-Iff-2-clause-tree t c =
    let w = c.in-Iff in
    let first = c.deref-in-Iff.result.now in
    let second = c.deref-in-Iff-2.result.now in
    let tree : form c.args.formula.now ≡ equivalence (form w.p.value) (form w.q.value) =
    ap form (w.is ∙ sym (rolls-Iff w.p w.q))
    ∙ fold-roll-Formula FormTree TermTree form_step term_step (Formula-F.Iff w.p w.q) in
    ap a_form
    (two_forms c.take_in-in-Iff.new.self c.take_in-in-Iff-2.new.self c.in_ok-take_in-in-Iff.field-0.0
    c.in_ok-take_in-in-Iff-2.field-0.0 c.take_in-in-Iff-2.ensures.grows equivalence (form first) (form second)
    (form c.args.formula.now) c.in_ok-take_in-in-Iff.ensures.node c.in_ok-take_in-in-Iff-2.ensures.node
    (tree ∙ (λ i. equivalence (form (sym c.deref-in-Iff.ensures i)) (form (sym c.deref-in-Iff-2.ensures i)))))

pub take_term_parts-returns-in_ok-take_term-in-Ite-2-clause-tree :
    goal.take_term_parts-returns-in_ok-take_term-in-Ite-2-clause-tree
take_term_parts-returns-in_ok-take_term-in-Ite-2-clause-tree t c =
    let w = c.in-Ite in
    let condition = c.deref-in-Ite.result.now in
    let first = c.deref-in-Ite-2.result.now in
    let second = c.deref-in-Ite-3.result.now in
    let tree : term c.args.t.now ≡ ite (form w.p.value) (term w.a.value) (term w.b.value) =
    ap term (w.is ∙ sym (rolls-Ite w.p w.a w.b))
    ∙ fold-roll-Term FormTree TermTree form_step term_step (Term-F.Ite w.p w.a w.b) in
    ap a_term
    (choice c.take_in.new.self c.take_term.new.self c.take_term-in-Ite.new.self c.in_ok-take_in-in-Ite.field-0.0
    c.in_ok-take_term-in-Ite.field-0.0 c.in_ok-take_term-in-Ite-2.field-0.0 (form condition) (term first) (term second)
    (term c.args.t.now) c.take_term.ensures.grows c.take_term-in-Ite.ensures.grows c.in_ok-take_in-in-Ite.ensures.node
    c.in_ok-take_term-in-Ite.ensures.node c.in_ok-take_term-in-Ite-2.ensures.node
    (tree ∙ (λ i. ite (form (sym c.deref-in-Ite.ensures i)) (term (sym c.deref-in-Ite-2.ensures i))
    (term (sym c.deref-in-Ite-3.ensures i)))))

pub take_formulas-loop-i-preserved : goal.take_formulas-loop-i-preserved
take_formulas-loop-i-preserved t c =
    let h = c.loop-i.invariant in
    let k = c.loop-i.i - 1 in
    let ps = c.args.formulas.now in
    let count : c.loop-i.i ≡ k + 1 = omega arith in
    let lt : k < length ps = omega arith in
    let start = c.args.self.now in
    let old = c.loop-i.self in
    let taken = c.take_in.new.self in
    let new = c.add-in-loop-i.new.self in
    let row = c.loop-i.row in
    let first = c.in_ok-first.first in
    let next = c.in_ok-row-2.row in
    let grows = c.take_in.ensures.grows in
    let more = c.add-in-loop-i.ensures.grows in
    let p = c.index-formulas-i.result in
    let lists = c.lists.ensures.forms in
    let is = c.index-formulas-i.is in
    let made = c.in_ok-row-2.ensures.node in
    record {
      grows = row_grows start old taken new row first next h.grows grows more;
      row = forms_row start old taken new row first next h.grows grows more lists ps c.loop-i.i k p h.row lt is count
          made;
      whole = forms_whole start old taken new row first next h.grows grows more lists ps c.loop-i.i k p h.row lt is
          count made (forms ps) c.in_ok-first.ensures.node h.whole;
    }

pub take_terms-loop-i-preserved : goal.take_terms-loop-i-preserved
take_terms-loop-i-preserved t c =
    let h = c.loop-i.invariant in
    let k = c.loop-i.i - 1 in
    let us = c.args.ts.now in
    let count : c.loop-i.i ≡ k + 1 = omega arith in
    let lt : k < length us = omega arith in
    let start = c.args.self.now in
    let old = c.loop-i.self in
    let taken = c.take_term.new.self in
    let new = c.add-in-loop-i.new.self in
    let row = c.loop-i.row in
    let first = c.in_ok-first.first in
    let next = c.in_ok-row-2.row in
    let grows = c.take_term.ensures.grows in
    let more = c.add-in-loop-i.ensures.grows in
    let u = c.index-ts-i.result in
    let lists = c.lists.ensures.terms in
    let is = c.index-ts-i.is in
    let made = c.in_ok-row-2.ensures.node in
    record {
      grows = row_grows start old taken new row first next h.grows grows more;
      row = terms_row start old taken new row first next h.grows grows more lists us c.loop-i.i k u h.row lt is count
          made;
      whole = terms_whole start old taken new row first next h.grows grows more lists us c.loop-i.i k u h.row lt is
          count made (terms us) c.in_ok-first.ensures.node h.whole;
    }
