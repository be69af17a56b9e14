use Rattle.std.proofs.Common.{◌≡◌, ◌+◌, ◌-◌, ◌<◌, ◌∷◌, length, drop, sym, ap, subst, ◌∙◌, arith}
use Rattle.std.proofs.lemmas.List.{drop_more}
use Rattle.fol_formula.specs.declared.Formula.TheViews.{rolls-Rel, rolls-Eq, rolls-Forall, rolls-Exists}
use Rattle.fol_formula.specs.declared.Formula.TheViews.{rolls-App, rolls-Ite}
use Rattle.fol_formula.specs.declared.Formula.TheOpen.{Formula-F, Term-F}
use Rattle.fol_formula.specs.declared.Formula.TheFolds.{fold-roll-Formula, fold-roll-Term}
use Rattle.fol_formula.specs.Syntax.{FormTree, TermTree, rel, equal, for_all, for_some, app, ite}
use Rattle.fol_formula.specs.View.{form, form_step, term, terms, term_step}
use Rattle.fol_nnf.specs.Normal.{leaves, leaves_of_terms}
use Rattle.ground_size.specs.Leaves.{AreSizesOf, AreLeavesOf}
use Rattle.ground_size.proofs.sizes.+sizes.Goals as goal

pub leaves_of-returns-in-App : goal.leaves_of-returns-in-App
leaves_of-returns-in-App t c =
    let w = c.in-App in
    let counts = c.args.counts.now in
    let row = terms c.deref.result.now in
    let tree : term c.args.term.now ≡ app w.field-0.0 row =
    ap term (w.is ∙ sym (rolls-App w.field-0 w.args))
    ∙ fold-roll-Term FormTree TermTree form_step term_step (Term-F.App w.field-0 w.args)
    ∙ ap (λ ts. app w.field-0.0 (terms ts)) (sym c.deref.ensures.value) in
    subst (λ u. AreLeavesOf counts (leaves u) c.application.result) (sym tree)
    (c.application.ensures counts w.field-0.0 row c.leaves_of_terms.ensures)

pub leaves_of-returns-in-Ite : goal.leaves_of-returns-in-Ite
leaves_of-returns-in-Ite t c =
    let w = c.in-Ite in
    let counts = c.args.counts.now in
    let p = form c.deref-in-Ite-3.result.now in
    let a = term c.deref-in-Ite.result.now in
    let b = term c.deref-in-Ite-2.result.now in
    let tree : term c.args.term.now ≡ ite p a b =
    ap term (w.is ∙ sym (rolls-Ite w.p w.a w.b))
    ∙ fold-roll-Term FormTree TermTree form_step term_step (Term-F.Ite w.p w.a w.b)
    ∙ (λ i. ite (form (sym c.deref-in-Ite-3.ensures i)) (term (sym c.deref-in-Ite.ensures i))
    (term (sym c.deref-in-Ite-2.ensures i))) in
    subst (λ u. AreLeavesOf counts (leaves u) c.chosen.result) (sym tree)
    (c.chosen.ensures counts p a b c.sizes_of.ensures c.leaves_of.ensures c.leaves_of-in-Ite.ensures)

pub leaves_of_terms-loop-i-preserved : goal.leaves_of_terms-loop-i-preserved
leaves_of_terms-loop-i-preserved t c =
    let counts = c.args.counts.now in
    let ts = c.args.terms.now in
    let k = c.loop-i.i - 1 in
    let count : k + 1 ≡ c.loop-i.i = omega arith in
    let lt : k < length ts = omega arith in
    let first = c.index-terms-i.result in
    let rest = drop c.loop-i.i ts in
    let split : drop k ts ≡ first ∷ rest = drop_more ts k first lt
    ∙ ap (λ x. x ∷ drop (k + 1) ts) (sym c.index-terms-i.is) ∙ ap (λ n. first ∷ drop n ts) count in
    subst (λ us. AreLeavesOf counts (leaves_of_terms (terms us)) c.in_front_of-row.result) (sym split)
    (c.in_front_of-row.ensures counts (term first) (terms rest) c.leaves_of.ensures c.loop-i.invariant)

pub sizes_of-returns-in-Rel : goal.sizes_of-returns-in-Rel
sizes_of-returns-in-Rel t c =
    let w = c.in-Rel in
    let counts = c.args.counts.now in
    let row = terms c.deref.result.now in
    let tree : form c.args.formula.now ≡ rel w.field-0.0 row =
    ap form (w.is ∙ sym (rolls-Rel w.field-0 w.args))
    ∙ fold-roll-Formula FormTree TermTree form_step term_step (Formula-F.Rel w.field-0 w.args)
    ∙ ap (λ ts. rel w.field-0.0 (terms ts)) (sym c.deref.ensures.value) in
    subst (λ q. AreSizesOf counts q c.relation.result) (sym tree)
    (c.relation.ensures counts w.field-0.0 row c.leaves_of_terms.ensures)

pub sizes_of-returns-in-Eq : goal.sizes_of-returns-in-Eq
sizes_of-returns-in-Eq t c =
    let w = c.in-Eq in
    let counts = c.args.counts.now in
    let tree : form c.args.formula.now ≡ equal (term w.a) (term w.b) =
    ap form (w.is ∙ sym (rolls-Eq w.a w.b))
    ∙ fold-roll-Formula FormTree TermTree form_step term_step (Formula-F.Eq w.a w.b) in
    subst (λ q. AreSizesOf counts q c.equation.result) (sym tree)
    (c.equation.ensures counts (term w.a) (term w.b) c.leaves_of.ensures c.leaves_of-in-Eq.ensures)

pub sizes_of-returns-in-Forall : goal.sizes_of-returns-in-Forall
sizes_of-returns-in-Forall t c =
    let w = c.in-Forall in
    let counts = c.args.counts.now in
    let p = form c.deref-in-Forall.result.now in
    let tree : form c.args.formula.now ≡ for_all w.sort.0 p =
    ap form (w.is ∙ sym (rolls-Forall w.sort w.p))
    ∙ fold-roll-Formula FormTree TermTree form_step term_step (Formula-F.Forall w.sort w.p)
    ∙ ap (λ q. for_all w.sort.0 (form q)) (sym c.deref-in-Forall.ensures) in
    subst (λ q. AreSizesOf counts q c.under_all.result) (sym tree)
    (c.under_all.ensures counts w.sort.0 p c.of_sort.ensures c.sizes_of-in-Forall.ensures)

pub sizes_of-returns-in-Exists : goal.sizes_of-returns-in-Exists
sizes_of-returns-in-Exists t c =
    let w = c.in-Exists in
    let counts = c.args.counts.now in
    let p = form c.deref-in-Exists.result.now in
    let tree : form c.args.formula.now ≡ for_some w.sort.0 p =
    ap form (w.is ∙ sym (rolls-Exists w.sort w.p))
    ∙ fold-roll-Formula FormTree TermTree form_step term_step (Formula-F.Exists w.sort w.p)
    ∙ ap (λ q. for_some w.sort.0 (form q)) (sym c.deref-in-Exists.ensures) in
    subst (λ q. AreSizesOf counts q c.under_some.result) (sym tree)
    (c.under_some.ensures counts w.sort.0 p c.of_sort-in-Exists.ensures c.sizes_of-in-Exists.ensures)
