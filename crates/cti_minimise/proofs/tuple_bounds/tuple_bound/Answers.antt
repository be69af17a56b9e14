use Rattle.std.proofs.Common.{ℕ, List, sym, ap, ◌∙◌, subst}
use Rattle.std.proofs.lemmas.List.{length-map}
use Rattle.fol_sig.specs.Tables.{numbers}
use Rattle.fol_sig.specs.Symbols.{symbols}
use Rattle.fol_sig.specs.declared.Sort.{Sort}
use Rattle.fol_formula.specs.Syntax.{FormTree}
use Rattle.fol_formula.specs.Fits.{BoundForm}
use Rattle.cti_minimise.specs.TupleBounds.{for_each, for_some_tuples, is_one, tuple_bound}
use Rattle.cti_minimise.proofs.TupleFits.{tuple-bound-closed}
use Rattle.cti_minimise.proofs.tuple_bounds.tuple_bound.Goals as goal

pub of-requires : goal.of-requires
of-requires c =
    let sig = symbols c.args.signature.now in
    let r = c.args.rel.0 in
    let n = c.args.most in
    let value = c.sorts_of-sorts.ensures.value in
    let sorts = c.sorts_of-sorts.result.now in
    let ks = numbers sorts in
    let count = length-map sorts (λ (k : Sort). k.0) in
    let is = c.in_ok-formula.ensures ∙ ap (for_some_tuples n ks) c.in_ok-each.ensures
    ∙ ap (λ (p : FormTree). for_some_tuples n ks (for_each ks p)) c.in_ok-one.ensures
    ∙ ap (λ (m : ℕ). for_some_tuples n ks (for_each ks (is_one r m n))) (sym count)
    ∙ ap (λ (js : List ℕ). tuple_bound r js n) value in
    subst (BoundForm 0) (sym is)
    (tuple-bound-closed c.indices.ensures.bound sig r n c.sorts-sorts.ensures.sorted c.requires.rel)
