-- Arguments in the place of parameters: what they keep, and how large the result is.
use Rattle.std.proofs.Common.{◌≡◌, ℕ, ◌+◌, ◌-◌, ◌*◌, ◌≤◌, max, refl, ap, ◌∙◌, sym, arith}
use Rattle.std.specs.Prelude.{reverse}
use Rattle.fol_formula.specs.Syntax.{FormTree, FormTrees, TermTree, TermTrees, top, bottom, rel, equal, negation}
use Rattle.fol_formula.specs.Syntax.{conjunction, disjunction, implication, equivalence, for_all, for_some, no_forms}
use Rattle.fol_formula.specs.Syntax.{form_then, bound, app, ite, no_terms, term_then, list_of, size_of}
use Rattle.fol_formula.specs.Counts.{form_nodes, forms_nodes, term_nodes, terms_nodes, form_depth, forms_depth}
use Rattle.fol_formula.specs.Counts.{term_depth, terms_depth}
use Rattle.fol_formula.specs.Inclusions.{QuantifierFreeIsUniversal}
use Rattle.fol_subst.specs.Replace.{putting, put_form}
use Rattle.fol_subst.specs.Extents.{extent, put_in, places_form}
use Rattle.fol_subst.specs.declared.extent.Extent.{Extent}
use Rattle.fol_subst.specs.Templates.{filled, form_extent, forms_extent, term_extent, terms_extent, InstancesFit}
use Rattle.fol_subst.specs.Templates.{InstancesAreQuantifierFree, InstancesHavePlainTerms, OtherArgumentsDoNotCount}
use Rattle.fol_subst.specs.Templates.{ExtentsAreFilled, ExtentsAreCounts}
use Rattle.fol_subst.proofs.Fitting.{form-instance}
use Rattle.fol_subst.proofs.Fragments.{put_keeps, free-by, plain-by}
use Rattle.fol_subst.proofs.Rooms.{kept-form}
use Rattle.fol_subst.proofs.Sizes.{uses_form, reach_form, deepened, filled-form, nodes-positive, depth-positive}
use Rattle.fol_subst.proofs.Counting.{places-form, put_in-extent, weighted_args, highest_args, filled-args}
use Rattle.fol_subst.proofs.Counting.{form_nodes-positive, both, over-one, over-two, over-three}

pub instances_fit : InstancesFit
instances_fit sig sorts ks body args h fit = form-instance sig sorts args ks fit body h

pub instances_are_quantifier_free : InstancesAreQuantifierFree
instances_are_quantifier_free body args h free =
    free-by (putting (reverse (list_of args))) (put_keeps args free) body 0 h

pub instances_have_plain_terms : QuantifierFreeIsUniversal → InstancesHavePlainTerms
instances_have_plain_terms known body args h free =
    plain-by known (putting (reverse (list_of args))) (put_keeps args free) body 0 h

pub other_arguments_do_not_count : OtherArgumentsDoNotCount
other_arguments_do_not_count r body args = kept-form r body args

-- an extent counts
mutual
  extent-counts : (p : FormTree) → form_extent p ≡ extent (form_nodes p) (form_depth p)
  extent-counts top = refl
  extent-counts bottom = refl
  extent-counts (rel r args) = over-one _ _ _ (extent_terms-count args)
  extent-counts (equal a b) = over-two _ _ _ _ _ _ (extent_term-counts a) (extent_term-counts b)
  extent-counts (negation p) = over-one _ _ _ (extent-counts p)
  extent-counts (conjunction ps) = over-one _ _ _ (extent_forms-count ps)
  extent-counts (disjunction ps) = over-one _ _ _ (extent_forms-count ps)
  extent-counts (implication p q) = over-two _ _ _ _ _ _ (extent-counts p) (extent-counts q)
  extent-counts (equivalence p q) = over-two _ _ _ _ _ _ (extent-counts p) (extent-counts q)
  extent-counts (for_all k p) = over-one _ _ _ (extent-counts p)
  extent-counts (for_some k p) = over-one _ _ _ (extent-counts p)

  extent_forms-count : (ps : FormTrees) → forms_extent ps ≡ extent (forms_nodes ps) (forms_depth ps)
  extent_forms-count no_forms = refl
  extent_forms-count (form_then p ps) = both _ _ _ _ _ _ (extent-counts p) (extent_forms-count ps)

  extent_term-counts : (t : TermTree) → term_extent t ≡ extent (term_nodes t) (term_depth t)
  extent_term-counts (bound i) = refl
  extent_term-counts (app f args) = over-one _ _ _ (extent_terms-count args)
  extent_term-counts (ite p a b) =
      over-three _ _ _ _ _ _ _ _ _ (extent-counts p) (extent_term-counts a) (extent_term-counts b)

  extent_terms-count : (ts : TermTrees) → terms_extent ts ≡ extent (terms_nodes ts) (terms_depth ts)
  extent_terms-count no_terms = refl
  extent_terms-count (term_then t ts) = both _ _ _ _ _ _ (extent_term-counts t) (extent_terms-count ts)

pub extents_are_counts : ExtentsAreCounts
extents_are_counts = record { form = extent-counts; term = extent_term-counts }

-- the extent with some arguments put in
module _ (body : FormTree) where
  abbrev uses : ℕ → ℕ
  uses i = uses_form i body

  abbrev reach : ℕ → ℕ
  reach i = reach_form i body

  filled-extent : (ts : TermTrees) (so_far : Extent) (a b : ℕ) → 1 ≤ a → so_far ≡ extent a b
      → filled body so_far ts ≡ extent (a + weighted_args uses ts) (max b (highest_args reach ts))
  filled-extent no_terms so_far a b pa is =
      let e1 : a ≡ a + 0 = omega arith in let e2 : b ≡ max b 0 = omega arith in
      is ∙ ap (λ n. extent n b) e1 ∙ ap (λ n. extent (a + 0) n) e2
  filled-extent (term_then t ts) so_far a b pa is =
      let i = size_of ts in
      let e1 : put_in so_far (places_form i body) (term_extent t)
      ≡ extent (a + uses i * (term_nodes t - 1)) (max b (deepened (reach i) (term_depth t))) =
      ap (λ z. put_in z (places_form i body) (term_extent t)) is
      ∙ ap (λ z. put_in (extent a b) z (term_extent t)) (places-form body i)
      ∙ ap (put_in (extent a b) (extent (uses i) (reach i))) (extent_term-counts t)
      ∙ put_in-extent a b (uses i) (reach i) (term_nodes t) (term_depth t) pa (nodes-positive t)
      (depth-positive t) in
      let n = weighted_args uses ts in
      let m = highest_args reach ts in
      let e2 : a + uses i * (term_nodes t - 1) + n ≡ a + (uses i * (term_nodes t - 1) + n) = omega arith in
      let e3 : max (max b (deepened (reach i) (term_depth t))) m ≡ max b (max (deepened (reach i) (term_depth t)) m) =
      omega arith in
      filled-extent ts _ (a + uses i * (term_nodes t - 1)) (max b (deepened (reach i) (term_depth t))) (omega arith) e1
      ∙ ap (λ z. extent z (max (max b (deepened (reach i) (term_depth t))) m)) e2
      ∙ ap (λ z. extent (a + (uses i * (term_nodes t - 1) + n)) z) e3

pub extents_are_filled : ExtentsAreFilled
extents_are_filled body args =
    filled-extent body args (form_extent body) (form_nodes body) (form_depth body) (form_nodes-positive body)
    (extent-counts body)
    ∙ sym (filled-args _ _ (λ i. uses_form i body) (λ i. reach_form i body) _ _ args
    (filled-form (reverse (list_of args)) body 0))
    ∙ sym (extent-counts (put_form 0 (reverse (list_of args)) body))
