use Rattle.std.proofs.Common.{◌≡◌, ◌++◌, false, ap, sym, subst, ◌∙◌}
use Rattle.fol_formula.specs.View.{form}
use Rattle.fol_formula.specs.Truth.{truth}
use Rattle.fol_formula.specs.Fits.{FitsForm}
use Rattle.fol_formula.specs.Counts.{form_nodes, form_depth}
use Rattle.fol_subst.specs.Shift.{shift_form}
use Rattle.fol_subst.specs.Limits.{is_too_large}
use Rattle.fol_subst.specs.Extents.{extent}
use Rattle.fol_subst.proofs.Truth.{truth-shifted}
use Rattle.fol_subst.proofs.Fitting.{shifted-fits}
use Rattle.fol_subst.proofs.Sizes.{size-shifted}
use Rattle.fol_subst.proofs.Counting.{extent-saturated, over-is-too-large}
use Rattle.fol_subst.proofs.shift.Goals as goal

pub returns-then-is_over-clause-limit : goal.returns-then-is_over-clause-limit
returns-then-is_over-clause-limit c =
    let within = form c.args.within.now in
    let new = shift_form c.args.from c.args.by within in
    let same : extent (form_nodes within) (form_depth within) ≡ extent (form_nodes new) (form_depth new) =
    ap (λ n. extent n (form_depth within)) (sym (size-shifted within c.args.from c.args.by).nodes)
    ∙ ap (extent (form_nodes new)) (sym (size-shifted within c.args.from c.args.by).depth) in
    sym (over-is-too-large new c.new-extent.result
    (c.new-extent.ensures ∙ ap (λ n. extent n c.depth.result) c.nodes.ensures.count ∙ ap (extent _) c.depth.ensures
    ∙ extent-saturated (form_nodes within) (form_depth within) ∙ same))
    ∙ sym c.is_over.ensures
    ∙ c.if-is_over.true

pub returns-clause-shifted : goal.returns-clause-shifted
returns-clause-shifted c =
    let within = form c.args.within.now in
    let new = shift_form c.args.from c.args.by within in
    let same : extent (form_nodes within) (form_depth within) ≡ extent (form_nodes new) (form_depth new) =
    ap (λ n. extent n (form_depth within)) (sym (size-shifted within c.args.from c.args.by).nodes)
    ∙ ap (extent (form_nodes new)) (sym (size-shifted within c.args.from c.args.by).depth) in
    let small : is_too_large new ≡ false =
    sym (over-is-too-large new c.new-extent.result
    (c.new-extent.ensures ∙ ap (λ n. extent n c.depth.result) c.nodes.ensures.count ∙ ap (extent _) c.depth.ensures
    ∙ extent-saturated (form_nodes within) (form_depth within) ∙ same))
    ∙ sym c.is_over.ensures
    ∙ c.if-is_over.false in
    record {
      tree = c.in_ok-shifted.ensures;
      truth = λ s front mid back l m.
          ap (λ q. truth s q (front ++ (mid ++ back))) c.in_ok-shifted.ensures
          ∙ truth-shifted c.quantified.ensures.all c.quantified.ensures.any s within front mid back c.args.from
          c.args.by l m;
      fits = λ sig front mid back l m h.
          subst (FitsForm sig (front ++ (mid ++ back))) (sym c.in_ok-shifted.ensures)
          (shifted-fits sig within front mid back c.args.from c.args.by l m h);
      small = ap is_too_large c.in_ok-shifted.ensures ∙ small;
    }
