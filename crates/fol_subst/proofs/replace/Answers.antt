use Rattle.std.proofs.Common.{◌≡◌, Bool, true, false, ap, sym, subst, ◌∙◌, arith}
use Rattle.fol_formula.specs.Counts.{form_nodes, form_depth}
use Rattle.fol_formula.specs.Syntax.{FormTree}
use Rattle.fol_formula.specs.View.{form}
use Rattle.fol_formula.specs.Closed.{FitsIsBound, FitsIsBoundTerm}
use Rattle.fol_subst.specs.Replace.{Change, changed_form}
use Rattle.fol_subst.specs.Limits.{is_too_large}
use Rattle.fol_subst.specs.Changes.{change_of}
use Rattle.fol_subst.specs.Extents.{extent, extent_form, is_over}
use Rattle.fol_subst.specs.Outcome.{CanReplace, KeepsMeaning}
use Rattle.fol_subst.specs.declared.extent.Extent.{Extent}
use Rattle.fol_subst.proofs.Ready.{can_ready}
use Rattle.fol_subst.proofs.Counting.{extent-form, over-is-too-large, exact_count, exact_depth}
use Rattle.fol_subst.proofs.Rooms.{room-within}
use Rattle.fol_subst.proofs.replace.Goals as goal

-- what was counted of the result
module _ (bound : FitsIsBound) (bound_term : FitsIsBoundTerm) (within : FormTree) (c : Change)
    (can : CanReplace within c) (x : Extent) (counted : x ≡ extent_form c within) where
  size : x ≡ extent (form_nodes (changed_form c 0 within)) (form_depth (changed_form c 0 within))
  size = counted ∙ extent-form c within 0 (can_ready bound bound_term within c can)

  pub record Exact (new : FormTree) : Type 0 where
    pub nodes : x.count ≡ form_nodes new
    pub depth : x.depth ≡ form_depth new
    pub small : is_too_large new ≡ false

  exact : (new : FormTree) → new ≡ changed_form c 0 within → is_too_large (changed_form c 0 within) ≡ false → Exact new
  exact new is small = subst Exact (sym is) (record {
    nodes = exact_count (changed_form c 0 within) x size small;
    depth = exact_depth (changed_form c 0 within) x size small;
    small = small;
  })

  too_large : (b over : Bool) → over ≡ is_over x → over ≡ b → is_too_large (changed_form c 0 within) ≡ b
  too_large b over is e = sym (over-is-too-large (changed_form c 0 within) x size) ∙ sym is ∙ e

pub formula-extent-requires-clause-ready : goal.formula-extent-requires-clause-ready
formula-extent-requires-clause-ready c =
    can_ready c.indices.ensures.bound c.indices.ensures.bound_terms (form c.args.within)
    (change_of c.args.change.now) c.requires

pub returns-then-is_over-clause-limit : goal.returns-then-is_over-clause-limit
returns-then-is_over-clause-limit c =
    too_large c.indices.ensures.bound c.indices.ensures.bound_terms (form c.args.within)
    (change_of c.args.change.now) c.requires c.formula-extent.result c.formula-extent.ensures true c.is_over.result
    c.is_over.ensures c.if-is_over.true

pub change_formula-requires-clause-ready : goal.change_formula-requires-clause-ready
change_formula-requires-clause-ready c =
    can_ready c.indices.ensures.bound c.indices.ensures.bound_terms (form c.args.within)
    (change_of c.args.change.now) c.requires

pub change_formula-requires-clause-room : goal.change_formula-requires-clause-room
change_formula-requires-clause-room c =
    let within = form c.args.within in
    let change = change_of c.args.change.now in
    let small =
    too_large c.indices.ensures.bound c.indices.ensures.bound_terms within change c.requires c.formula-extent.result
    c.formula-extent.ensures false c.is_over.result c.is_over.ensures c.if-is_over.false in
    room-within (changed_form change 0 within) 0 (c.requires.indices small) small (omega arith)

pub invariant_of-result : goal.invariant_of-result
invariant_of-result c =
    let within = form c.args.within in
    let change = change_of c.args.change.now in
    let small =
    too_large c.indices.ensures.bound c.indices.ensures.bound_terms within change c.requires c.formula-extent.result
    c.formula-extent.ensures false c.is_over.result c.is_over.ensures c.if-is_over.false in
    let h = exact c.indices.ensures.bound c.indices.ensures.bound_terms within change c.requires c.formula-extent.result
    c.formula-extent.ensures (form c.in_ok-formula.formula) c.in_ok-formula.ensures small in
    record { counts_nodes = h.nodes; counts_depth = h.depth; within_limit = h.small }

pub returns-clause-replaced : goal.returns-clause-replaced
returns-clause-replaced c =
    let within = form c.args.within in
    let change = change_of c.args.change.now in
    let small =
    too_large c.indices.ensures.bound c.indices.ensures.bound_terms within change c.requires c.formula-extent.result
    c.formula-extent.ensures false c.is_over.result c.is_over.ensures c.if-is_over.false in
    record {
      tree = c.in_ok-formula.ensures;
      meaning = subst (KeepsMeaning within change) (sym c.in_ok-formula.ensures)
          (c.exactness.ensures c.requires.sig c.requires.sorts within change c.requires.within_fits
          c.requires.change_fits);
      small = ap is_too_large c.in_ok-formula.ensures ∙ small;
    }
