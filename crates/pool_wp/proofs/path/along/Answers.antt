use Rattle.std.proofs.Common.{◌≡◌, length, sym, ap, ◌∙◌, subst}
use Rattle.fol_sig.specs.Tables.{Declared}
use Rattle.fol_sig.specs.Symbols.{symbols}
use Rattle.fol_subst.specs.Limits.{is_too_large}
use Rattle.fol_pool.specs.Trees.{HasForm, a_form, as_formula, form_at}
use Rattle.fol_pool.specs.Growing.{grows_on, is_form}
use Rattle.fol_pool.specs.declared.shape.Node.{Node}
use Rattle.rml_command.specs.View.{primitive}
use Rattle.rml_wp.specs.declared.premises.Premises.TheVariants.{All}
use Rattle.rml_wp.specs.Preconditions.{target_of, premises_of}
use Rattle.rml_wp.specs.Written.{first_count}
use Rattle.rml_wp.specs.Backward.{at_end, stops_at_end, at_start, within_limit, room, step_fits, stops_at, goes_back}
use Rattle.pool_wp.specs.Staying.{nodes_stay}
use Rattle.pool_wp.proofs.path.along.Goals as goal

pub returns-in-Err-clause-limit : goal.returns-in-Err-clause-limit
returns-in-Err-clause-limit c =
    let m = c.args.model.now in
    let sig = symbols m.signature in
    stops_at_end sig sig (premises_of All m.axioms) (target_of m c.args.about)
    (length m.signature.relations) (form_at c.target.new.pool c.in_ok-target.target.0) c.args.path.now
    c.in-Err.refused (ap as_formula c.in_ok-target.ensures.node.1) c.in-Err.ensures.limit

pub loop-primitive-init : goal.loop-primitive-init
loop-primitive-init c =
    let m = c.args.model.now in
    let sig = symbols m.signature in
    let ts = c.target.new.pool in
    let path = c.args.path.now in
    let before = c.primitives-before.result in
    let n = c.in_ok-target.target in
    let there = c.in_ok-target.ensures.node in
    let same : c.in-Ok.node ≡ n = c.in-Ok.ensures.node in
    record {
      grows = c.target.ensures.grows;
      there = subst (λ (k : Node). HasForm ts k.0) (sym same) (is_form ts n.0 (target_of m c.args.about) there);
      back = at_end sig sig (premises_of All m.axioms) (target_of m c.args.about)
          (length m.signature.relations) path before c.relation_count-fresh.result (form_at ts c.in-Ok.node.0)
          c.primitives-before.ensures
          (first_count m.signature path before c.relation_count-fresh.result c.primitives-before.ensures
          (c.relation_count-fresh.ensures ∙ ap (λ (d : Declared). length d.relations) c.requires.answered))
          (ap (λ (k : Node). form_at ts k.0) same ∙ ap as_formula there.1)
          (ap (λ (k : Node). is_too_large (form_at ts k.0)) same ∙ c.in-Ok.ensures.within);
    }

pub fresh_before-fresh-requires : goal.fresh_before-fresh-requires
fresh_before-fresh-requires c =
    let m = c.args.model.now in
    let sig = symbols m.signature in
    let l = c.loop-primitive in
    room sig sig (premises_of All m.axioms) (target_of m c.args.about) (length m.signature.relations)
    c.args.path.now l.before c.next_back.new.self (primitive c.in-Some.primitive.now) l.fresh (form_at l.pool l.now.0)
    c.in-Some.ensures.steps l.invariant.back

pub step_within-requires-clause-nodes : goal.step_within-requires-clause-nodes
step_within-requires-clause-nodes c =
    nodes_stay c.args.pool.now c.loop-primitive.pool c.loop-primitive.invariant.grows c.args.model.now c.args.nodes.now
    c.requires.nodes

pub step_within-requires-clause-primitive : goal.step_within-requires-clause-primitive
step_within-requires-clause-primitive c =
    let m = c.args.model.now in
    let sig = symbols m.signature in
    let l = c.loop-primitive in
    step_fits sig sig (premises_of All m.axioms) (target_of m c.args.about) (length m.signature.relations)
    c.args.path.now l.before c.next_back.new.self (primitive c.in-Some.primitive.now) l.fresh (form_at l.pool l.now.0)
    c.in-Some.ensures.steps l.invariant.back c.requires.path

pub returns-in-Err-step_within-clause-limit : goal.returns-in-Err-step_within-clause-limit
returns-in-Err-step_within-clause-limit c =
    let m = c.args.model.now in
    let sig = symbols m.signature in
    let l = c.loop-primitive in
    stops_at sig sig (premises_of All m.axioms) (target_of m c.args.about) (length m.signature.relations)
    c.args.path.now l.before c.next_back.new.self (primitive c.in-Some.primitive.now) l.fresh (form_at l.pool l.now.0)
    c.in-Some.ensures.steps l.invariant.back c.fresh_before-fresh.result c.fresh_before-fresh.ensures
    c.in-Err-step_within.refused c.in-Err-step_within.ensures.limit

pub loop-primitive-preserved : goal.loop-primitive-preserved
loop-primitive-preserved c =
    let m = c.args.model.now in
    let sig = symbols m.signature in
    let l = c.loop-primitive in
    let new = c.step_within.new.pool in
    let next = c.in-Ok-step_within.node.0 in
    let made = c.in-Ok-step_within.ensures.node in
    let is = ap as_formula made.1 in
    record {
      grows = grows_on c.args.pool.now l.pool new l.invariant.grows c.step_within.ensures.grows;
      there = is_form new next _ made;
      back = goes_back sig sig (premises_of All m.axioms) (target_of m c.args.about)
          (length m.signature.relations) c.args.path.now l.before c.next_back.new.self
          (primitive c.in-Some.primitive.now) l.fresh (form_at l.pool l.now.0) c.in-Some.ensures.steps
          l.invariant.back c.fresh_before-fresh.result c.fresh_before-fresh.ensures (form_at new next) is
          (ap is_too_large is ∙ c.in-Ok-step_within.ensures.within);
    }

pub returns-clause-node : goal.returns-clause-node
returns-clause-node c =
    let m = c.args.model.now in
    let sig = symbols m.signature in
    let l = c.loop-primitive in (
      l.invariant.there.0,
      l.invariant.there.1
          ∙ ap a_form (at_start sig sig (premises_of All m.axioms) (target_of m c.args.about)
          (length m.signature.relations) c.args.path.now l.before l.fresh (form_at l.pool l.now.0)
          c.in_default.ensures.steps.0 l.invariant.back),
    )

pub returns-clause-within : goal.returns-clause-within
returns-clause-within c =
    let m = c.args.model.now in
    let sig = symbols m.signature in
    let l = c.loop-primitive in
    within_limit sig sig (premises_of All m.axioms) (target_of m c.args.about)
    (length m.signature.relations) c.args.path.now l.before l.fresh (form_at l.pool l.now.0)
    c.in_default.ensures.steps.0 l.invariant.back
