use Rattle.std.proofs.Common.{◌≡◌, ◌+◌, List, [], ◌∷◌, get_or, drop, length, sym, ap, ◌∙◌, subst, arith}
use Rattle.std.proofs.lemmas.List.{append-nil}
use Rattle.fol_sig.specs.Tuples.{join_below}
use Rattle.fol_formula.specs.View.{form, forms}
use Rattle.ground_terms.specs.declared.ground.Junction.TheVariants.{And}
use Rattle.ground_terms.specs.Trees.{node}
use Rattle.ground_terms.specs.Calls.{Call, a_node, calls_of, calls_of_all}
use Rattle.ground_terms.specs.Taking.{Takes, TakesAll, TakesSome, calls_of_each, refused, begins, cut, step, stop}
use Rattle.ground_terms.specs.Taking.{each_taken, some_taken}
use Rattle.ground_terms.specs.Universe.{symbols_in, names_in}
use Rattle.ground_expand.specs.Instance.{instance, instances}
use Rattle.ground_expand.specs.Scopes.{sorts_in, terms_in}
use Rattle.ground_expand.specs.Groundable.{AreGroundable}
use Rattle.ground_expand.proofs.Turns.{count-instances, instance_at, each-calls}
use Rattle.ground_expand.proofs.expanding.+expand.Goals as goal

pub expand_parts-returns-in_err-hand_node : goal.expand_parts-returns-in_err-hand_node
expand_parts-returns-in_err-hand_node g t c =
    let P : List Call → Type 0 = g.S.GroundSink.stands c.args.sink.now in
    let Q : List Call → Type 0 = g.S.GroundSink.stands c.hand_node.new.sink in
    let sig = symbols_in c.args.universe.now in
    let names = names_in c.args.universe.now in
    let parts = instances sig names (sorts_in c.args.scope.now) (forms c.args.ps.now) (terms_in c.args.scope.now) in
    refused P Q c.from_residual.result (calls_of (node c.args.junction parts)) c.from_residual.ensures.0
    (subst (λ n. TakesSome P Q (a_node c.args.junction n ∷ calls_of_all parts))
    (sym (count-instances sig names (sorts_in c.args.scope.now) c.args.ps.now (terms_in c.args.scope.now)))
    (cut P Q (a_node c.args.junction (length c.args.ps.now) ∷ []) (calls_of_all parts) c.in_err-hand_node.ensures))

pub expand_parts-loop-p-init : goal.expand_parts-loop-p-init
expand_parts-loop-p-init g t c =
    let P : List Call → Type 0 = g.S.GroundSink.stands c.args.sink.now in
    let Q : List Call → Type 0 = g.S.GroundSink.stands c.hand_node.new.sink in
    let sig = symbols_in c.args.universe.now in
    let names = names_in c.args.universe.now in
    let parts = instances sig names (sorts_in c.args.scope.now) (forms c.args.ps.now) (terms_in c.args.scope.now) in
    record {
      known = c.requires.known;
      taken = subst (λ n. Takes P Q (a_node c.args.junction n ∷ calls_of_all parts) (calls_of_all parts))
          (sym (count-instances sig names (sorts_in c.args.scope.now) c.args.ps.now (terms_in c.args.scope.now)))
          (begins P Q (a_node c.args.junction (length c.args.ps.now) ∷ []) (calls_of_all parts)
          c.in_ok-hand_node.ensures);
    }

pub expand_parts-loop-p-preserved : goal.expand_parts-loop-p-preserved
expand_parts-loop-p-preserved g t c =
    let P : List Call → Type 0 = g.S.GroundSink.stands c.args.sink.now in
    let Q : List Call → Type 0 = g.S.GroundSink.stands c.loop-p.sink in
    let R : List Call → Type 0 = g.S.GroundSink.stands c.expand.new.sink in
    let sig = symbols_in c.args.universe.now in
    let names = names_in c.args.universe.now in
    let sorts = sorts_in c.args.scope.now in
    let env = terms_in c.args.scope.now in
    let h = c.loop-p.invariant in
    let whole = calls_of (node c.args.junction (instances sig names sorts (forms c.args.ps.now) env)) in
    let next = c.lists.ensures.forms.left c.args.ps.now c.loop-p.p-index c.p-item.result c.loop-p-test.true
    c.p-item.is in
    record {
      known = (subst (AreGroundable sig sorts) next h.known).1;
      taken = step P Q R whole (calls_of (instance sig names sorts (form c.p-item.result) env))
          (calls_of_all (instances sig names sorts (forms (drop (c.loop-p.p-index + 1) c.args.ps.now)) env))
          (subst (λ fs. Takes P Q whole (calls_of_all (instances sig names sorts fs env))) next h.taken)
          c.in_ok-expand.ensures;
    }

pub expand_parts-returns-in_err-expand : goal.expand_parts-returns-in_err-expand
expand_parts-returns-in_err-expand g t c =
    let P : List Call → Type 0 = g.S.GroundSink.stands c.args.sink.now in
    let Q : List Call → Type 0 = g.S.GroundSink.stands c.loop-p.sink in
    let R : List Call → Type 0 = g.S.GroundSink.stands c.expand.new.sink in
    let sig = symbols_in c.args.universe.now in
    let names = names_in c.args.universe.now in
    let sorts = sorts_in c.args.scope.now in
    let env = terms_in c.args.scope.now in
    let h = c.loop-p.invariant in
    let whole = calls_of (node c.args.junction (instances sig names sorts (forms c.args.ps.now) env)) in
    let next = c.lists.ensures.forms.left c.args.ps.now c.loop-p.p-index c.p-item.result c.loop-p-test.true
    c.p-item.is in
    refused P R c.from_residual-in_err-expand.result whole c.from_residual-in_err-expand.ensures.0
    (stop P Q R whole (calls_of (instance sig names sorts (form c.p-item.result) env))
    (calls_of_all (instances sig names sorts (forms (drop (c.loop-p.p-index + 1) c.args.ps.now)) env))
    (subst (λ fs. Takes P Q whole (calls_of_all (instances sig names sorts fs env))) next h.taken)
    c.in_err-expand.ensures)

pub expand_each-returns-in_err-hand_node : goal.expand_each-returns-in_err-hand_node
expand_each-returns-in_err-hand_node g t c =
    let P : List Call → Type 0 = g.S.GroundSink.stands c.args.sink.now in
    let Q : List Call → Type 0 = g.S.GroundSink.stands c.hand_node.new.sink in
    let sig = symbols_in c.args.universe.now in
    let names = names_in c.args.universe.now in
    let sorts = sorts_in c.args.scope.now in
    let env = terms_in c.args.scope.now in
    let n = get_or c.counts.result.now c.args.sort.0 0 in
    let e : n ≡ get_or names.counts c.args.sort.0 0 = ap (λ ns. get_or ns c.args.sort.0 0) c.counts.ensures in
    let f = instance_at sig names sorts c.args.sort.0 (form c.args.p.now) env in
    let all = each-calls sig names sorts c.args.sort.0 (form c.args.p.now) env n e in
    refused P Q c.from_residual.result _ c.from_residual.ensures.0
    (subst (TakesSome P Q) all
    (cut P Q (a_node And n ∷ []) (calls_of_each (join_below n (λ x. f x ∷ []))) c.in_err-hand_node.ensures))

pub expand_each-loop-term-preserved : goal.expand_each-loop-term-preserved
expand_each-loop-term-preserved g t c =
    let P : List Call → Type 0 = g.S.GroundSink.stands c.args.sink.now in
    let Q : List Call → Type 0 = g.S.GroundSink.stands c.loop-term.sink in
    let R : List Call → Type 0 = g.S.GroundSink.stands c.expand.new.sink in
    let sig = symbols_in c.args.universe.now in
    let names = names_in c.args.universe.now in
    let f = instance_at sig names (sorts_in c.args.scope.now) c.args.sort.0 (form c.args.p.now)
    (terms_in c.args.scope.now) in
    each_taken P Q R (a_node And (get_or c.counts.result.now c.args.sort.0 0) ∷ []) (λ x. f x ∷ []) c.loop-term.term
    c.loop-term.invariant
    (subst (TakesAll Q R) (sym (append-nil (calls_of (f c.loop-term.term)))) c.in_ok-expand.ensures)

pub expand_each-returns-in_err-expand : goal.expand_each-returns-in_err-expand
expand_each-returns-in_err-expand g t c =
    let P : List Call → Type 0 = g.S.GroundSink.stands c.args.sink.now in
    let Q : List Call → Type 0 = g.S.GroundSink.stands c.loop-term.sink in
    let R : List Call → Type 0 = g.S.GroundSink.stands c.expand.new.sink in
    let sig = symbols_in c.args.universe.now in
    let names = names_in c.args.universe.now in
    let sorts = sorts_in c.args.scope.now in
    let env = terms_in c.args.scope.now in
    let n = get_or c.counts.result.now c.args.sort.0 0 in
    let e : n ≡ get_or names.counts c.args.sort.0 0 = ap (λ ns. get_or ns c.args.sort.0 0) c.counts.ensures in
    let f = instance_at sig names sorts c.args.sort.0 (form c.args.p.now) env in
    let all = each-calls sig names sorts c.args.sort.0 (form c.args.p.now) env n e in
    refused P R c.from_residual-in_err-expand.result _ c.from_residual-in_err-expand.ensures.0
    (subst (TakesSome P R) all
    (some_taken P Q R (a_node And n ∷ []) (λ x. f x ∷ []) c.loop-term.term c.loop-term.invariant n c.loop-term-test.true
    (subst (TakesSome Q R) (sym (append-nil (calls_of (f c.loop-term.term)))) c.in_err-expand.ensures)))

pub expand_each-returns : goal.expand_each-returns
expand_each-returns g t c =
    let P : List Call → Type 0 = g.S.GroundSink.stands c.args.sink.now in
    let Q : List Call → Type 0 = g.S.GroundSink.stands c.loop-term.sink in
    let sig = symbols_in c.args.universe.now in
    let names = names_in c.args.universe.now in
    let sorts = sorts_in c.args.scope.now in
    let env = terms_in c.args.scope.now in
    let n = get_or c.counts.result.now c.args.sort.0 0 in
    let e : n ≡ get_or names.counts c.args.sort.0 0 = ap (λ ns. get_or ns c.args.sort.0 0) c.counts.ensures in
    let f = instance_at sig names sorts c.args.sort.0 (form c.args.p.now) env in
    let end : c.loop-term.term ≡ n = omega (arith, c.loop-term.auto.term-end, c.loop-term-test.false) in
    subst (TakesAll P Q) (ap (λ m. a_node And n ∷ calls_of_each (join_below m (λ x. f x ∷ []))) end
    ∙ each-calls sig names sorts c.args.sort.0 (form c.args.p.now) env n e) c.loop-term.invariant
