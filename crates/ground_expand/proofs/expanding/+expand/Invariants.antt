use Rattle.std.proofs.Common.{◌∷◌, [], drop}
use Rattle.fol_sig.specs.Tuples.{join_below}
use Rattle.fol_formula.specs.View.{form, forms}
use Rattle.ground_terms.specs.declared.ground.Junction.TheVariants.{And}
use Rattle.ground_terms.specs.Trees.{node}
use Rattle.ground_terms.specs.Calls.{a_node, calls_of, calls_of_all}
use Rattle.ground_terms.specs.Taking.{Takes, TakesAll, calls_of_each}
use Rattle.ground_terms.specs.Universe.{symbols_in, names_in}
use Rattle.ground_expand.specs.Instance.{instance, instances}
use Rattle.ground_expand.specs.Scopes.{sorts_in, terms_in}
use Rattle.ground_expand.specs.Groundable.{AreGroundable}
use Rattle.ground_expand.proofs.expanding.+expand.Given as goal

abbrev pub invariant-expand_parts-loop-p : goal.invariant-expand_parts-loop-p
invariant-expand_parts-loop-p g l = record {
  known : AreGroundable (symbols_in l.universe) (sorts_in l.scope) (forms (drop l.p-index l.ps));
  taken : Takes (g.S.GroundSink.stands l.fn.sink) (g.S.GroundSink.stands l.sink)
      (calls_of (node l.fn.junction
      (instances (symbols_in l.universe) (names_in l.universe) (sorts_in l.scope) (forms l.ps)
      (terms_in l.scope))))
      (calls_of_all (instances (symbols_in l.universe) (names_in l.universe) (sorts_in l.scope)
      (forms (drop l.p-index l.ps)) (terms_in l.scope)));
}

abbrev pub invariant-expand_each-loop-term : goal.invariant-expand_each-loop-term
invariant-expand_each-loop-term g l =
    TakesAll (g.S.GroundSink.stands l.fn.sink) (g.S.GroundSink.stands l.sink)
    (a_node And l.count
    ∷ calls_of_each
    (join_below l.term
    (λ x. instance (symbols_in l.universe) (names_in l.universe) (l.sort.0 ∷ sorts_in l.scope)
    (form l.p) (x ∷ terms_in l.scope) ∷ [])))
