use Rattle.std.proofs.Common.{refl}
use Rattle.rml_terms.specs.Tree.{expr_tree, expr_trees, exprs_of}
use Rattle.rml_quantifiers.specs.Quantifiers.{quantifiers_in, quantifiers_in_each}
use Rattle.rml_quantifiers.proofs.Turns.{places_turn}
use Rattle.rml_quantifiers.proofs.expressions.+places.Goals as goal

pub add_quantifiers_each-loop-e-preserved : goal.add_quantifiers_each-loop-e-preserved
add_quantifiers_each-loop-e-preserved t c =
    places_turn (λ es. quantifiers_in_each c.args.all (exprs_of (expr_trees es)))
    (λ e. quantifiers_in c.args.all (expr_tree e)) c.args.es.now c.loop-e.e-index c.e-item.result
    c.loop-e.places.items c.add_quantifiers.new.places.items _ (λ _ _. refl) c.loop-e-test.true c.e-item.is
    c.in_ok-add_quantifiers.ensures c.loop-e.invariant
