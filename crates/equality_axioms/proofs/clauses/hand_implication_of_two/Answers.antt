use Rattle.std.proofs.Common.{false, true, [], ◌∷◌}
use Rattle.ground_terms.specs.declared.ground.Junction.TheVariants.{Or}
use Rattle.ground_terms.specs.Calls.{a_node, a_literal}
use Rattle.ground_terms.specs.Taking.{refused, begins, cut, step, stop, last}
use Rattle.equality_axioms.proofs.clauses.hand_implication_of_two.Goals as goal

pub returns-in_err-hand_node : goal.returns-in_err-hand_node
returns-in_err-hand_node g c =
    refused (g.S.GroundSink.stands c.args.sink.now) (g.S.GroundSink.stands c.hand_node.new.sink) c.from_residual.result
    (a_node Or 3 ∷ a_literal c.args.first false ∷ a_literal c.args.second false ∷ a_literal c.args.conclusion true
    ∷ []) c.from_residual.ensures.0
    (cut (g.S.GroundSink.stands c.args.sink.now) (g.S.GroundSink.stands c.hand_node.new.sink) (a_node Or 3 ∷ [])
    (a_literal c.args.first false ∷ a_literal c.args.second false ∷ a_literal c.args.conclusion true ∷ [])
    c.in_err-hand_node.ensures)

pub returns-in_err-hand_literal : goal.returns-in_err-hand_literal
returns-in_err-hand_literal g c =
    refused (g.S.GroundSink.stands c.args.sink.now) (g.S.GroundSink.stands c.hand_literal.new.sink)
    c.from_residual-in_err-hand_literal.result
    (a_node Or 3 ∷ a_literal c.args.first false ∷ a_literal c.args.second false ∷ a_literal c.args.conclusion true
    ∷ []) c.from_residual-in_err-hand_literal.ensures.0
    (stop (g.S.GroundSink.stands c.args.sink.now) (g.S.GroundSink.stands c.hand_node.new.sink)
    (g.S.GroundSink.stands c.hand_literal.new.sink)
    (a_node Or 3 ∷ a_literal c.args.first false ∷ a_literal c.args.second false ∷ a_literal c.args.conclusion true
    ∷ []) (a_literal c.args.first false ∷ [])
    (a_literal c.args.second false ∷ a_literal c.args.conclusion true ∷ [])
    (begins (g.S.GroundSink.stands c.args.sink.now) (g.S.GroundSink.stands c.hand_node.new.sink) (a_node Or 3 ∷ [])
    (a_literal c.args.first false ∷ a_literal c.args.second false ∷ a_literal c.args.conclusion true ∷ [])
    c.in_ok-hand_node.ensures) c.in_err-hand_literal.ensures)

pub returns-in_err-hand_literal-2 : goal.returns-in_err-hand_literal-2
returns-in_err-hand_literal-2 g c =
    refused (g.S.GroundSink.stands c.args.sink.now) (g.S.GroundSink.stands c.hand_literal-2.new.sink)
    c.from_residual-in_err-hand_literal-2.result
    (a_node Or 3 ∷ a_literal c.args.first false ∷ a_literal c.args.second false ∷ a_literal c.args.conclusion true
    ∷ []) c.from_residual-in_err-hand_literal-2.ensures.0
    (stop (g.S.GroundSink.stands c.args.sink.now) (g.S.GroundSink.stands c.hand_literal.new.sink)
    (g.S.GroundSink.stands c.hand_literal-2.new.sink)
    (a_node Or 3 ∷ a_literal c.args.first false ∷ a_literal c.args.second false ∷ a_literal c.args.conclusion true
    ∷ []) (a_literal c.args.second false ∷ []) (a_literal c.args.conclusion true ∷ [])
    (step (g.S.GroundSink.stands c.args.sink.now) (g.S.GroundSink.stands c.hand_node.new.sink)
    (g.S.GroundSink.stands c.hand_literal.new.sink)
    (a_node Or 3 ∷ a_literal c.args.first false ∷ a_literal c.args.second false ∷ a_literal c.args.conclusion true
    ∷ []) (a_literal c.args.first false ∷ [])
    (a_literal c.args.second false ∷ a_literal c.args.conclusion true ∷ [])
    (begins (g.S.GroundSink.stands c.args.sink.now) (g.S.GroundSink.stands c.hand_node.new.sink) (a_node Or 3 ∷ [])
    (a_literal c.args.first false ∷ a_literal c.args.second false ∷ a_literal c.args.conclusion true ∷ [])
    c.in_ok-hand_node.ensures) c.in_ok-hand_literal.ensures) c.in_err-hand_literal-2.ensures)

pub returns : goal.returns
returns g c =
    last (g.S.GroundSink.stands c.args.sink.now) (g.S.GroundSink.stands c.hand_literal-2.new.sink)
    (g.S.GroundSink.stands c.hand_literal-3.new.sink)
    (a_node Or 3 ∷ a_literal c.args.first false ∷ a_literal c.args.second false ∷ a_literal c.args.conclusion true
    ∷ []) (a_literal c.args.conclusion true ∷ []) c.hand_literal-3.result
    (step (g.S.GroundSink.stands c.args.sink.now) (g.S.GroundSink.stands c.hand_literal.new.sink)
    (g.S.GroundSink.stands c.hand_literal-2.new.sink)
    (a_node Or 3 ∷ a_literal c.args.first false ∷ a_literal c.args.second false ∷ a_literal c.args.conclusion true
    ∷ []) (a_literal c.args.second false ∷ []) (a_literal c.args.conclusion true ∷ [])
    (step (g.S.GroundSink.stands c.args.sink.now) (g.S.GroundSink.stands c.hand_node.new.sink)
    (g.S.GroundSink.stands c.hand_literal.new.sink)
    (a_node Or 3 ∷ a_literal c.args.first false ∷ a_literal c.args.second false ∷ a_literal c.args.conclusion true
    ∷ []) (a_literal c.args.first false ∷ [])
    (a_literal c.args.second false ∷ a_literal c.args.conclusion true ∷ [])
    (begins (g.S.GroundSink.stands c.args.sink.now) (g.S.GroundSink.stands c.hand_node.new.sink) (a_node Or 3 ∷ [])
    (a_literal c.args.first false ∷ a_literal c.args.second false ∷ a_literal c.args.conclusion true ∷ [])
    c.in_ok-hand_node.ensures) c.in_ok-hand_literal.ensures) c.in_ok-hand_literal-2.ensures)
    c.hand_literal-3.ensures
