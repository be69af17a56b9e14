use Rattle.ground_terms.specs.Calls.{a_literal}
use Rattle.ground_terms.specs.Taking.{one_handed}
use Rattle.ground_terms.proofs.hands.hand_literal.Goals as goal

pub returns : goal.returns
returns g c =
    one_handed (g.S.GroundSink.stands c.args.sink.now) (g.S.GroundSink.stands c.literal.new.self) c.literal.result
    (a_literal c.args.atom c.args.positive) c.literal.ensures.taken c.literal.ensures.refused
