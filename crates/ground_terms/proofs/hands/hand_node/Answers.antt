use Rattle.std.proofs.Common.{[], ◌∷◌, subst, sym}
use Rattle.ground_terms.specs.declared.ground.Junction.TheVariants.{And, Or}
use Rattle.ground_terms.specs.Calls.{a_node}
use Rattle.ground_terms.specs.Taking.{Hands, one_handed}
use Rattle.ground_terms.proofs.hands.hand_node.Goals as goal

pub returns-in-And : goal.returns-in-And
returns-in-And g c =
    subst (λ j. Hands (g.S.GroundSink.stands c.args.sink.now) (g.S.GroundSink.stands c.and.new.self) c.and.result
    (a_node j c.args.parts ∷ [])) (sym c.in-And.is)
    (one_handed (g.S.GroundSink.stands c.args.sink.now) (g.S.GroundSink.stands c.and.new.self) c.and.result
    (a_node And c.args.parts) c.and.ensures.taken c.and.ensures.refused)

pub returns-in-Or : goal.returns-in-Or
returns-in-Or g c =
    subst (λ j. Hands (g.S.GroundSink.stands c.args.sink.now) (g.S.GroundSink.stands c.or.new.self) c.or.result
    (a_node j c.args.parts ∷ [])) (sym c.in-Or.is)
    (one_handed (g.S.GroundSink.stands c.args.sink.now) (g.S.GroundSink.stands c.or.new.self) c.or.result
    (a_node Or c.args.parts) c.or.ensures.taken c.or.ensures.refused)
