use Rattle.rml_houdini.proofs.Sufficing.{grow_on}
use Rattle.rml_houdini.proofs.keeping.keep_from.Goals as goal

pub loop-preserved : goal.loop-preserved
loop-preserved c = record {
  within = c.in_ok-last.ensures.grows.1 c.loop.invariant.within;
  grows = grow_on c.args.held.now c.args.assumed.now.held.items c.loop.assumed.held.items
      c.take_turn.new.assumed.held.items c.loop.invariant.grows c.in_ok-last.ensures.grows;
}

pub returns-in_default-clause-grows : goal.returns-in_default-clause-grows
returns-in_default-clause-grows c =
    grow_on c.args.held.now c.args.assumed.now.held.items c.loop.assumed.held.items c.take_turn.new.assumed.held.items
    c.loop.invariant.grows c.in_ok-last.ensures.grows

pub returns-in_default-clause-turn : goal.returns-in_default-clause-turn
returns-in_default-clause-turn c = c.in_ok-last.ensures.turn
