use Rattle.std.proofs.Common.{[], ◌∷◌}
use Rattle.told_states.specs.SymbolText.{relation_symbol}
use Rattle.told_states.proofs.Pieces.{one_more}
use Rattle.told_states.proofs.symbols.push_relations.Goals as goal

pub loop-rel-preserved : goal.loop-rel-preserved
loop-rel-preserved c =
    one_more c.loop-rel.rel (λ r. relation_symbol r ∷ []) _ _ _ c.loop-rel.invariant c.in_ok-push.ensures.items
