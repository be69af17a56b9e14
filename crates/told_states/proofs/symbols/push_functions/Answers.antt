use Rattle.std.proofs.Common.{[], ◌∷◌}
use Rattle.told_states.specs.SymbolText.{function_symbol}
use Rattle.told_states.proofs.Pieces.{one_more}
use Rattle.told_states.proofs.symbols.push_functions.Goals as goal

pub loop-fun-preserved : goal.loop-fun-preserved
loop-fun-preserved c =
    one_more c.loop-fun.fun (λ f. function_symbol f ∷ []) _ _ _ c.loop-fun.invariant c.in_ok-push.ensures.items
