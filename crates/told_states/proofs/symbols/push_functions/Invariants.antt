use Rattle.std.proofs.Common.{◌≡◌, [], ◌∷◌, ◌++◌}
use Rattle.fol_sig.specs.Tuples.{join_below}
use Rattle.told_states.specs.SymbolText.{function_symbol}
use Rattle.told_states.proofs.symbols.push_functions.Given as goal

abbrev pub invariant-loop-fun : goal.invariant-loop-fun
invariant-loop-fun l =
    l.symbols.items ≡ l.initial.symbols.items ++ join_below l.fun (λ f. function_symbol f ∷ [])
