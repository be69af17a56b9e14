use Rattle.std.proofs.Common.{◌≡◌, [], ◌∷◌, ◌++◌}
use Rattle.fol_sig.specs.Tuples.{join_below}
use Rattle.told_states.specs.SymbolText.{relation_symbol}
use Rattle.told_states.proofs.symbols.push_relations.Given as goal

abbrev pub invariant-loop-rel : goal.invariant-loop-rel
invariant-loop-rel l =
    l.symbols.items ≡ l.initial.symbols.items ++ join_below l.rel (λ r. relation_symbol r ∷ [])
