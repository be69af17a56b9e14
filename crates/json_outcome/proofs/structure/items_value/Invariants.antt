use Rattle.std.proofs.Common.{◌≡◌, [], ◌∷◌, IfSome}
use Rattle.fol_sig.specs.Tuples.{join_below}
use Rattle.json_outcome.specs.StructureData.{item_data}
use Rattle.json_outcome.proofs.structure.items_value.Given as goal

abbrev pub invariant-loop-number : goal.invariant-loop-number
invariant-loop-number l =
    IfSome l.list (λ ds. ds ≡ join_below l.number (λ k. item_data l.names l.structure l.listed k ∷ []))
