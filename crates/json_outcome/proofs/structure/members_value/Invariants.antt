use Rattle.std.proofs.Common.{◌≡◌, ◌++◌, IfSome}
use Rattle.std.specs.List.{flat_map}
use Rattle.told_states.specs.SymbolText.{relation_symbol}
use Rattle.json_outcome.specs.StructureData.{member_data, members_data}
use Rattle.json_outcome.proofs.structure.members_value.Given as goal

abbrev pub invariant-loop-tuple : goal.invariant-loop-tuple
invariant-loop-tuple l = IfSome l.list (λ ds. ds ++ flat_map (member_data l.given) l.tuple-iterator
    ≡ members_data l.structure (relation_symbol l.fn.rel.0) l.given)
