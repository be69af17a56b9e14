use Rattle.std.proofs.Common.{List, ℕ, ap, subst}
use Rattle.std.specs.List.{flat_map}
use Rattle.json_values.specs.Values.{IsListedBy}
use Rattle.told_states.specs.SymbolText.{relation_symbol}
use Rattle.json_outcome.specs.StructureData.{member_data, members_data}
use Rattle.json_outcome.proofs.Lists.{listed_turn}
use Rattle.json_outcome.proofs.structure.members_value.Goals as goal

pub loop-tuple-preserved : goal.loop-tuple-preserved
loop-tuple-preserved c =
    let given = c.args.given.now in
    let list = c.loop-tuple.list in
    listed_turn (flat_map (member_data given) c.loop-tuple.tuple-iterator) (member_data given c.in-Some.tuple)
    (flat_map (member_data given) c.next.new.self)
    (members_data c.args.structure.now (relation_symbol c.args.rel.0) given) list c.push_member.new.list
    (ap (flat_map (member_data given)) c.in-Some.ensures.steps)
    (subst (λ (xs : List ℕ). IsListedBy list (member_data given xs) c.push_member.new.list) c.as_slice.ensures.value
    c.push_member.ensures) c.loop-tuple.invariant
