use Rattle.serde_json.specs.View.{view, members_view}
use Rattle.json_values.proofs.Plain.{plain_members}
use Rattle.json_values.proofs.object.JsonObject.set.Goals as goal

pub invariant_of-self-2 : goal.invariant_of-self-2
invariant_of-self-2 c =
    rw c.in_ok-put.ensures.ok
    (plain_members c.args.name.now (view c.value.inside.value) (members_view c.self.inside.members.entries)
    c.value.invariant c.self.invariant)
