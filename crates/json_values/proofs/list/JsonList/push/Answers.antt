use Rattle.json_values.proofs.Plain.{plain_items}
use Rattle.json_values.proofs.list.JsonList.push.Goals as goal

pub invariant_of-self-in-Ok-push : goal.invariant_of-self-in-Ok-push
invariant_of-self-in-Ok-push c = rw c.in-Ok-push.ensures.items (plain_items _ _ c.self.invariant c.value.invariant)
