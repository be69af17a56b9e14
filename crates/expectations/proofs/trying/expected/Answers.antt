use Rattle.std.proofs.Common.{◌∙◌, refl}
use Rattle.expectations.proofs.Chosen.{known}
use Rattle.expectations.proofs.trying.expected.Goals as goal

pub returns : goal.returns
returns c = known c.args.text.now c.args.tokens.now c.deref-2.result.now c.args.fault.now.at _ c.in_ok-kinds.kinds.items
    refl (c.deref-2.ensures.value ∙ c.in_ok-front.ensures) c.in_ok-kinds.ensures
