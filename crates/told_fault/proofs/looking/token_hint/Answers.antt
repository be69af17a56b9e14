use Rattle.std.proofs.Common.{◌∙◌, ap}
use Rattle.told_fault.specs.Hints.{hint_of}
use Rattle.told_fault.proofs.looking.token_hint.Goals as goal

pub returns : goal.returns
returns c = c.hint_of.ensures ∙ ap (λ round. hint_of round c.args.kinds.now) c.words_round-round.ensures
