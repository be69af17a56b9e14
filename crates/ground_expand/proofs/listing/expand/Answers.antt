use Rattle.std.proofs.Common.{[], map, ap, sym, ◌∙◌}
use Rattle.std.proofs.lemmas.List.{append-nil}
use Rattle.ground_terms.specs.CallViews.{plain_call}
use Rattle.ground_expand.proofs.listing.expand.Goals as goal

pub returns : goal.returns
returns c =
    let taken = c.in_ok-expand_into.ensures in
    taken.taken [] (ap (map plain_call) c.new-made.ensures.items) ∙ sym (append-nil taken.some) ∙ taken.split
