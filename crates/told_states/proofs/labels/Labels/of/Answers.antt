use Rattle.std.proofs.Common.{◌≡◌, ◌++◌, [], List, subst}
use Rattle.fol_sig.specs.Tables.{Declared}
use Rattle.told_states.specs.Labels.{labels_at}
use Rattle.told_states.specs.declared.label.Label.{Label}
use Rattle.told_states.proofs.Pieces.{one_more}
use Rattle.told_states.proofs.labels.Labels.of.Goals as goal

pub loop-fun-preserved : goal.loop-fun-preserved
loop-fun-preserved c =
    let old : List Label = c.loop-fun.labels.items in
    let new : List Label = c.push_if_listed.new.labels.items in
    one_more c.loop-fun.fun (labels_at c.args.model.now.signature c.args.structure.now) old new []
    c.loop-fun.invariant
    (subst (λ (sig : Declared). new ≡ old ++ labels_at sig c.args.structure.now c.loop-fun.fun)
    c.signature-signature.ensures.value c.in_ok-push_if_listed.ensures)
