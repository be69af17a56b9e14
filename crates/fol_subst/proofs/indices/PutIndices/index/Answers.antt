use Rattle.std.proofs.Common.{sym, ◌∙◌}
use Rattle.fol_subst.proofs.Rooms.{picked-beyond}
use Rattle.fol_subst.proofs.indices.PutIndices.index.Goals as goal

pub returns : goal.returns
returns c =
    c.in_ok-outside.ensures
    ∙ sym (picked-beyond c.args.depth c.args.i c.args.self.now.args.now c.if-index-depth.false
    c.if-place-self.false)
