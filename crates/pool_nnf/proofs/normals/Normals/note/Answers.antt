use Rattle.std.proofs.Common.{List, sym, subst}
use Rattle.fol_pool.specs.Trees.{Tree}
use Rattle.pool_nnf.specs.Normals.{AreRight, IsNormalOf}
use Rattle.pool_nnf.specs.declared.signed.Signed.{Signed}
use Rattle.pool_nnf.proofs.Entries.{noted}
use Rattle.pool_nnf.proofs.normals.Normals.note.Goals as goal

pub invariant_of-self-2 : goal.invariant_of-self-2
invariant_of-self-2 c =
    let s : Signed = record { node = c.args.node; positive = c.args.positive } in
    let ts = c.self.inside.pool in
    let is : IsNormalOf ts s c.args.made =
    subst (λ (l : List Tree). IsNormalOf l s c.args.made) (sym c.self.view_is) (c.requires.node, c.requires.made) in
    let right = c.self.invariant in (
      subst (λ es. AreRight ts es) (sym c.in_ok-insert.ensures.entries)
          (noted ts c.self.inside.made.entries s c.args.made right.0 is),
      right.1,
    )
