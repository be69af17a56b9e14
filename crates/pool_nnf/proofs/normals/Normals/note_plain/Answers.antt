use Rattle.std.proofs.Common.{◌<◌, List, length, subst, sym}
use Rattle.fol_formula.specs.Fragments.{IsIteFree}
use Rattle.fol_pool.specs.Trees.{Tree, term_at}
use Rattle.pool_nnf.specs.Normals.{ArePlain}
use Rattle.pool_nnf.proofs.Entries.{plain_noted}
use Rattle.pool_nnf.proofs.normals.Normals.note_plain.Goals as goal

pub invariant_of-self-2 : goal.invariant_of-self-2
invariant_of-self-2 c =
    let ts = c.self.inside.pool in
    let n = c.args.node in
    let right = c.self.invariant in (
      right.0,
      subst (λ ns. ArePlain ts ns) (sym c.in_ok-insert.ensures.keys)
          (plain_noted ts c.self.inside.plain.keys n right.1
          (subst (λ (l : List Tree). n.0 < length l) (sym c.self.view_is) c.requires.node)
          (subst (λ (l : List Tree). IsIteFree (term_at l n.0)) (sym c.self.view_is) c.requires.plain)),
    )
