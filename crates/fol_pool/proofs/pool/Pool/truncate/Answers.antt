use Rattle.std.proofs.Common.{[], ◌∙◌, ap, subst, sym, take}
use Rattle.std.specs.Prelude.{List}
use Rattle.fol_pool.specs.Pools.{grown, IsKept}
use Rattle.fol_pool.specs.declared.shape.Shape.{Shape}
use Rattle.fol_pool.specs.declared.facts.TreeFacts.{TreeFacts}
use Rattle.fol_pool.proofs.Cut.{grown_take, kept_take}
use Rattle.fol_pool.proofs.pool.Pool.truncate.Goals as goal

pub invariant_of-self : goal.invariant_of-self
invariant_of-self c =
    let shapes = c.truncate.new.self.keys in
    let kept = kept_take c.self.inside.shapes.keys c.self.inside.facts.items c.args.count c.self.invariant in
    subst (λ (zs : List TreeFacts). IsKept shapes zs) (sym c.truncate-2.ensures.items)
    (subst (λ (xs : List Shape). IsKept xs (take c.args.count c.self.inside.facts.items)) (sym c.truncate.ensures.keys)
    kept)

pub returns : goal.returns
returns c =
    ap (grown []) c.truncate.ensures.keys ∙ grown_take c.self.inside.shapes.keys c.args.count
    ∙ ap (take c.args.count) c.self.view_is
