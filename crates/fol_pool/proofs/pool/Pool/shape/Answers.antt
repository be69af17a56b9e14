use Rattle.std.proofs.Common.{◌≡◌, ◌<◌, ℕ, sym, subst, length, get_or, List, []}
use Rattle.fol_pool.specs.Trees.{Tree, tree_at}
use Rattle.fol_pool.specs.Shapes.{tree_of, IsOver, PartsAreBelow}
use Rattle.fol_pool.specs.Pools.{grown, ArePooled}
use Rattle.fol_pool.specs.declared.shape.Shape.{Shape}
use Rattle.fol_pool.specs.declared.shape.Shape.TheVariants as shape
use Rattle.fol_pool.proofs.Grown.{length_grown, shape_tree, shape_parts, shape_below}
use Rattle.fol_pool.proofs.pool.Pool.shape.Goals as goal

module _ (ts : List Tree) (keys : List Shape) (n : ℕ) (is : grown [] keys ≡ ts) (lt : n < length ts) where
  inside : n < length (grown [] keys)
  inside = subst (λ (l : List Tree). n < length l) (sym is) lt

  within : n < length keys
  within = subst (λ (m : ℕ). n < m) (length_grown keys) inside

  tree : ArePooled keys → tree_of ts (get_or keys n shape.True) ≡ tree_at ts n
  tree pooled =
      subst (λ (l : List Tree). tree_of l (get_or keys n shape.True) ≡ tree_at l n) is
      (shape_tree keys n pooled inside)

  parts : ArePooled keys → IsOver ts (get_or keys n shape.True)
  parts pooled = subst (λ (l : List Tree). IsOver l (get_or keys n shape.True)) is (shape_parts keys n pooled inside)

  below : ArePooled keys → PartsAreBelow n (get_or keys n shape.True)
  below pooled = shape_below keys n pooled inside

pub bounds-as_slice-node : goal.bounds-as_slice-node
bounds-as_slice-node c =
    rw c.as_slice.ensures.keys
    (within c.args.self.now c.self.inside.shapes.keys c.args.node.0 c.self.view_is c.requires)

pub returns-clause-tree : goal.returns-clause-tree
returns-clause-tree c =
    rw c.as_slice.ensures.keys
    (tree c.args.self.now c.self.inside.shapes.keys c.args.node.0 c.self.view_is c.requires c.self.invariant.pooled)

pub returns-clause-parts : goal.returns-clause-parts
returns-clause-parts c =
    rw c.as_slice.ensures.keys
    (parts c.args.self.now c.self.inside.shapes.keys c.args.node.0 c.self.view_is c.requires c.self.invariant.pooled)

pub returns-clause-below : goal.returns-clause-below
returns-clause-below c =
    rw c.as_slice.ensures.keys
    (below c.args.self.now c.self.inside.shapes.keys c.args.node.0 c.self.view_is c.requires c.self.invariant.pooled)
