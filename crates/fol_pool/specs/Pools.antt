-- The trees of a pool's nodes, by the shapes that it keeps.
use Rattle.std.specs.Prelude.{◌≡◌, List, [], ◌∷◌, ◌++◌, map}
use Rattle.fol_pool.specs.Trees.{Tree, EachOnce}
use Rattle.fol_pool.specs.Shapes.{tree_of, IsOver}
use Rattle.fol_pool.specs.Facts.{tree_facts}
use Rattle.fol_pool.specs.declared.shape.Shape.{Shape}
use Rattle.fol_pool.specs.declared.facts.TreeFacts.{TreeFacts}

-- the trees of some nodes, with those of further shapes behind them, each over what stands before it
abbrev pub grown : List Tree → List Shape → List Tree
grown ts [] = ts
grown ts (s ∷ rest) = grown (ts ++ tree_of ts s ∷ []) rest

-- each shape is over the nodes before it
abbrev pub AreOver : List Tree → List Shape → Type 0
AreOver ts [] = Unit {0}
AreOver ts (s ∷ rest) = IsOver ts s × AreOver (ts ++ tree_of ts s ∷ []) rest

-- each shape is over those before it, and no two have one tree
pub record ArePooled (shapes : List Shape) : Type 0 where
  pub over : AreOver [] shapes
  pub once : EachOnce (grown [] shapes)

-- what a pool keeps: its shapes, and beside each what is known of its tree
pub record IsKept (shapes : List Shape) (facts : List TreeFacts) : Type 0 where
  pub pooled : ArePooled shapes
  pub known : facts ≡ map tree_facts (grown [] shapes)
