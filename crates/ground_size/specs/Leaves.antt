-- The sizes that a walk over a formula computes in 64 bits, and what it counts of terms.
use Rattle.std.specs.Prelude.{◌≡◌, ℕ, ◌+◌, ◌*◌, ◌==◌, ◌&&◌, if◌then◌else◌, true, false, List, [], ◌∷◌, length}
use Rattle.fol_formula.specs.Syntax.{FormTree, FormTrees}
use Rattle.fol_formula.specs.Counts.{saturated}
use Rattle.fol_nnf.specs.Normal.{Leaf, normal, normals}
use Rattle.ground_size.specs.Sizes.{instance_nodes, all_instance_nodes}
use Rattle.ground_size.specs.declared.signed.SignedCount.{SignedCount}
use Rattle.ground_size.specs.declared.leaves.LeafCount.{LeafCount}

-- the counts of a normal form and of that of the negation, which stop at the greatest number of 64 bits
pub record AreSigned (s : SignedCount) (as_is negated : ℕ) : Type 0 where
  pub positive : s.positive ≡ saturated as_is
  pub negative : s.negative ≡ saturated negated

-- how many leaves, and the nodes of their conditions
pub record AreLeaves (l : LeafCount) (many nodes : ℕ) : Type 0 where
  pub leaves : l.leaves ≡ saturated many
  pub conditions : l.conditions ≡ saturated nodes

-- the nodes of these conditions
abbrev pub nodes_of_each : List ℕ → List FormTree → ℕ
nodes_of_each counts [] = 0
nodes_of_each counts (c ∷ cs) = instance_nodes counts c + nodes_of_each counts cs

-- the nodes of the conditions of all leaves
abbrev pub condition_nodes : {A : Type 0} → List ℕ → List (Leaf A) → ℕ
condition_nodes counts [] = 0
condition_nodes counts (l ∷ ls) = nodes_of_each counts l.0 + condition_nodes counts ls

-- the sizes of a formula
abbrev pub AreSizesOf : List ℕ → FormTree → SignedCount → Type 0
AreSizesOf counts p s = AreSigned s (instance_nodes counts (normal true p)) (instance_nodes counts (normal false p))

-- the sizes of some formulas together
abbrev pub AreSizesOfAll : List ℕ → FormTrees → SignedCount → Type 0
AreSizesOfAll counts ps s = AreSigned s (all_instance_nodes counts (normals true ps))
    (all_instance_nodes counts (normals false ps))

-- these leaves, counted
abbrev pub AreLeavesOf : {A : Type 0} → List ℕ → List (Leaf A) → LeafCount → Type 0
AreLeavesOf counts ls l = AreLeaves l (length ls) (condition_nodes counts ls)

-- an Or over the leaves of an And of the conditions and a literal; a literal without `ite` stays
abbrev pub literal_nodes : ℕ → ℕ → ℕ
literal_nodes many nodes = if many == 1 && nodes == 0 then 1 else many * 2 + nodes + 1
