-- Which node is the normal form of which node.
use Rattle.std.specs.Prelude.{◌<◌, Bool, List, [], ◌∷◌, length}
use Rattle.fol_formula.specs.Fragments.{IsIteFree}
use Rattle.fol_nnf.specs.Normal.{normal, normals}
use Rattle.fol_pool.specs.Trees.{Tree, a_form, some_forms, a_term, some_terms, IsAt, tree_at, term_at}
use Rattle.fol_pool.specs.declared.shape.Node.{Node}
use Rattle.pool_nnf.specs.declared.signed.Signed.{Signed}

-- the normal form of a formula or of its negation, and that of each formula of a row; terms stay
abbrev pub normal_tree : Bool → Tree → Tree
normal_tree positive (a_form p) = a_form (normal positive p)
normal_tree positive (some_forms ps) = some_forms (normals positive ps)
normal_tree positive (a_term t) = a_term t
normal_tree positive (some_terms ts) = some_terms ts

-- the second node is the normal form of the first
abbrev pub IsNormalOf : List Tree → Signed → Node → Type 0
IsNormalOf ts s node = (s.node.0 < length ts) × IsAt ts node.0 (normal_tree s.positive (tree_at ts s.node.0))

-- each entry says so rightly
abbrev pub AreRight : List Tree → List (Signed × Node) → Type 0
AreRight ts [] = Unit {0}
AreRight ts (e ∷ es) = IsNormalOf ts e.0 e.1 × AreRight ts es

-- no `ite` stands in the terms at these nodes
abbrev pub ArePlain : List Tree → List Node → Type 0
ArePlain ts [] = Unit {0}
ArePlain ts (n ∷ ns) = (n.0 < length ts) × IsIteFree (term_at ts n.0) × ArePlain ts ns
