-- What the leaves of the code stand for, in a pool.
use Rattle.std.specs.Prelude.{List, map}
use Rattle.std.specs.List.{AllZip}
use Rattle.fol_formula.specs.Syntax.{FormTree, TermTree, TermTrees, forms_of, list_of_forms}
use Rattle.fol_nnf.specs.Normal.{Leaf as LeafOf}
use Rattle.fol_pool.specs.Trees.{Tree, a_form, some_forms, a_term, some_terms, IsAt, tree_at, forms_at}
use Rattle.fol_pool.specs.Trees.{as_formula, as_term, as_terms}
use Rattle.pool_nnf.specs.declared.leaf.Leaf.{Leaf}

-- the leaf as trees, where `read` reads what stands at its node
abbrev pub leaf_at : {A : Type 0} → (Tree → A) → List Tree → Leaf → LeafOf A
leaf_at read ts l = (list_of_forms (forms_at ts l.conditions.0), read (tree_at ts l.node.0))

-- its row of conditions and its node are those of a leaf of trees
abbrev pub IsLeaf : {A : Type 0} → (A → Tree) → List Tree → Leaf → LeafOf A → Type 0
IsLeaf of ts l m = IsAt ts l.conditions.0 (some_forms (forms_of m.0)) × IsAt ts l.node.0 (of m.1)

-- one by one
abbrev pub AreLeaves : {A : Type 0} → (A → Tree) → List Tree → List Leaf → List (LeafOf A) → Type 0
AreLeaves of ts ls ms = AllZip (IsLeaf of ts) ls ms

abbrev pub term_leaf : List Tree → Leaf → LeafOf TermTree
term_leaf ts l = leaf_at as_term ts l

abbrev pub terms_leaf : List Tree → Leaf → LeafOf TermTrees
terms_leaf ts l = leaf_at as_terms ts l

abbrev pub atom_leaf : List Tree → Leaf → LeafOf FormTree
atom_leaf ts l = leaf_at as_formula ts l

-- a leaf of a term
abbrev pub IsTermLeaf : List Tree → Leaf → Type 0
IsTermLeaf ts l = IsLeaf a_term ts l (term_leaf ts l)

-- a leaf of a row of terms
abbrev pub IsTermsLeaf : List Tree → Leaf → Type 0
IsTermsLeaf ts l = IsLeaf some_terms ts l (terms_leaf ts l)

-- a leaf of an atom or its negation
abbrev pub IsAtomLeaf : List Tree → Leaf → Type 0
IsAtomLeaf ts l = IsLeaf a_form ts l (atom_leaf ts l)

abbrev pub AreTermLeaves : List Tree → List Leaf → Type 0
AreTermLeaves ts ls = AreLeaves a_term ts ls (map (term_leaf ts) ls)

abbrev pub AreTermsLeaves : List Tree → List Leaf → Type 0
AreTermsLeaves ts ls = AreLeaves some_terms ts ls (map (terms_leaf ts) ls)

abbrev pub AreAtomLeaves : List Tree → List Leaf → Type 0
AreAtomLeaves ts ls = AreLeaves a_form ts ls (map (atom_leaf ts) ls)
