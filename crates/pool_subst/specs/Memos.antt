-- What was made of a node under so many binders, which stays right as the pool grows.
use Rattle.std.specs.Prelude.{◌≡◌, ℕ, ◌==◌, ◌&&◌, ◌<◌, List, length, Option, Some}
use Rattle.std.specs.Map.{lookup}
use Rattle.std.proofs.Common.{sym, ap, ◌∙◌}
use Rattle.fol_subst.specs.Rules.{Rules}
use Rattle.fol_pool.specs.Trees.{Tree, IsAt, Grows, tree_at}
use Rattle.fol_pool.specs.Growing.{stays_below, tree_stays, stays_at}
use Rattle.fol_pool.specs.declared.shape.Node.{Node}
use Rattle.pool_subst.specs.Walks.{tree_by}

-- for a node and so many binders, what was made
abbrev pub Entries : Type 0
Entries = List ((ℕ × ℕ) × Node)

-- what was made of the node with this number, under so many binders
abbrev pub kept : Entries → ℕ → ℕ → Option Node
kept entries n depth = lookup (λ key. (n == key.0) && (depth == key.1)) entries

-- whatever was made stands for the tree that the rules make
abbrev pub AreRight : Rules → List Tree → Entries → Type 0
AreRight rules ts entries = (n depth : ℕ) (made : Node) → kept entries n depth ≡ Some made
    → (n < length ts) × IsAt ts made.0 (tree_by rules depth (tree_at ts n))

-- ---- a law

pub right_grows : (r : Rules) (old new : List Tree) (es : Entries) → Grows old new → AreRight r old es
    → AreRight r new es
right_grows r old new es g right n d made e =
    let h = right n d made e in
    let there = stays_at old new g made.0 (tree_by r d (tree_at old n)) h.1 in
    (stays_below old new g n h.0, (there.0, there.1 ∙ ap (tree_by r d) (sym (tree_stays old new g n h.0))))
