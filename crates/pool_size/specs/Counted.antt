-- What is counted at each node of a pool. Private contracts alone cite this.
use Rattle.std.specs.Prelude.{ℕ, ◌<◌, List, length, get_or}
use Rattle.fol_pool.specs.Trees.{Tree, tree_at}

-- beside each of the first nodes stands what is counted there
abbrev pub AreRight : {A : Type 0} → (Tree → A → Type 0) → List Tree → List A → Type 0
AreRight {A} IsCounted ts table =
    (n : ℕ) (d : A) → n < length table → IsCounted (tree_at ts n) (get_or table n d)
