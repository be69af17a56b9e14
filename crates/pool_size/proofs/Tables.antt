-- A table with one more entry.
use Rattle.std.proofs.Common.{ℕ, ◌<◌, List, [], ◌∷◌, ◌++◌, length, get_or, sym, subst, arith}
use Rattle.std.proofs.Common.{⊎_elim, length-append}
use Rattle.std.proofs.lemmas.Bool.{cases_eq}
use Rattle.std.proofs.lemmas.List.{get_or_append_left}
use Rattle.std.proofs.Math.Seq.{get_or-append_seam}
use Rattle.fol_pool.specs.Trees.{Tree, tree_at}
use Rattle.pool_size.specs.Counted.{AreRight}

pub right_push : {A : Type 0} (P : Tree → A → Type 0) (ts : List Tree) (table : List A) (x : A) → AreRight P ts table
    → P (tree_at ts (length table)) x → AreRight P ts (table ++ x ∷ [])
right_push {A} P ts table x right new = λ n d lt.
    ⊎_elim
    (λ last. subst (λ (m : ℕ). P (tree_at ts m) (get_or (table ++ x ∷ []) m d)) (sym last)
    (subst (λ (y : A). P (tree_at ts (length table)) y) (sym (get_or-append_seam table x [] d)) new))
    (λ before.
    let less : n < length table = omega (arith, lt, length-append table (x ∷ []), before) in
    subst (λ (y : A). P (tree_at ts n) y) (sym (get_or_append_left table (x ∷ []) d n less)) (right n d less))
    (cases_eq n (length table))
