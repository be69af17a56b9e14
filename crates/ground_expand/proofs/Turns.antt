-- The calls of an instance: of its parts one by one, and of an And over the terms of a sort.
use Rattle.std.proofs.Common.{◌≡◌, ℕ, zero, suc, ◌+◌, List, [], ◌∷◌, ◌++◌, length, get_or, refl, sym, ap, ◌∙◌, arith}
use Rattle.fol_sig.specs.Symbols.{Symbols}
use Rattle.fol_sig.specs.Tuples.{join_below}
use Rattle.fol_formula.specs.Syntax.{FormTree, for_all}
use Rattle.fol_formula.specs.View.{forms}
use Rattle.fol_formula.specs.declared.Formula.{Formula}
use Rattle.ground_terms.specs.Numberings.{Numbering}
use Rattle.ground_terms.specs.Trees.{Tree, node, trees_of, count}
use Rattle.ground_terms.specs.Calls.{a_node, calls_of}
use Rattle.ground_terms.specs.Taking.{calls_of_each}
use Rattle.ground_terms.specs.declared.ground.Junction.TheVariants.{And}
use Rattle.ground_expand.specs.Instance.{instance, instances}

pub count-instances : (sig : Symbols) (names : Numbering) (sorts : List ℕ) (ps : List Formula) (env : List ℕ)
    → count (instances sig names sorts (forms ps) env) ≡ length ps
count-instances sig names sorts [] env = refl
count-instances sig names sorts (p ∷ ps) env = ap (λ n. n + 1) (count-instances sig names sorts ps env) ∙ omega arith

count-push : (ps : List Tree) (q : Tree) → count (trees_of (ps ++ q ∷ [])) ≡ count (trees_of ps) + 1
count-push [] q = refl
count-push (p ∷ ps) q = ap (λ n. n + 1) (count-push ps q)

pub count-below : (n : ℕ) (f : ℕ → Tree) → count (trees_of (join_below n (λ x. f x ∷ []))) ≡ n
count-below zero f = refl
count-below (suc n) f =
    count-push (join_below n (λ x. f x ∷ [])) (f n) ∙ ap (λ m. m + 1) (count-below n f) ∙ omega arith

-- an And over the terms of a sort
module _ (sig : Symbols) (names : Numbering) (sorts : List ℕ) (k : ℕ) (p : FormTree) (env : List ℕ) where
  abbrev pub instance_at : ℕ → Tree
  instance_at x = instance sig names (k ∷ sorts) p (x ∷ env)

  pub each-calls : (n : ℕ) → n ≡ get_or names.counts k 0
      → a_node And n ∷ calls_of_each (join_below n (λ x. instance_at x ∷ []))
      ≡ calls_of (instance sig names sorts (for_all k p) env)
  each-calls n e =
      ap (λ m. a_node And m ∷ calls_of_each (join_below n (λ x. instance_at x ∷ []))) (sym (count-below n instance_at))
      ∙ ap (λ m. calls_of (node And (trees_of (join_below m (λ x. instance_at x ∷ []))))) e
