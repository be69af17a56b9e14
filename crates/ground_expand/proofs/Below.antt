-- The truth of a formula for each number below a bound.
use Rattle.std.proofs.Common.{◌≡◌, ℕ, zero, suc, ◌<◌, Bool, true, List, [], ◌∷◌, ◌++◌, refl, subst, arith, ⊎_elim}
use Rattle.std.proofs.lemmas.Bool.{and_parts, and_from, cases_lt}
use Rattle.fol_sig.specs.Tuples.{join_below}
use Rattle.ground_terms.specs.declared.atom.Atom.{Atom}
use Rattle.ground_terms.specs.Trees.{Tree, truth, all_true, trees_of}

module _ (a : Atom → Bool) where
  all-append : (ps : List Tree) (q : Tree) → all_true a (trees_of ps) ≡ true → truth a q ≡ true
      → all_true a (trees_of (ps ++ q ∷ [])) ≡ true
  all-append [] q h t = and_from (truth a q) true t refl
  all-append (p ∷ ps) q h t =
      let both = and_parts (truth a p) (all_true a (trees_of ps)) h in
      and_from (truth a p) (all_true a (trees_of (ps ++ q ∷ []))) both.0 (all-append ps q both.1 t)

  all-front : (ps : List Tree) (q : Tree) → all_true a (trees_of (ps ++ q ∷ [])) ≡ true
      → all_true a (trees_of ps) ≡ true
  all-front [] q h = refl
  all-front (p ∷ ps) q h =
      let both = and_parts (truth a p) (all_true a (trees_of (ps ++ q ∷ []))) h in
      and_from (truth a p) (all_true a (trees_of ps)) both.0 (all-front ps q both.1)

  all-last : (ps : List Tree) (q : Tree) → all_true a (trees_of (ps ++ q ∷ [])) ≡ true → truth a q ≡ true
  all-last [] q h = (and_parts (truth a q) true h).0
  all-last (p ∷ ps) q h = all-last ps q (and_parts (truth a p) (all_true a (trees_of (ps ++ q ∷ []))) h).1

  pub all-below : (n : ℕ) (f : ℕ → Tree) → ((x : ℕ) → x < n → truth a (f x) ≡ true)
      → all_true a (trees_of (join_below n (λ x. f x ∷ []))) ≡ true
  all-below zero f h = refl
  all-below (suc n) f h =
      all-append (join_below n (λ x. f x ∷ [])) (f n) (all-below n f (λ x lt. h x (omega arith))) (h n (omega arith))

  pub all-below_at : (n x : ℕ) (f : ℕ → Tree) → all_true a (trees_of (join_below n (λ x. f x ∷ []))) ≡ true → x < n
      → truth a (f x) ≡ true
  all-below_at zero x f h lt = absurd (omega arith)
  all-below_at (suc n) x f h lt =
      ⊎_elim
      (λ less. all-below_at n x f (all-front (join_below n (λ x. f x ∷ [])) (f n) h) less)
      (λ last. let e : n ≡ x = omega arith in
      subst (λ m. truth a (f m) ≡ true) e (all-last (join_below n (λ x. f x ∷ [])) (f n) h))
      (cases_lt x n)
