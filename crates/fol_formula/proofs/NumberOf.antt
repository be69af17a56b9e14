-- The existentials of a normal form, counted without it.
use Rattle.std.proofs.Common.{◌≡◌, ℕ, suc, ◌+◌, Bool, true, false, List, [], ◌++◌, length, refl, ◌∙◌, arith}
use Rattle.std.proofs.lemmas.List.{length-append}
use Rattle.fol_formula.specs.Syntax.{FormTree, FormTrees, top, bottom, rel, equal, negation, conjunction, disjunction}
use Rattle.fol_formula.specs.Syntax.{implication, equivalence, for_all, for_some, no_forms, form_then}
use Rattle.fol_formula.specs.NormalForms.{normal_form, normal_forms}
use Rattle.fol_formula.specs.Witnesses.{some_sorts, some_sorts_of}
use Rattle.fol_formula.specs.Existentials.{number_of, number_of_all}

count_both : (a b : List ℕ) (m n : ℕ) → length a ≡ m → length b ≡ n → length (a ++ b) ≡ m + n
count_both a b m n e h = let z = length-append a b in omega (arith, z, e, h)

count_two : (a b : List ℕ) (m n : ℕ) → length a ≡ m → length b ≡ n → length (a ++ (b ++ [])) ≡ m + n
count_two a b m n e h = let z = length-append a (b ++ []) in let y = length-append b [] in omega (arith, z, y, e, h)

count_four : (a b c d : List ℕ) (m n k l : ℕ) → length a ≡ m → length b ≡ n → length c ≡ k → length d ≡ l
    → length ((a ++ (b ++ [])) ++ ((c ++ (d ++ [])) ++ [])) ≡ (m + n) + (k + l)
count_four a b c d m n k l e h f g =
    count_two (a ++ (b ++ [])) (c ++ (d ++ [])) (m + n) (k + l) (count_two a b m n e h) (count_two c d k l f g)

mutual
  pub numbers : (b : Bool) (p : FormTree) → length (some_sorts (normal_form b p)) ≡ number_of b p
  numbers true top = refl
  numbers false top = refl
  numbers true bottom = refl
  numbers false bottom = refl
  numbers true (rel r args) = refl
  numbers false (rel r args) = refl
  numbers true (equal x y) = refl
  numbers false (equal x y) = refl
  numbers true (negation p) = numbers false p
  numbers false (negation p) = numbers true p
  numbers true (conjunction ps) = numbers_all true ps
  numbers false (conjunction ps) = numbers_all false ps
  numbers true (disjunction ps) = numbers_all true ps
  numbers false (disjunction ps) = numbers_all false ps
  numbers true (implication p q) = count_two _ _ _ _ (numbers false p) (numbers true q)
  numbers false (implication p q) = count_two _ _ _ _ (numbers true p) (numbers false q)
  numbers true (equivalence p q) =
      let e = count_four _ _ _ _ _ _ _ _ (numbers true p) (numbers true q) (numbers false p) (numbers false q) in
      let z : (number_of true p + number_of true q) + (number_of false p + number_of false q)
      ≡ number_of true p + number_of false p + (number_of true q + number_of false q) = omega arith in
      e ∙ z
  numbers false (equivalence p q) =
      let e = count_four _ _ _ _ _ _ _ _ (numbers true p) (numbers false q) (numbers false p) (numbers true q) in
      let z : (number_of true p + number_of false q) + (number_of false p + number_of true q)
      ≡ number_of true p + number_of false p + (number_of true q + number_of false q) = omega arith in
      e ∙ z
  numbers true (for_all k p) = numbers true p
  numbers false (for_all k p) = let h = numbers false p in
      let z : suc (length (some_sorts (normal_form false p))) ≡ number_of false p + 1 = omega (arith, h) in z
  numbers true (for_some k p) = let h = numbers true p in
      let z : suc (length (some_sorts (normal_form true p))) ≡ number_of true p + 1 = omega (arith, h) in z
  numbers false (for_some k p) = numbers false p

  numbers_all : (b : Bool) (ps : FormTrees) → length (some_sorts_of (normal_forms b ps)) ≡ number_of_all b ps
  numbers_all b no_forms = refl
  numbers_all b (form_then p ps) = count_both _ _ _ _ (numbers b p) (numbers_all b ps)
