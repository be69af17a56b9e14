-- The existentials of a normal form are those of its parts.
use Rattle.std.proofs.Common.{◌≡◌, ℕ, ◌+◌, Bool, true, false, not, List, [], ◌∷◌, ◌++◌, arith}
use Rattle.fol_formula.specs.Syntax.{FormTree, implication, equivalence}
use Rattle.fol_formula.specs.NormalForms.{normal_form, normal_forms}
use Rattle.fol_formula.specs.Witnesses.{some_sorts, some_sorts_of}
use Rattle.ground_size.specs.Existentials.{times, some, ExistentialsAreOfParts}

times-append : (k : ℕ) (qs rs : List ℕ) → times k (qs ++ rs) ≡ times k qs + times k rs
times-append k [] rs = omega arith
times-append k (q ∷ qs) rs = let h = times-append k qs rs in omega (arith, h)

times-two : (k : ℕ) (a b : List ℕ) → times k (a ++ (b ++ [])) ≡ times k a + times k b
times-two k a b = let e = times-append k a (b ++ []) in let f = times-append k b [] in omega (arith, e, f)

times-four : (k : ℕ) (a b c d : List ℕ) → times k ((a ++ (b ++ [])) ++ ((c ++ (d ++ [])) ++ []))
    ≡ (times k a + times k b) + (times k c + times k d)
times-four k a b c d =
    let e = times-two k (a ++ (b ++ [])) (c ++ (d ++ [])) in
    let f = times-two k a b in
    let g = times-two k c d in
    omega (arith, e, f, g)

implication-parts : (k : ℕ) (positive : Bool) (p q : FormTree)
    → some k positive (implication p q) ≡ some k (not positive) p + some k positive q
implication-parts k true p q = times-two k (some_sorts (normal_form false p)) (some_sorts (normal_form true q))
implication-parts k false p q = times-two k (some_sorts (normal_form true p)) (some_sorts (normal_form false q))

equivalence-parts : (k : ℕ) (positive : Bool) (p q : FormTree) → some k positive (equivalence p q)
    ≡ (some k true p + some k false p) + (some k true q + some k false q)
equivalence-parts k true p q =
    let e = times-four k (some_sorts (normal_form true p)) (some_sorts (normal_form true q))
    (some_sorts (normal_form false p)) (some_sorts (normal_form false q)) in
    omega (arith, e)
equivalence-parts k false p q =
    let e = times-four k (some_sorts (normal_form true p)) (some_sorts (normal_form false q))
    (some_sorts (normal_form false p)) (some_sorts (normal_form true q)) in
    omega (arith, e)

pub of_parts : ExistentialsAreOfParts
of_parts = record {
  of_implication = implication-parts;
  of_equivalence = equivalence-parts;
  of_row = λ k positive p ps. times-append k (some_sorts (normal_form positive p))
      (some_sorts_of (normal_forms positive ps));
}
