-- The walk over a sentence counts the existentials of its normal form.
use Rattle.std.proofs.Common.{◌≡◌, ℕ, ◌+◌, ◌*◌, ◌<◌, true, false, ◌==◌, cond, List, length, refl, sym, ap, ◌∙◌}
use Rattle.std.proofs.Common.{subst, arith, ⊎_elim}
use Rattle.std.specs.Prelude.{slice_index}
use Rattle.std.proofs.lemmas.Bool.{cases_eq, eq-eqb, ne_eqb}
use Rattle.std.proofs.lemmas.List.{length-set, get_or-set_same, get_or-set_other}
use Rattle.std.proofs.Math.Nat.{mul-add, add-mul, mul-zero, mul-one}
use Rattle.fol_formula.specs.Syntax.{
  FormTree,
  FormTrees,
  top,
  bottom,
  rel,
  equal,
  negation,
  conjunction,
  disjunction,
  implication,
  equivalence,
  for_all,
  for_some,
  no_forms,
  form_then,
}
use Rattle.fol_formula.specs.Counts.{saturated}
use Rattle.ground_size.specs.Existentials.{some, some_of_all}
use Rattle.ground_size.specs.Walks.{raised_at, raised, all_raised}
use Rattle.ground_size.proofs.OfParts.{of_parts}
use Rattle.ground_size.proofs.Saturated.{sat-sat, plus-alike, times-alike}

-- sums of products
none : (c y n : ℕ) → saturated c ≡ saturated (c + (y * 0 + n * 0))
none c y n = let e = mul-zero y in let f = mul-zero n in omega (arith, e, f)

swapped : (x c a b : ℕ) → saturated x ≡ saturated (c + (a + b)) → saturated x ≡ saturated (c + (b + a))
swapped x c a b h = omega arith

-- one part after another, standing so many times
next : (x z c y n a b d e : ℕ) → saturated x ≡ saturated (z + (y * a + n * b)) → saturated z
    ≡ saturated (c + (y * d + n * e)) → saturated x ≡ saturated (c + (y * (d + a) + n * (e + b)))
next x z c y n a b d e h i =
    let f = mul-add y d a in
    let g = mul-add n e b in
    omega (arith, f, g)

both_ways : (x z c y n a b d e : ℕ) → saturated x ≡ saturated (z + (saturated (y + n) * a + saturated (y + n) * b))
    → saturated z ≡ saturated (c + (saturated (y + n) * d + saturated (y + n) * e)) → saturated x
    ≡ saturated (c + (y * ((d + e) + (a + b)) + n * ((d + e) + (a + b))))
both_ways x z c y n a b d e h i =
    let t = saturated (y + n) in
    let same : (m : ℕ) → saturated (t * m) ≡ saturated ((y + n) * m) = λ m. times-alike t (y + n) m m
    (sat-sat (y + n)) refl in
    let ea = same a in
    let eb = same b in
    let ed = same d in
    let ee = same e in
    let fa = add-mul y n a in
    let fb = add-mul y n b in
    let fd = add-mul y n d in
    let fe = add-mul y n e in
    let g1 = mul-add y (d + e) (a + b) in
    let g2 = mul-add y d e in
    let g3 = mul-add y a b in
    let g4 = mul-add n (d + e) (a + b) in
    let g5 = mul-add n d e in
    let g6 = mul-add n a b in
    let first : saturated (z + (t * a + t * b)) ≡ saturated (z + ((y * a + n * a) + (y * b + n * b))) =
    plus-alike z z (t * a + t * b) ((y * a + n * a) + (y * b + n * b)) refl
    (plus-alike (t * a) (y * a + n * a) (t * b) (y * b + n * b) (ea ∙ ap saturated fa) (eb ∙ ap saturated fb)) in
    let second : saturated (c + (t * d + t * e)) ≡ saturated (c + ((y * d + n * d) + (y * e + n * e))) =
    plus-alike c c (t * d + t * e) ((y * d + n * d) + (y * e + n * e)) refl
    (plus-alike (t * d) (y * d + n * d) (t * e) (y * e + n * e) (ed ∙ ap saturated fd) (ee ∙ ap saturated fe)) in
    h ∙ first ∙ plus-alike z (c + ((y * d + n * d) + (y * e + n * e))) ((y * a + n * a) + (y * b + n * b))
    ((y * a + n * a) + (y * b + n * b)) (i ∙ second) refl
    ∙ ap saturated (omega (arith, g1, g2, g3, g4, g5, g6))

-- a quantifier that counts m times
length-raised_at : (counts : List ℕ) (q m : ℕ) → length (raised_at counts q m) ≡ length counts
length-raised_at counts q m = length-set counts q (saturated (slice_index counts q + m))

at-raised_at : (counts : List ℕ) (q m k : ℕ) → k < length counts → saturated (slice_index (raised_at counts q m) k)
    ≡ saturated (slice_index counts k + m * cond (q == k) 1 0)
at-raised_at counts q m k lt =
    ⊎_elim
    (λ e.
    subst (λ j. j < length counts → saturated (slice_index (raised_at counts q m) j)
    ≡ saturated (slice_index counts j + m * cond (q == j) 1 0)) e
    (λ inside.
    ap saturated (get_or-set_same counts q (saturated (slice_index counts q + m)) 0 inside)
    ∙ sat-sat (slice_index counts q + m)
    ∙ ap (λ n. saturated (slice_index counts q + n)) (sym (mul-one m))
    ∙ ap (λ b. saturated (slice_index counts q + m * cond b 1 0)) (sym (eq-eqb q q refl)))
    lt)
    (λ differ.
    ap saturated (get_or-set_other counts q k (saturated (slice_index counts q + m)) 0 (λ e. differ (sym e)))
    ∙ zeroed (slice_index counts k)
    ∙ ap (λ b. saturated (slice_index counts k + m * cond b 1 0)) (sym (ne_eqb q k differ)))
    (cases_eq q k)
  where
    zeroed : (c : ℕ) → saturated c ≡ saturated (c + m * 0)
    zeroed c = let e = mul-zero m in omega (arith, e)

over_all : (x z c y n a b one : ℕ) → saturated x ≡ saturated (z + (y * a + n * b)) → saturated z
    ≡ saturated (c + n * one) → saturated x ≡ saturated (c + (y * a + n * (one + b)))
over_all x z c y n a b one h i = let e = mul-add n one b in omega (arith, e)

over_some : (x z c y n a b one : ℕ) → saturated x ≡ saturated (z + (y * a + n * b)) → saturated z
    ≡ saturated (c + y * one) → saturated x ≡ saturated (c + (y * (one + a) + n * b))
over_some x z c y n a b one h i = let e = mul-add y one a in omega (arith, e)

mutual
  pub length-raised : (y n : ℕ) (p : FormTree) (counts : List ℕ) → length (raised y n p counts) ≡ length counts
  length-raised y n top counts = refl
  length-raised y n bottom counts = refl
  length-raised y n (rel r args) counts = refl
  length-raised y n (equal a b) counts = refl
  length-raised y n (negation p) counts = length-raised n y p counts
  length-raised y n (conjunction ps) counts = length-all_raised y n ps counts
  length-raised y n (disjunction ps) counts = length-all_raised y n ps counts
  length-raised y n (implication p q) counts = length-raised y n q (raised n y p counts) ∙ length-raised n y p counts
  length-raised y n (equivalence p q) counts =
      length-raised (saturated (y + n)) (saturated (y + n)) q (raised (saturated (y + n)) (saturated (y + n)) p counts)
      ∙ length-raised (saturated (y + n)) (saturated (y + n)) p counts
  length-raised y n (for_all k p) counts = length-raised y n p (raised_at counts k n) ∙ length-raised_at counts k n
  length-raised y n (for_some k p) counts = length-raised y n p (raised_at counts k y) ∙ length-raised_at counts k y

  length-all_raised : (y n : ℕ) (ps : FormTrees) (counts : List ℕ) → length (all_raised y n ps counts) ≡ length counts
  length-all_raised y n no_forms counts = refl
  length-all_raised y n (form_then p ps) counts = length-all_raised y n ps (raised y n p counts)
      ∙ length-raised y n p counts

module _ (k : ℕ) where
  abbrev pub Holds : ℕ → ℕ → ℕ → ℕ → List ℕ → List ℕ → Type 0
  Holds y n a b old new = saturated (slice_index new k) ≡ saturated (slice_index old k + (y * a + n * b))

  mutual
    pub at-raised : (y n : ℕ) (p : FormTree) (counts : List ℕ) → k < length counts → Holds y n (some k true p)
        (some k false p) counts (raised y n p counts)
    at-raised y n top counts lt = none (slice_index counts k) y n
    at-raised y n bottom counts lt = none (slice_index counts k) y n
    at-raised y n (rel r args) counts lt = none (slice_index counts k) y n
    at-raised y n (equal a b) counts lt = none (slice_index counts k) y n
    at-raised y n (negation p) counts lt = swapped (slice_index (raised n y p counts) k) (slice_index counts k)
        (n * some k true p) (y * some k false p) (at-raised n y p counts lt)
    at-raised y n (conjunction ps) counts lt = at-all_raised y n ps counts lt
    at-raised y n (disjunction ps) counts lt = at-all_raised y n ps counts lt
    at-raised y n (implication p q) counts lt =
        let behind = raised n y p counts in
        let lt' : k < length behind = subst (λ m. k < m) (sym (length-raised n y p counts)) lt in
        let first = swapped (slice_index behind k) (slice_index counts k) (n * some k true p) (y * some k false p)
        (at-raised n y p counts lt) in
        next (slice_index (raised y n q behind) k) (slice_index behind k) (slice_index counts k) y n (some k true q)
        (some k false q) (some k false p) (some k true p) (at-raised y n q behind lt') first
        ∙ ap (λ m. saturated (slice_index counts k + (y * m + n * (some k true p + some k false q))))
        (sym (of_parts.of_implication k true p q))
        ∙ ap (λ m. saturated (slice_index counts k + (y * some k true (implication p q) + n * m)))
        (sym (of_parts.of_implication k false p q))
    at-raised y n (equivalence p q) counts lt =
        let t = saturated (y + n) in
        let behind = raised t t p counts in
        let lt' : k < length behind = subst (λ m. k < m) (sym (length-raised t t p counts)) lt in
        both_ways (slice_index (raised t t q behind) k) (slice_index behind k) (slice_index counts k) y n
        (some k true q) (some k false q) (some k true p) (some k false p) (at-raised t t q behind lt')
        (at-raised t t p counts lt)
        ∙ ap (λ m. saturated
        (slice_index counts k + (y * m + n * ((some k true p + some k false p) + (some k true q + some k false q)))))
        (sym (of_parts.of_equivalence k true p q))
        ∙ ap (λ m. saturated (slice_index counts k + (y * some k true (equivalence p q) + n * m)))
        (sym (of_parts.of_equivalence k false p q))
    at-raised y n (for_all j p) counts lt =
        let behind = raised_at counts j n in
        let lt' : k < length behind = subst (λ m. k < m) (sym (length-raised_at counts j n)) lt in
        over_all (slice_index (raised y n p behind) k) (slice_index behind k) (slice_index counts k) y n
        (some k true p) (some k false p) (cond (j == k) 1 0) (at-raised y n p behind lt')
        (at-raised_at counts j n k lt)
    at-raised y n (for_some j p) counts lt =
        let behind = raised_at counts j y in
        let lt' : k < length behind = subst (λ m. k < m) (sym (length-raised_at counts j y)) lt in
        over_some (slice_index (raised y n p behind) k) (slice_index behind k) (slice_index counts k) y n
        (some k true p) (some k false p) (cond (j == k) 1 0) (at-raised y n p behind lt')
        (at-raised_at counts j y k lt)

    pub at-all_raised : (y n : ℕ) (ps : FormTrees) (counts : List ℕ) → k < length counts
        → Holds y n (some_of_all k true ps) (some_of_all k false ps) counts (all_raised y n ps counts)
    at-all_raised y n no_forms counts lt = none (slice_index counts k) y n
    at-all_raised y n (form_then p ps) counts lt =
        let behind = raised y n p counts in
        let lt' : k < length behind = subst (λ m. k < m) (sym (length-raised y n p counts)) lt in
        next (slice_index (all_raised y n ps behind) k) (slice_index behind k) (slice_index counts k) y n
        (some_of_all k true ps) (some_of_all k false ps) (some k true p) (some k false p)
        (at-all_raised y n ps behind lt') (at-raised y n p counts lt)
        ∙ ap (λ m. saturated (slice_index counts k + (y * m + n * (some k false p + some_of_all k false ps))))
        (sym (of_parts.of_row k true p ps))
        ∙ ap (λ m. saturated (slice_index counts k + (y * some_of_all k true (form_then p ps) + n * m)))
        (sym (of_parts.of_row k false p ps))
