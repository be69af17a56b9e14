-- What stands in a sentence is shared out among its nodes, from the sentence down: of each sort, what is counted and
-- what is still to be counted stay the same in all.
use Rattle.std.proofs.Common.{◌≡◌, ℕ, zero, suc, ◌+◌, ◌*◌, ◌<◌, ◌≤◌, true, false, ◌==◌, cond, List, length, replicate}
use Rattle.std.proofs.Common.{refl, sym, ap, ◌∙◌, subst, arith, ⊎_elim}
use Rattle.std.specs.Prelude.{slice_index}
use Rattle.std.proofs.lemmas.Bool.{cases_eq, eq-eqb, ne_eqb}
use Rattle.std.proofs.lemmas.List.{length-set, get_or-set_same, get_or-set_other, get_or-replicate}
use Rattle.std.proofs.Math.Nat.{mul-add, add-mul, mul-zero, zero-mul, mul-suc, mul-one, one-mul}
use Rattle.fol_formula.specs.Syntax.{FormTree, FormTrees, negation, implication, equivalence}
use Rattle.fol_formula.specs.Syntax.{form_then}
use Rattle.fol_formula.specs.Counts.{saturated}
use Rattle.fol_pool.specs.Trees.{Tree, a_form, some_forms, tree_at, form_at, forms_at, IsAt}
use Rattle.fol_pool.specs.Shapes.{tree_of, IsOver, PartsAreBelow}
use Rattle.fol_pool.specs.declared.shape.Shape.{Shape}
use Rattle.fol_pool.specs.declared.shape.Shape.TheVariants as shape
use Rattle.ground_size.specs.Existentials.{some, some_of_all, ExistentialsAreOfParts}
use Rattle.ground_size.specs.Walks.{raised_at}
use Rattle.ground_size.specs.declared.signed.SignedCount.{SignedCount}
use Rattle.pool_size.specs.Existentials.{some_in, some_times, some_below, nowhere, entry, together, turned}
use Rattle.pool_size.specs.Existentials.{both_ways, with_more, with_parts, with_quantifier, IsSharedOut, AreAwaited}

-- a sum that is cut at the greatest number of 64 bits, so many times
cut-times : (a b m : ℕ) → saturated (saturated (a + b) * m) ≡ saturated (a * m + b * m)
cut-times a b zero =
    let e = mul-zero (saturated (a + b)) in
    let f = mul-zero a in
    let g = mul-zero b in
    omega (arith, e, f, g)
cut-times a b (suc m) =
    let h = cut-times a b m in
    let e = mul-suc (saturated (a + b)) m in
    let f = mul-suc a m in
    let g = mul-suc b m in
    omega (arith, e, f, g, h)

two_cut : (x y a b c d : ℕ) → saturated x ≡ saturated (a + b) → saturated y ≡ saturated (c + d)
    → saturated (x + y) ≡ saturated ((a + c) + (b + d))
two_cut x y a b c d h i = omega (arith, h, i)

length-more : (table : List SignedCount) (j : ℕ) (x : SignedCount) → length (with_more table j x) ≡ length table
length-more table j x = length-set table j (together (entry table j) x)

-- a quantifier that counts m times
at-raised : (counts : List ℕ) (q m k : ℕ) → k < length counts → saturated (slice_index (raised_at counts q m) k)
    ≡ saturated (slice_index counts k + m * cond (q == k) 1 0)
at-raised counts q m k inside =
    ⊎_elim
    (λ e.
    let s = get_or-set_same counts q (saturated (slice_index counts q + m)) 0
    (subst (λ j. j < length counts) (sym e) inside) in
    let one = ap (λ b. m * cond b 1 0) (eq-eqb q q refl) ∙ mul-one m in
    subst (λ j. saturated (slice_index (raised_at counts q m) j)
    ≡ saturated (slice_index counts j + m * cond (q == j) 1 0)) e (omega (arith, s, one)))
    (λ differ.
    let s = get_or-set_other counts q k (saturated (slice_index counts q + m)) 0 (λ e. differ (sym e)) in
    let none = ap (λ b. m * cond b 1 0) (ne_eqb q k differ) ∙ mul-zero m in
    omega (arith, s, none))
    (cases_eq q k)

module _ (k : ℕ) (ts : List Tree) where
  -- a node stands as often as both say
  times-more : (t : Tree) (s x : SignedCount)
      → saturated (some_times k t (together s x)) ≡ saturated (some_times k t s + some_times k t x)
  times-more t s x =
      let p = some_in k true t in
      let n = some_in k false t in
      two_cut (saturated (s.positive + x.positive) * p) (saturated (s.negative + x.negative) * n) (s.positive * p)
      (x.positive * p) (s.negative * n) (x.negative * n) (cut-times s.positive x.positive p)
      (cut-times s.negative x.negative n)

  -- the nodes before the one that stands more often
  below-kept : (table : List SignedCount) (j : ℕ) (x : SignedCount) (n : ℕ) → n ≤ j
      → some_below k ts (with_more table j x) n ≡ some_below k ts table n
  below-kept table j x zero le = refl
  below-kept table j x (suc n) le =
      let h = below-kept table j x n (omega (arith, le)) in
      let differ : n ≡ j → ⊥ = λ e. omega (arith, e, le) in
      let s = ap (some_times k (tree_at ts n)) (get_or-set_other table j n (together (entry table j) x) nowhere
      differ) in
      omega (arith, h, s)

  -- a node among the first n stands more often
  below-more : (table : List SignedCount) (j : ℕ) (x : SignedCount) (n : ℕ) → j < n → j < length table
      → saturated (some_below k ts (with_more table j x) n)
      ≡ saturated (some_below k ts table n + some_times k (tree_at ts j) x)
  below-more table j x zero lt inside = absurd (omega (arith, lt))
  below-more table j x (suc n) lt inside =
      let new = together (entry table j) x in
      ⊎_elim
      (λ e. subst (λ m. saturated (some_below k ts (with_more table j x) (suc m))
      ≡ saturated (some_below k ts table (suc m) + some_times k (tree_at ts j) x)) e
      (let h = below-kept table j x j (omega arith) in
      let s = ap (some_times k (tree_at ts j)) (get_or-set_same table j new nowhere
      inside) in
      let m = times-more (tree_at ts j) (entry table j) x in
      omega (arith, h, s, m)))
      (λ differ.
      let h = below-more table j x n (omega (arith, lt, differ)) inside in
      let s = ap (some_times k (tree_at ts n)) (get_or-set_other table j n new nowhere
      (λ e. differ (sym e))) in
      omega (arith, h, s))
      (cases_eq j n)

  more-at : (table : List SignedCount) (j : ℕ) (t : Tree) (x : SignedCount) (n : ℕ) → IsAt ts j t → j < n
      → n ≤ length table
      → saturated (some_below k ts (with_more table j x) n) ≡ saturated (some_below k ts table n + some_times k t x)
  more-at table j t x n at lt le =
      let h = below-more table j x n lt (omega (arith, lt, le)) in
      let e = ap (λ u. some_times k u x) at.1 in
      omega (arith, h, e)

  -- a second node stands more often, too
  more-at-both : (table : List SignedCount) (i j : ℕ) (t u : Tree) (x y : SignedCount) (n : ℕ) → IsAt ts i t
      → IsAt ts j u → i < n → j < n → n ≤ length table
      → saturated (some_below k ts (with_more (with_more table i x) j y) n)
      ≡ saturated (some_below k ts table n + (some_times k t x + some_times k u y))
  more-at-both table i j t u x y n at bt lt lu le =
      let long = length-more table i x in
      let first = more-at table i t x n at lt le in
      let second = more-at (with_more table i x) j u y n bt lu (omega (arith, le, long)) in
      omega (arith, first, second)

  -- what nothing is counted of
  none : (c z y n : ℕ) → saturated (c + z) ≡ saturated (c + z + (y * 0 + n * 0))
  none c z y n = let e = mul-zero y in let f = mul-zero n in omega (arith, e, f)

  module _ (parts : ExistentialsAreOfParts) where
    turned-negation : (p : FormTree) (s : SignedCount)
        → some_times k (a_form (negation p)) s ≡ some_times k (a_form p) (turned s)
    turned-negation p s = omega arith

    of-implication : (p q : FormTree) (s : SignedCount) → some_times k (a_form (implication p q)) s
        ≡ some_times k (a_form p) (turned s) + some_times k (a_form q) s
    of-implication p q s =
        let a = ap (λ m. s.positive * m) (parts.of_implication k true p q) in
        let b = ap (λ m. s.negative * m) (parts.of_implication k false p q) in
        let c = mul-add s.positive (some k false p) (some k true q) in
        let d = mul-add s.negative (some k true p) (some k false q) in
        omega (arith, a, b, c, d)

    of-row : (p : FormTree) (ps : FormTrees) (s : SignedCount) → some_times k (some_forms (form_then p ps)) s
        ≡ some_times k (a_form p) s + some_times k (some_forms ps) s
    of-row p ps s =
        let a = ap (λ m. s.positive * m) (parts.of_row k true p ps) in
        let b = ap (λ m. s.negative * m) (parts.of_row k false p ps) in
        let c = mul-add s.positive (some k true p) (some_of_all k true ps) in
        let d = mul-add s.negative (some k false p) (some_of_all k false ps) in
        omega (arith, a, b, c, d)

    -- a side of an equivalence, as it is and negated
    side : (p : FormTree) (s : SignedCount) → saturated (some_times k (a_form p) (both_ways s))
        ≡ saturated ((s.positive + s.negative) * (some k true p + some k false p))
    side p s =
        let y = s.positive in
        let n = s.negative in
        let a = some k true p in
        let b = some k false p in
        let e = two_cut (saturated (y + n) * a) (saturated (y + n) * b) (y * a) (n * a) (y * b) (n * b)
        (cut-times y n a) (cut-times y n b) in
        let f = mul-add (y + n) a b in
        let g = add-mul y n a in
        let h = add-mul y n b in
        omega (arith, e, f, g, h)

    of-equivalence : (p q : FormTree) (s : SignedCount) → saturated (some_times k (a_form (equivalence p q)) s)
        ≡ saturated (some_times k (a_form p) (both_ways s) + some_times k (a_form q) (both_ways s))
    of-equivalence p q s =
        let y = s.positive in
        let n = s.negative in
        let c = some k true p + some k false p in
        let d = some k true q + some k false q in
        let a = ap (λ m. y * m) (parts.of_equivalence k true p q) in
        let b = ap (λ m. n * m) (parts.of_equivalence k false p q) in
        let e = side p s in
        let f = side q s in
        let g = add-mul y n (c + d) in
        let h = mul-add (y + n) c d in
        omega (arith, a, b, e, f, g, h)

    pub shared : (shape : Shape) (s : SignedCount) (counts : List ℕ) (table : List SignedCount) (n : ℕ)
        → IsOver ts shape → PartsAreBelow n shape → n ≤ length table → k < length counts
        → saturated (slice_index (with_quantifier shape s counts) k + some_below k ts (with_parts shape s table) n)
        ≡ saturated (slice_index counts k + some_below k ts table n + some_times k (tree_of ts shape) s)
    shared shape.True s counts table n over below le lt =
        none (slice_index counts k) (some_below k ts table n) s.positive s.negative
    shared shape.False s counts table n over below le lt =
        none (slice_index counts k) (some_below k ts table n) s.positive s.negative
    shared (shape.Rel r args) s counts table n over below le lt =
        none (slice_index counts k) (some_below k ts table n) s.positive s.negative
    shared (shape.Eq a b) s counts table n over below le lt =
        none (slice_index counts k) (some_below k ts table n) s.positive s.negative
    shared (shape.Not p) s counts table n over below le lt =
        let h = more-at table p.0 (a_form (form_at ts p.0)) (turned s) n over below le in
        let e = turned-negation (form_at ts p.0) s in
        omega (arith, h, e)
    shared (shape.And ps) s counts table n over below le lt =
        let h = more-at table ps.0 (some_forms (forms_at ts ps.0)) s n over below le in
        omega (arith, h)
    shared (shape.Or ps) s counts table n over below le lt =
        let h = more-at table ps.0 (some_forms (forms_at ts ps.0)) s n over below le in
        omega (arith, h)
    shared (shape.Implies p q) s counts table n over below le lt =
        let h = more-at-both table p.0 q.0 (a_form (form_at ts p.0)) (a_form (form_at ts q.0)) (turned s) s n over.0
        over.1 below.0 below.1 le in
        let e = of-implication (form_at ts p.0) (form_at ts q.0) s in
        omega (arith, h, e)
    shared (shape.Iff p q) s counts table n over below le lt =
        let h = more-at-both table p.0 q.0 (a_form (form_at ts p.0)) (a_form (form_at ts q.0)) (both_ways s)
        (both_ways s) n over.0 over.1 below.0 below.1 le in
        let e = of-equivalence (form_at ts p.0) (form_at ts q.0) s in
        omega (arith, h, e)
    shared (shape.Forall q p) s counts table n over below le lt =
        let p' = form_at ts p.0 in
        let one = cond (q.0 == k) 1 0 in
        let h = more-at table p.0 (a_form p') s n over below le in
        let g = at-raised counts q.0 s.negative k lt in
        let e = mul-add s.negative one (some k false p') in
        omega (arith, h, g, e)
    shared (shape.Exists q p) s counts table n over below le lt =
        let p' = form_at ts p.0 in
        let one = cond (q.0 == k) 1 0 in
        let h = more-at table p.0 (a_form p') s n over below le in
        let g = at-raised counts q.0 s.positive k lt in
        let e = mul-add s.positive one (some k true p') in
        omega (arith, h, g, e)
    shared shape.NoForms s counts table n over below le lt =
        none (slice_index counts k) (some_below k ts table n) s.positive s.negative
    shared (shape.FormThen p ps) s counts table n over below le lt =
        let h = more-at-both table p.0 ps.0 (a_form (form_at ts p.0)) (some_forms (forms_at ts ps.0)) s s n over.0
        over.1 below.0 below.1 le in
        let e = of-row (form_at ts p.0) (forms_at ts ps.0) s in
        omega (arith, h, e)
    shared (shape.Bound i) s counts table n over below le lt =
        none (slice_index counts k) (some_below k ts table n) s.positive s.negative
    shared (shape.App f args) s counts table n over below le lt =
        none (slice_index counts k) (some_below k ts table n) s.positive s.negative
    shared (shape.Ite p a b) s counts table n over below le lt =
        none (slice_index counts k) (some_below k ts table n) s.positive s.negative
    shared shape.NoTerms s counts table n over below le lt =
        none (slice_index counts k) (some_below k ts table n) s.positive s.negative
    shared (shape.TermThen t rest) s counts table n over below le lt =
        none (slice_index counts k) (some_below k ts table n) s.positive s.negative

-- no node stands anywhere
none-below : (k : ℕ) (ts : List Tree) (m n : ℕ) → n ≤ m → some_below k ts (replicate m nowhere) n ≡ 0
none-below k ts m zero le = refl
none-below k ts m (suc n) le =
    let h = none-below k ts m n (omega (arith, le)) in
    let t = tree_at ts n in
    let e = ap (some_times k t) (get_or-replicate m n nowhere nowhere (omega (arith, le))) in
    let f = zero-mul (some_in k true t) in
    let g = zero-mul (some_in k false t) in
    omega (arith, h, e, f, g)

-- the sentence is shared out, where nothing is counted yet
pub awaited-first : (ts : List Tree) (sorts n : ℕ) (p : FormTree) (counts counts' : List ℕ)
    (table table' : List SignedCount) → counts ≡ replicate sorts 0 → table ≡ replicate n nowhere
    → sorts ≡ length counts → tree_at ts n ≡ a_form p
    → IsSharedOut ts n (tree_at ts n) (record { positive = 1; negative = 0 }) counts table counts' table'
    → AreAwaited sorts p ts counts' table' n
awaited-first ts sorts n p counts counts' table table' zeros nothing long is h k lt =
    let step = h k (omega (arith, lt, long)) in
    let a = ap (λ ns. slice_index ns k) zeros ∙ get_or-replicate sorts k 0 0 lt in
    let b = ap (λ t. some_below k ts t n) nothing ∙ none-below k ts n n (omega arith) in
    let e = ap (λ t. some_times k t (record { positive = 1; negative = 0 })) is in
    let f = one-mul (some k true p) in
    let g = zero-mul (some k false p) in
    omega (arith, step, a, b, e, f, g)

-- the last of the nodes that are left is shared out
pub awaited-next : (ts : List Tree) (sorts n : ℕ) (p : FormTree) (counts counts' : List ℕ)
    (table table' : List SignedCount) (s : SignedCount) → s ≡ entry table n → sorts ≡ length counts
    → IsSharedOut ts n (tree_at ts n) s counts table counts' table' → AreAwaited sorts p ts counts table (suc n)
    → AreAwaited sorts p ts counts' table' n
awaited-next ts sorts n p counts counts' table table' s is long h old k lt =
    let step = h k (omega (arith, lt, long)) in
    let whole = old k lt in
    let e = ap (some_times k (tree_at ts n)) is in
    omega (arith, step, whole, e)
