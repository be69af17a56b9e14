-- The k-th of the ways through some paths to n others, which those paths go on with that do not end in abort.
use Rattle.std.proofs.Common.{◌≡◌, inl, inr, ℕ, zero, suc, ◌+◌, ◌-◌, ◌<◌, ◌≤◌, Bool, true, false, ◌||◌, cond, nat_lt}
use Rattle.std.proofs.Common.{Some, None, List, [], ◌∷◌, ◌++◌, length, map, refl, sym, ap, ◌∙◌, arith}
use Rattle.std.proofs.Common.{slice_get}
use Rattle.std.proofs.lemmas.Bool.{cases_lt, lt-ltb, le-ltb, or_parts}
use Rattle.std.specs.List.{flat_map}
use Rattle.rml_command.specs.Trees.{PrimitiveTree}
use Rattle.rml_command.specs.Paths.{is_abort, has_abort}
use Rattle.branches.specs.declared.mark.Mark.{Mark}
use Rattle.branches.specs.Marked.{MarkedPath, joined, marked_on}
use Rattle.branches.specs.Stages.{marks_in}
use Rattle.branches.specs.Search.{Found, found, behind, then_along}

-- a path of two parts has the aborts of both
pub has_abort-append : (p q : List PrimitiveTree) → has_abort p ≡ false → has_abort (p ++ q) ≡ has_abort q
has_abort-append [] q e = refl
has_abort-append (x ∷ p) q e =
    let both = or_parts (is_abort x) (has_abort p) e in
    ap (λ b. b || has_abort (p ++ q)) both.0 ∙ has_abort-append p q both.1

abbrev pub aborts : MarkedPath → Bool
aborts p = has_abort p.primitives

-- how many ways go through a path
abbrev share_by : Bool → ℕ → ℕ
share_by b n = cond b 1 n

abbrev pub share : MarkedPath → ℕ → ℕ
share p n = share_by (aborts p) n

abbrev pub weight : List MarkedPath → ℕ → ℕ
weight [] n = 0
weight (p ∷ ps) n = share p n + weight ps n

abbrev taken_by : Bool → List Mark → ℕ → Found
taken_by b marks k = found marks (cond b None (Some k))

abbrev taken : MarkedPath → ℕ → Found
taken p k = taken_by (aborts p) p.marks k

abbrev pub pick : List MarkedPath → ℕ → ℕ → Found
pick [] n k = found [] None
pick (p ∷ ps) n k = cond (nat_lt k (share p n)) (taken p k) (pick ps n (k - share p n))

pub cond_below : {X : Type 0} (k s : ℕ) (a b : X) → k < s → cond (nat_lt k s) a b ≡ a
cond_below k s a b h = ap (λ t. cond t a b) (lt-ltb k s h)

pub cond_above : {X : Type 0} (k s : ℕ) (a b : X) → s ≤ k → cond (nat_lt k s) a b ≡ b
cond_above k s a b h = ap (λ t. cond t a b) (le-ltb k s h)

-- ---- lists one behind another

pub weight-append : (xs ys : List MarkedPath) (n : ℕ) → weight (xs ++ ys) n ≡ weight xs n + weight ys n
weight-append [] ys n = omega arith
weight-append (x ∷ xs) ys n = let h = weight-append xs ys n in omega (arith, h)

pub pick-left : (xs ys : List MarkedPath) (n k : ℕ) → k < weight xs n → pick (xs ++ ys) n k ≡ pick xs n k
pick-left [] ys n k h = absurd (omega (arith, h))
pick-left (x ∷ xs) ys n k h = elim (cases_lt k (share x n)) as
    (λ _. cond (nat_lt k (share x n)) (taken x k) (pick (xs ++ ys) n (k - share x n))
    ≡ cond (nat_lt k (share x n)) (taken x k) (pick xs n (k - share x n))) [
      | inl in_first ↦ cond_below k (share x n) _ _ in_first ∙ sym (cond_below k (share x n) _ _ in_first)
      | inr later ↦ ap (λ z. cond (nat_lt k (share x n)) (taken x k) z)
          (pick-left xs ys n (k - share x n) (omega (arith, h, later)))
    ]

pub pick-right : (xs ys : List MarkedPath) (n k : ℕ) → weight xs n ≤ k → pick (xs ++ ys) n k
    ≡ pick ys n (k - weight xs n)
pick-right [] ys n k h = ap (λ j. pick ys n j) (omega arith)
pick-right (x ∷ xs) ys n k h =
    cond_above k (share x n) _ _ (omega (arith, h))
    ∙ pick-right xs ys n (k - share x n) (omega (arith, h))
    ∙ ap (λ j. pick ys n j) (omega (arith, h))

-- ---- paths behind another one

module _ (p : MarkedPath) (on : aborts p ≡ false) where
  aborts-joined : (q : MarkedPath) → aborts (joined p q) ≡ aborts q
  aborts-joined q = has_abort-append p.primitives q.primitives on

  pub weight-joined : (xs : List MarkedPath) (n : ℕ) → weight (map (joined p) xs) n ≡ weight xs n
  weight-joined [] n = refl
  weight-joined (x ∷ xs) n =
      let a : share (joined p x) n ≡ share x n = ap (λ b. share_by b n) (aborts-joined x) in
      let h = weight-joined xs n in
      omega (arith, a, h)

  pub pick-joined : (xs : List MarkedPath) (n k : ℕ) → k < weight xs n
      → pick (map (joined p) xs) n k ≡ behind p.marks (pick xs n k)
  pick-joined [] n k h = absurd (omega (arith, h))
  pick-joined (x ∷ xs) n k h =
      let a : share (joined p x) n ≡ share x n = ap (λ b. share_by b n) (aborts-joined x) in
      let t : taken (joined p x) k ≡ behind p.marks (taken x k) =
      ap (λ b. taken_by b (p.marks ++ x.marks) k) (aborts-joined x) in
      ap (λ s. cond (nat_lt k s) (taken (joined p x) k) (pick (map (joined p) xs) n (k - s))) a
      ∙ (elim (cases_lt k (share x n)) as
      (λ _. cond (nat_lt k (share x n)) (taken (joined p x) k) (pick (map (joined p) xs) n (k - share x n))
      ≡ behind p.marks (cond (nat_lt k (share x n)) (taken x k) (pick xs n (k - share x n)))) [
        | inl in_first ↦ cond_below k (share x n) _ _ in_first ∙ t
            ∙ ap (behind p.marks) (sym (cond_below k (share x n) _ _ in_first))
        | inr later ↦ cond_above k (share x n) _ _ later
            ∙ pick-joined xs n (k - share x n) (omega (arith, h, later))
            ∙ ap (behind p.marks) (sym (cond_above k (share x n) _ _ later))
      ])

-- ---- paths that go on with others

module _ (rest : List MarkedPath) (n : ℕ) where
  onward : Bool → MarkedPath → List MarkedPath
  onward b p = cond b (p ∷ []) (map (joined p) rest)

  weight-onward : (p : MarkedPath) (b : Bool) → aborts p ≡ b
      → weight (cond b (p ∷ []) (map (joined p) rest)) n ≡ share_by b (weight rest n)
  weight-onward p true e = let h : share p n ≡ 1 = ap (λ b. share_by b n) e in omega (arith, h)
  weight-onward p false e = weight-joined p e rest n

  weight-on : (p : MarkedPath) → weight (marked_on rest p) n ≡ share p (weight rest n)
  weight-on p = weight-onward p (aborts p) refl

  pick-onward : (p : MarkedPath) (b : Bool) (k : ℕ) → aborts p ≡ b → k < share_by b (weight rest n)
      → pick (cond b (p ∷ []) (map (joined p) rest)) n k ≡ then_along (taken_by b p.marks k) (pick rest n)
  pick-onward p true k e h =
      let one : share p n ≡ 1 = ap (λ b. share_by b n) e in
      cond_below k (share p n) _ _ (omega (arith, one, h)) ∙ ap (λ b. taken_by b p.marks k) e
  pick-onward p false k e h = pick-joined p e rest n k h

  pub weight-all_on : (xs : List MarkedPath) → weight (flat_map (marked_on rest) xs) n ≡ weight xs (weight rest n)
  weight-all_on [] = refl
  weight-all_on (x ∷ xs) =
      let a = weight-append (marked_on rest x) (flat_map (marked_on rest) xs) n in
      let b = weight-on x in
      let c = weight-all_on xs in
      omega (arith, a, b, c)

  pub pick-all_on : (xs : List MarkedPath) (k : ℕ) → k < weight xs (weight rest n)
      → pick (flat_map (marked_on rest) xs) n k ≡ then_along (pick xs (weight rest n) k) (pick rest n)
  pick-all_on [] k h = absurd (omega (arith, h))
  pick-all_on (x ∷ xs) k h =
      let w = weight rest n in
      let a = weight-on x in
      elim (cases_lt k (share x w)) as
      (λ _. pick (marked_on rest x ++ flat_map (marked_on rest) xs) n k
      ≡ then_along (cond (nat_lt k (share x w)) (taken x k) (pick xs w (k - share x w))) (pick rest n)) [
        | inl in_first ↦
            pick-left (marked_on rest x) (flat_map (marked_on rest) xs) n k (omega (arith, a, in_first))
            ∙ pick-onward x (aborts x) k refl in_first
            ∙ ap (λ f. then_along f (pick rest n)) (sym (cond_below k (share x w) _ _ in_first))
        | inr later ↦
            pick-right (marked_on rest x) (flat_map (marked_on rest) xs) n k (omega (arith, a, later))
            ∙ ap (λ s. pick (flat_map (marked_on rest) xs) n (k - s)) a
            ∙ pick-all_on xs (k - share x w) (omega (arith, h, later))
            ∙ ap (λ f. then_along f (pick rest n)) (sym (cond_above k (share x w) _ _ later))
      ]

-- ---- what is picked is among what the paths go on with

pub same_along : (f g : ℕ → Found) (xs : List MarkedPath) (n k : ℕ) → ((j : ℕ) → j < n → j ≤ k → f j ≡ g j)
    → then_along (pick xs n k) f ≡ then_along (pick xs n k) g
same_along f g [] n k same = refl
same_along f g (x ∷ xs) n k same = elim (cases_lt k (share x n)) as
    (λ _. then_along (pick (x ∷ xs) n k) f ≡ then_along (pick (x ∷ xs) n k) g) [
      | inl in_first ↦
          let e = cond_below k (share x n) (taken x k) (pick xs n (k - share x n)) in_first in
          ap (λ z. then_along z f) e ∙ each (aborts x) in_first ∙ sym (ap (λ z. then_along z g) e)
      | inr later ↦
          let e = cond_above k (share x n) (taken x k) (pick xs n (k - share x n)) later in
          ap (λ z. then_along z f) e
          ∙ same_along f g xs n (k - share x n) (λ j lt le. same j lt (omega (arith, le)))
          ∙ sym (ap (λ z. then_along z g) e)
    ]
  where
    each : (b : Bool) → k < share_by b n → then_along (taken_by b x.marks k) f ≡ then_along (taken_by b x.marks k) g
    each true h = refl
    each false h = ap (behind x.marks) (same k h (omega arith))

-- ---- to one path behind

share-one : (b : Bool) → share_by b 1 ≡ 1
share-one true = refl
share-one false = refl

pub weight-one : (xs : List MarkedPath) → weight xs 1 ≡ length xs
weight-one [] = refl
weight-one (x ∷ xs) = let a = share-one (aborts x) in let h = weight-one xs in omega (arith, a, h)

pub pick-one : (xs : List MarkedPath) (k : ℕ) → (pick xs 1 k).marks ≡ marks_in (slice_get xs k)
pick-one [] zero = refl
pick-one [] (suc k) = refl
pick-one (x ∷ xs) zero =
    ap (λ s. (cond (nat_lt 0 s) (taken x 0) (pick xs 1 (0 - s))).marks) (share-one (aborts x))
pick-one (x ∷ xs) (suc k) =
    let over : cond (nat_lt (suc k) 1) (taken x (suc k)) (pick xs 1 (suc k - 1)) ≡ pick xs 1 (suc k - 1) =
    cond_above (suc k) 1 _ _ (omega arith) in
    let less : suc k - 1 ≡ k = omega arith in
    ap (λ s. (cond (nat_lt (suc k) s) (taken x (suc k)) (pick xs 1 (suc k - s))).marks) (share-one (aborts x))
    ∙ ap (λ f. f.marks) (over ∙ ap (λ j. pick xs 1 j) less)
    ∙ pick-one xs k
