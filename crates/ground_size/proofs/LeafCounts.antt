-- What a walk counts of the leaves of terms is the size of the literal that is lifted over them.
use Rattle.std.proofs.Common.{
  ◌≡◌,
  ℕ,
  suc,
  ◌+◌,
  ◌*◌,
  ◌<◌,
  ◌≤◌,
  Bool,
  true,
  false,
  ◌==◌,
  ◌&&◌,
  cond,
  List,
  [],
  ◌∷◌,
  ◌++◌,
  length,
  map,
  refl,
  sym,
  ap,
  ◌∙◌,
  arith,
  ⊎_elim,
}
use Rattle.std.specs.Prelude.{slice_index}
use Rattle.std.proofs.lemmas.Bool.{cases_eq, eq-eqb, ne_eqb, cond-false}
use Rattle.std.proofs.lemmas.List.{length-append, length-map}
use Rattle.std.proofs.Math.Nat.{add-mul, suc-mul, mul-suc, mul-zero, zero-mul}
use Rattle.fol_formula.specs.Syntax.{
  FormTree,
  TermTree,
  TermTrees,
  top,
  bottom,
  rel,
  equal,
  negation,
  conjunction,
  disjunction,
  implication,
  equivalence,
  for_all,
  for_some,
  app,
  ite,
  term_then,
  forms_of,
}
use Rattle.fol_formula.specs.Counts.{saturated}
use Rattle.fol_nnf.specs.Normal.{
  Leaf,
  given,
  made,
  behind,
  joined,
  leaf_form,
  any_of,
  alone,
  one_of,
  literal,
  relation_literal,
  equal_literal,
  normal,
  leaves,
  leaves_of_terms,
}
use Rattle.ground_size.specs.Sizes.{instance_nodes, all_instance_nodes}
use Rattle.ground_size.specs.Leaves.{AreSigned, AreLeaves, AreSizesOf, AreLeavesOf}
use Rattle.ground_size.specs.Leaves.{nodes_of_each, condition_nodes, literal_nodes}
use Rattle.ground_size.specs.declared.signed.SignedCount.{SignedCount}
use Rattle.ground_size.specs.declared.leaves.LeafCount.{LeafCount}
use Rattle.ground_size.proofs.Saturated.{sat-sat, plus-alike, times-alike}

module _ (counts : List ℕ) where
  abbrev pub nodes : FormTree → ℕ
  nodes p = instance_nodes counts p

  abbrev pub conditions : {A : Type 0} → List (Leaf A) → ℕ
  conditions ls = condition_nodes counts ls

  nodes-append : (cs ds : List FormTree) → nodes_of_each counts (cs ++ ds)
      ≡ nodes_of_each counts cs + nodes_of_each counts ds
  nodes-append [] ds = omega arith
  nodes-append (c ∷ cs) ds = let h = nodes-append cs ds in omega (arith, h)

  conditions-append : {A : Type 0} (ls ms : List (Leaf A)) → conditions (ls ++ ms) ≡ conditions ls + conditions ms
  conditions-append [] ms = omega arith
  conditions-append (l ∷ ls) ms = let h = conditions-append ls ms in omega (arith, h)

  conditions-made : {A B : Type 0} (f : A → B) (ls : List (Leaf A)) → conditions (map (made f) ls) ≡ conditions ls
  conditions-made f [] = refl
  conditions-made f (l ∷ ls) = ap (λ n. nodes_of_each counts l.0 + n) (conditions-made f ls)

  conditions-given : {A : Type 0} (c : FormTree) (ls : List (Leaf A)) → conditions (map (given c) ls)
      ≡ length ls * nodes c + conditions ls
  conditions-given c [] = let e = zero-mul (nodes c) in omega (arith, e)
  conditions-given c (l ∷ ls) = let h = conditions-given c ls in let e = suc-mul (length ls) (nodes c) in omega
      (arith, h, e)

  conditions-behind : {A B C : Type 0} (f : A → B → C) (l : Leaf A) (ms : List (Leaf B))
      → conditions (map (behind f l) ms) ≡ nodes_of_each counts l.0 * length ms + conditions ms
  conditions-behind f l [] = let e = mul-zero (nodes_of_each counts l.0) in omega (arith, e)
  conditions-behind f l (m ∷ ms) =
      let h = conditions-behind f l ms in
      let e = mul-suc (nodes_of_each counts l.0) (length ms) in
      let d = nodes-append l.0 m.0 in
      omega (arith, h, e, d)

  length-joined : {A B C : Type 0} (f : A → B → C) (ls : List (Leaf A)) (ms : List (Leaf B)) → length (joined f ls ms)
      ≡ length ls * length ms
  length-joined f [] ms = sym (zero-mul (length ms))
  length-joined f (l ∷ ls) ms =
      let h = length-joined f ls ms in
      let e = suc-mul (length ls) (length ms) in
      let d = length-map ms (behind f l) in
      let a = length-append (map (behind f l) ms) (joined f ls ms) in
      omega (arith, h, e, d, a)

  conditions-joined : {A B C : Type 0} (f : A → B → C) (ls : List (Leaf A)) (ms : List (Leaf B))
      → conditions (joined f ls ms) ≡ conditions ls * length ms + length ls * conditions ms
  conditions-joined f [] ms = let e = zero-mul (length ms) in let d = zero-mul (conditions ms) in omega (arith, e, d)
  conditions-joined f (l ∷ ls) ms =
      let h = conditions-joined f ls ms in
      let b = conditions-behind f l ms in
      let a = conditions-append (map (behind f l) ms) (joined f ls ms) in
      let e = add-mul (nodes_of_each counts l.0) (conditions ls) (length ms) in
      let d = suc-mul (length ls) (conditions ms) in
      omega (arith, h, b, a, e, d)

  -- what stands at each leaf is one node
  abbrev AreLiterals : List (Leaf FormTree) → Type 0
  AreLiterals [] = Unit {0}
  AreLiterals (l ∷ ls) = (nodes l.1 ≡ 1) × AreLiterals ls

  literals-made : {A : Type 0} (f : A → FormTree) → ((x : A) → nodes (f x) ≡ 1) → (ls : List (Leaf A))
      → AreLiterals (map (made f) ls)
  literals-made f h [] = tt
  literals-made f h (l ∷ ls) = (h l.1, literals-made f h ls)

  literals-append : (ls ms : List (Leaf FormTree)) → AreLiterals ls → AreLiterals ms → AreLiterals (ls ++ ms)
  literals-append [] ms h i = i
  literals-append (l ∷ ls) ms h i = (h.0, literals-append ls ms h.1 i)

  literals-behind : {A B : Type 0} (f : A → B → FormTree) → ((x : A) (y : B) → nodes (f x y) ≡ 1)
      → (l : Leaf A) (ms : List (Leaf B)) → AreLiterals (map (behind f l) ms)
  literals-behind f h l [] = tt
  literals-behind f h l (m ∷ ms) = (h l.1 m.1, literals-behind f h l ms)

  literals-joined : {A B : Type 0} (f : A → B → FormTree) → ((x : A) (y : B) → nodes (f x y) ≡ 1)
      → (ls : List (Leaf A)) (ms : List (Leaf B)) → AreLiterals (joined f ls ms)
  literals-joined f h [] ms = tt
  literals-joined f h (l ∷ ls) ms = literals-append (map (behind f l) ms) (joined f ls ms) (literals-behind f h l ms)
      (literals-joined f h ls ms)

  some-nodes : (p : FormTree) → 1 ≤ nodes p
  some-nodes top = omega arith
  some-nodes bottom = omega arith
  some-nodes (rel r args) = omega arith
  some-nodes (equal a b) = omega arith
  some-nodes (negation p) = omega arith
  some-nodes (conjunction ps) = omega arith
  some-nodes (disjunction ps) = omega arith
  some-nodes (implication p q) = omega arith
  some-nodes (equivalence p q) = omega arith
  some-nodes (for_all k p) = omega arith
  some-nodes (for_some k p) = some-nodes p

  leaf-nodes : (cs : List FormTree) (q : FormTree) → nodes q ≡ 1 → all_instance_nodes counts (forms_of (cs ++ q ∷ []))
      ≡ nodes_of_each counts cs + 1
  leaf-nodes [] q h = omega (arith, h)
  leaf-nodes (c ∷ cs) q h = let i = leaf-nodes cs q h in omega (arith, i)

  any-nodes : (ls : List (Leaf FormTree)) → AreLiterals ls → all_instance_nodes counts (forms_of (map leaf_form ls))
      ≡ length ls * 2 + conditions ls
  any-nodes [] h = refl
  any-nodes (l ∷ ls) h = let i = any-nodes ls h.1 in let e = leaf-nodes l.0 l.1 h.0 in omega (arith, i, e)

  any_of-nodes : (ls : List (Leaf FormTree)) → AreLiterals ls → nodes (any_of ls) ≡ length ls * 2 + conditions ls + 1
  any_of-nodes ls h = ap (λ n. n + 1) (any-nodes ls h)

  large : (many nodes : ℕ) (b : Bool) → b ≡ false → cond b 1 (many * 2 + nodes + 1) ≡ many * 2 + nodes + 1
  large many nodes b e = cond-false b 1 (many * 2 + nodes + 1) e

  pub one_of-nodes : (ls : List (Leaf FormTree)) → AreLiterals ls → nodes (one_of ls) ≡ literal_nodes (length ls)
      (conditions ls)
  one_of-nodes [] h = refl
  one_of-nodes (l ∷ []) h = one l.0 l.1 h.0
    where
      one : (cs : List FormTree) (q : FormTree) → nodes q ≡ 1 → nodes (alone cs q)
          ≡ literal_nodes 1 (nodes_of_each counts cs + 0)
      one [] q h = h
      one (c ∷ cs) q h =
          let some = some-nodes c in
          let w = (nodes c + nodes_of_each counts cs) + 0 in
          any_of-nodes ((c ∷ cs, q) ∷ []) (h, tt) ∙ sym (large 1 w (w == 0) (ne_eqb w 0 (λ e. omega (arith, some, e))))
  one_of-nodes (l ∷ (m ∷ ls)) h =
      let w = conditions (l ∷ (m ∷ ls)) in
      let n = suc (suc (length ls)) in
      any_of-nodes (l ∷ (m ∷ ls)) h
      ∙ sym (large n w (n == 1 && w == 0) (ap (λ b. b && w == 0) (ne_eqb n 1 (λ e. omega (arith, e)))))

  literal-one : (positive : Bool) (p : FormTree) → nodes p ≡ 1 → nodes (literal positive p) ≡ 1
  literal-one true p h = h
  literal-one false p h = refl

  rel-nodes : (positive : Bool) (r : ℕ) (args : TermTrees) → nodes (normal positive (rel r args))
      ≡ literal_nodes (length (leaves_of_terms args)) (conditions (leaves_of_terms args))
  rel-nodes positive r args =
      let ls = leaves_of_terms args in
      one_of-nodes (map (made (relation_literal positive r)) ls)
      (literals-made (relation_literal positive r) (λ ts. literal-one positive (rel r ts) refl) ls)
      ∙ ap (λ n. literal_nodes n (conditions (map (made (relation_literal positive r)) ls)))
      (length-map ls (made (relation_literal positive r)))
      ∙ ap (literal_nodes (length ls)) (conditions-made (relation_literal positive r) ls)

  equal-nodes : (positive : Bool) (a b : TermTree) → nodes (normal positive (equal a b))
      ≡ literal_nodes (length (leaves a) * length (leaves b))
      (conditions (leaves a) * length (leaves b) + length (leaves a) * conditions (leaves b))
  equal-nodes positive a b =
      let f = equal_literal positive in
      one_of-nodes (joined f (leaves a) (leaves b))
      (literals-joined f (λ s t. literal-one positive (equal s t) refl) (leaves a) (leaves b))
      ∙ ap (λ n. literal_nodes n (conditions (joined f (leaves a) (leaves b)))) (length-joined f (leaves a) (leaves b))
      ∙ ap (literal_nodes (length (leaves a) * length (leaves b))) (conditions-joined f (leaves a) (leaves b))

  -- the same in 64 bits
  same-test : (m n : ℕ) (k : ℕ) → k < 2 → saturated m ≡ saturated n → (m == k) ≡ (n == k)
  same-test m n k lt e =
      ⊎_elim
      (λ is. eq-eqb m k is ∙ sym (eq-eqb n k (omega (arith, is, e, lt))))
      (λ differ. ne_eqb m k differ ∙ sym (ne_eqb n k (λ is. differ (omega (arith, is, e, lt)))))
      (cases_eq m k)

  pub literal-alike : (m n w v : ℕ) → saturated m ≡ saturated n → saturated w ≡ saturated v
      → saturated (literal_nodes m w) ≡ saturated (literal_nodes n v)
  literal-alike m n w v e f =
      let b = n == 1 && v == 0 in
      ap (λ t. saturated (cond (t && w == 0) 1 (m * 2 + w + 1))) (same-test m n 1 (omega arith) e)
      ∙ ap (λ t. saturated (cond (n == 1 && t) 1 (m * 2 + w + 1))) (same-test w v 0 (omega arith) f)
      ∙ by b
    where
      by : (t : Bool) → saturated (cond t 1 (m * 2 + w + 1)) ≡ saturated (cond t 1 (n * 2 + v + 1))
      by true = refl
      by false = omega arith

  pub joined-alike : (m n w v m' n' w' v' : ℕ) → saturated m ≡ saturated m' → saturated n ≡ saturated n' → saturated w
      ≡ saturated w' → saturated v ≡ saturated v'
      → (saturated (m * n) ≡ saturated (m' * n')) × (saturated (w * n + m * v) ≡ saturated (w' * n' + m' * v'))
  joined-alike m n w v m' n' w' v' a b c d = (
    times-alike m m' n n' a b,
    plus-alike (w * n) (w' * n') (m * v) (m' * v') (times-alike w w' n n' c b)
        (times-alike m m' v v' a d),
  )

  -- the arms of the walk
  capped : (x y : ℕ) → x ≡ saturated y → saturated x ≡ saturated y
  capped x y e = ap saturated e ∙ sat-sat y

  pub rel-size : (s : SignedCount) (l : LeafCount) (r : ℕ) (args : TermTrees)
      → AreLeavesOf counts (leaves_of_terms args) l
      → AreSigned s (literal_nodes l.leaves l.conditions) (literal_nodes l.leaves l.conditions)
      → AreSizesOf counts (rel r args) s
  rel-size s l r args h z =
      let alike = literal-alike l.leaves (length (leaves_of_terms args)) l.conditions
      (conditions (leaves_of_terms args)) (capped l.leaves _ h.leaves) (capped l.conditions _ h.conditions) in
      let at = λ (positive : Bool). ap saturated (sym (rel-nodes positive r args)) in
      record { positive = z.positive ∙ alike ∙ at true; negative = z.negative ∙ alike ∙ at false }

  pub equal-size : (s : SignedCount) (l m both : LeafCount) (a b : TermTree)
      → AreLeavesOf counts (leaves a) l → AreLeavesOf counts (leaves b) m
      → AreLeaves both (l.leaves * m.leaves) (l.conditions * m.leaves + l.leaves * m.conditions)
      → AreSigned s (literal_nodes both.leaves both.conditions) (literal_nodes both.leaves both.conditions)
      → AreSizesOf counts (equal a b) s
  equal-size s l m both a b h i j z =
      let e = joined-alike l.leaves m.leaves l.conditions m.conditions _ _ _ _ (capped l.leaves _ h.leaves)
      (capped m.leaves _ i.leaves) (capped l.conditions _ h.conditions) (capped m.conditions _ i.conditions) in
      let alike = literal-alike both.leaves _ both.conditions _ (capped both.leaves _ j.leaves ∙ e.0)
      (capped both.conditions _ j.conditions ∙ e.1) in
      let at = λ (positive : Bool). ap saturated (sym (equal-nodes positive a b)) in
      record { positive = z.positive ∙ alike ∙ at true; negative = z.negative ∙ alike ∙ at false }

  pub app-leaves : (l : LeafCount) (f : ℕ) (args : TermTrees) → AreLeavesOf counts (leaves_of_terms args) l
      → AreLeavesOf counts (leaves (app f args)) l
  app-leaves l f args h = record {
    leaves = h.leaves ∙ ap saturated (sym (length-map (leaves_of_terms args) (made (app f))));
    conditions = h.conditions ∙ ap saturated (sym (conditions-made (app f) (leaves_of_terms args)));
  }

  ite-count : (c : FormTree) (a b : TermTree) → length (leaves (ite c a b)) ≡ length (leaves a) + length (leaves b)
  ite-count c a b =
      let e = length-append (map (given (normal true c)) (leaves a)) (map (given (normal false c)) (leaves b)) in
      let d = length-map (leaves a) (given {A = TermTree} (normal true c)) in
      let f = length-map (leaves b) (given {A = TermTree} (normal false c)) in
      omega (arith, e, d, f)

  ite-conditions : (c : FormTree) (a b : TermTree) → conditions (leaves (ite c a b)) ≡ length (leaves a) * nodes
      (normal true c) + conditions (leaves a) + (length (leaves b) * nodes (normal false c) + conditions (leaves b))
  ite-conditions c a b =
      let e = conditions-append (map (given (normal true c)) (leaves a)) (map (given (normal false c)) (leaves b)) in
      let d = conditions-given (normal true c) (leaves a) in
      let f = conditions-given (normal false c) (leaves b) in
      omega (arith, e, d, f)

  pub ite-leaves : (r l m : LeafCount) (s : SignedCount) (c : FormTree) (a b : TermTree) → AreSizesOf counts c s
      → AreLeavesOf counts (leaves a) l → AreLeavesOf counts (leaves b) m
      → AreLeaves r (l.leaves + m.leaves)
      (l.leaves * s.positive + l.conditions + (m.leaves * s.negative + m.conditions))
      → AreLeavesOf counts (leaves (ite c a b)) r
  ite-leaves r l m s c a b z h i j =
      let lc = capped l.leaves _ h.leaves in
      let mc = capped m.leaves _ i.leaves in
      let lw = capped l.conditions _ h.conditions in
      let mw = capped m.conditions _ i.conditions in
      let sp = capped s.positive _ z.positive in
      let sn = capped s.negative _ z.negative in
      record {
        leaves = j.leaves ∙ plus-alike l.leaves _ m.leaves _ lc mc ∙ ap saturated (sym (ite-count c a b));
        conditions = j.conditions
            ∙ plus-alike (l.leaves * s.positive + l.conditions) _ (m.leaves * s.negative + m.conditions) _
            (plus-alike (l.leaves * s.positive) _ l.conditions _ (times-alike l.leaves _ s.positive _ lc sp) lw)
            (plus-alike (m.leaves * s.negative) _ m.conditions _ (times-alike m.leaves _ s.negative _ mc sn) mw)
            ∙ ap saturated (sym (ite-conditions c a b));
      }

  -- a term in front of a row
  pub then-leaves : (r l m : LeafCount) (t : TermTree) (ts : TermTrees)
      → AreLeavesOf counts (leaves t) l → AreLeavesOf counts (leaves_of_terms ts) m
      → AreLeaves r (l.leaves * m.leaves) (l.conditions * m.leaves + l.leaves * m.conditions)
      → AreLeavesOf counts (leaves_of_terms (term_then t ts)) r
  then-leaves r l m t ts h i j =
      let e = joined-alike l.leaves m.leaves l.conditions m.conditions _ _ _ _ (capped l.leaves _ h.leaves)
      (capped m.leaves _ i.leaves) (capped l.conditions _ h.conditions) (capped m.conditions _ i.conditions) in
      record {
        leaves = j.leaves ∙ e.0 ∙ ap saturated (sym (length-joined term_then (leaves t) (leaves_of_terms ts)));
        conditions = j.conditions ∙ e.1
            ∙ ap saturated (sym (conditions-joined term_then (leaves t) (leaves_of_terms ts)));
      }

  -- under a quantifier of as many terms as its sort has
  pub over : (k n x many z : ℕ) (q : FormTree) → n ≡ slice_index counts k → x ≡ saturated (nodes q)
      → many ≡ saturated (n * x) → z ≡ saturated (many + 1) → z ≡ saturated (slice_index counts k * nodes q + 1)
  over k n x many z q is e f g =
      let all = times-alike n (slice_index counts k) x (nodes q) (ap saturated is) (capped x (nodes q) e) in
      omega (arith, f, g, all)
