-- How many axioms of equality there are, each with at most four nodes.
use Rattle.std.proofs.Common.{
  ◌≡◌,
  ℕ,
  zero,
  suc,
  ◌+◌,
  ◌*◌,
  ◌≤◌,
  true,
  List,
  [],
  ◌∷◌,
  ◌++◌,
  length,
  refl,
  sym,
  ap,
  ◌∙◌,
  subst,
  arith,
}
use Rattle.std.specs.Prelude.{slice_index}
use Rattle.std.proofs.lemmas.List.{length-append}
use Rattle.std.proofs.Math.Nat.{suc-mul, zero-mul, mul-one, mul_assoc, mul_comm}
use Rattle.fol_sig.specs.Tables.{tuple_count}
use Rattle.fol_sig.specs.Symbols.{Symbols, symbols}
use Rattle.fol_sig.specs.Growing.{grown, GrowsBy}
use Rattle.fol_sig.specs.Tuples.{join_below}
use Rattle.fol_nnf.specs.Normal.{normal}
use Rattle.fol_nnf.specs.Laws.{FittingIsKept}
use Rattle.skolem.specs.Constants.{new_sorts}
use Rattle.skolem.specs.Laws.{EachIsSkolemised}
use Rattle.ground_terms.specs.Terms.{term_counts}
use Rattle.ground_terms.specs.TermCounts.{sum_below}
use Rattle.ground_terms.specs.Numberings.{Numbering, numbering}
use Rattle.ground_terms.specs.Trees.{Tree, nodes, nodes_all, trees_of}
use Rattle.equality_axioms.specs.Axioms.{
  join_tuples,
  axioms_at,
  scheme_axioms,
  sort_axioms,
  relation_axioms,
  function_axioms,
}
use Rattle.equality_axioms.specs.declared.scheme.Scheme.TheVariants.{
  Reflexive,
  Symmetric,
  Transitive,
  Relation,
  Function,
}
use Rattle.ground_size.specs.Sizes.{equivalence_axioms, exchanges, congruence_axioms, axiom_count}
use Rattle.ground_size.specs.Laws.{AxiomsAreCounted}
use Rattle.ground_size.proofs.Along.{sum-agree, sum-split, sum-first}
use Rattle.ground_size.proofs.Instances.{nodes-append}

-- so many trees, each with at most four nodes
record AreFew (ts : List Tree) (n : ℕ) : Type 0 where
  count : length ts ≡ n
  small : nodes_all (trees_of ts) ≤ 4 * n

few-as : (ts : List Tree) (m n : ℕ) → m ≡ n → AreFew ts m → AreFew ts n
few-as ts m n e h = subst (AreFew ts) e h

few-none : AreFew [] 0
few-none = record { count = refl; small = omega arith }

few-one : (t : Tree) → nodes t ≤ 4 → AreFew (t ∷ []) 1
few-one t h = record { count = refl; small = omega (arith, h) }

few-append : (ts us : List Tree) (m n : ℕ) → AreFew ts m → AreFew us n → AreFew (ts ++ us) (m + n)
few-append ts us m n h i =
    let e = length-append ts us in
    let d = nodes-append ts us in
    let hc = h.count in
    let ic = i.count in
    let hs = h.small in
    let is = i.small in
    record { count = omega (arith, e, hc, ic); small = omega (arith, d, hs, is) }

few-join : (n : ℕ) (f : ℕ → List Tree) (g : ℕ → ℕ) → ((x : ℕ) → AreFew (f x) (g x))
    → AreFew (join_below n f) (sum_below n g)
few-join zero f g h = few-none
few-join (suc n) f g h = few-append (join_below n f) (f n) (sum_below n g) (g n) (few-join n f g h) (h n)

sum-same : (n m : ℕ) → sum_below n (λ _. m) ≡ n * m
sum-same zero m = sym (zero-mul m)
sum-same (suc n) m = let h = sum-same n m in let e = suc-mul n m in omega (arith, h, e)

few-each : (n m : ℕ) (f : ℕ → List Tree) → ((x : ℕ) → AreFew (f x) m) → AreFew (join_below n f) (n * m)
few-each n m f h = few-as (join_below n f) (sum_below n (λ _. m)) (n * m) (sum-same n m) (few-join n f (λ _. m) h)

few-tuples : (counts ks : List ℕ) (m : ℕ) (f : List ℕ → List Tree) → ((xs : List ℕ) → AreFew (f xs) m)
    → AreFew (join_tuples counts ks f) (tuple_count counts ks * m)
few-tuples counts [] m f h = few-as (f []) m (1 * m) (omega arith) (h [])
few-tuples counts (k ∷ ks) m f h =
    few-as (join_tuples counts (k ∷ ks) f) (slice_index counts k * (tuple_count counts ks * m))
    (slice_index counts k * tuple_count counts ks * m)
    (sym (mul_assoc (slice_index counts k) (tuple_count counts ks) m))
    (few-each (slice_index counts k) (tuple_count counts ks * m) (λ x. join_tuples counts ks (λ xs. f (x ∷ xs)))
    (λ x. few-tuples counts ks m (λ xs. f (x ∷ xs)) (λ xs. h (x ∷ xs))))

module _ (sig : Symbols) (names : Numbering) where
  abbrev size : ℕ → ℕ
  size k = slice_index names.counts k

  few-reflexive : (k : ℕ) (xs : List ℕ) → AreFew (axioms_at sig names (Reflexive (record { 0 = k })) xs) 1
  few-reflexive k xs = few-one _ (omega arith)

  few-symmetric : (k : ℕ) (xs : List ℕ) → AreFew (axioms_at sig names (Symmetric (record { 0 = k })) xs) 1
  few-symmetric k xs = few-one _ (omega arith)

  few-transitive : (k : ℕ) (xs : List ℕ) → AreFew (axioms_at sig names (Transitive (record { 0 = k })) xs) 1
  few-transitive k xs = few-one _ (omega arith)

  powers : (n : ℕ) → (n * 1) * 1 + ((n * (n * 1)) * 1 + (n * (n * (n * 1))) * 1) ≡ equivalence_axioms n
  powers n =
      let a = mul-one n in
      let b = mul-one (n * 1) in
      let c = ap (λ m. n * m) a in
      let d = mul-one (n * (n * 1)) in
      let e = ap (λ m. n * m) c in
      let f = mul-one (n * (n * (n * 1))) in
      let g = mul_assoc n n n in
      omega (arith, a, b, c, d, e, f, g)

  few-sort : (k : ℕ) → AreFew (sort_axioms sig names k) (equivalence_axioms (size k))
  few-sort k =
      few-as (sort_axioms sig names k) _ (equivalence_axioms (size k)) (powers (size k))
      (few-append (scheme_axioms sig names (Reflexive (record { 0 = k }))) _ _ _
      (few-tuples names.counts (k ∷ []) 1 (axioms_at sig names (Reflexive (record { 0 = k }))) (few-reflexive k))
      (few-append (scheme_axioms sig names (Symmetric (record { 0 = k })))
      (scheme_axioms sig names (Transitive (record { 0 = k }))) _ _
      (few-tuples names.counts (k ∷ k ∷ []) 1 (axioms_at sig names (Symmetric (record { 0 = k }))) (few-symmetric k))
      (few-tuples names.counts (k ∷ k ∷ k ∷ []) 1 (axioms_at sig names (Transitive (record { 0 = k })))
      (few-transitive k))))

  exchanges-sum : (t : ℕ) (ks : List ℕ) → sum_below (length ks) (λ i. t * (size (slice_index ks i) * 1))
      ≡ exchanges names.counts t ks
  exchanges-sum t [] = refl
  exchanges-sum t (k ∷ ks) =
      let h = exchanges-sum t ks in
      let e = sum-first (length ks) (λ i. t * (size (slice_index (k ∷ ks) i) * 1)) in
      let d = ap (λ m. t * m) (mul-one (size k)) in
      let c = mul_comm t (size k) in
      omega (arith, h, e, d, c)

  few-relation : (r : ℕ) → AreFew (relation_axioms sig names r) (congruence_axioms names.counts (sig.sorts_of r))
  few-relation r =
      let ks = sig.sorts_of r in
      let t = tuple_count names.counts ks in
      few-as (relation_axioms sig names r) (sum_below (length ks) (λ i. t * (size (slice_index ks i) * 1))) _
      (exchanges-sum t ks)
      (few-join (length ks) (λ i. scheme_axioms sig names (Relation (record { 0 = r }) i))
      (λ i. t * (size (slice_index ks i) * 1)) (λ i.
      few-tuples names.counts ks (size (slice_index ks i) * 1) (axioms_at sig names (Relation (record { 0 = r }) i))
      (λ xs. few-each (size (slice_index ks i)) 1 _ (λ y. few-one _ (omega arith)))))

  few-function : (f : ℕ) → AreFew (function_axioms sig names f) (congruence_axioms names.counts (sig.from_of f))
  few-function f =
      let ks = sig.from_of f in
      let t = tuple_count names.counts ks in
      few-as (function_axioms sig names f) (sum_below (length ks) (λ i. t * (size (slice_index ks i) * 1))) _
      (exchanges-sum t ks)
      (few-join (length ks) (λ i. scheme_axioms sig names (Function (record { 0 = f }) i))
      (λ i. t * (size (slice_index ks i) * 1)) (λ i.
      few-tuples names.counts ks (size (slice_index ks i) * 1) (axioms_at sig names (Function (record { 0 = f }) i))
      (λ xs. few-each (size (slice_index ks i)) 1 _ (λ y. few-one _ (omega arith)))))

-- the constants behind the functions have no arguments, so no axioms
functions-grown : (counts : List ℕ) (sig more : Symbols) (ks : List ℕ) → GrowsBy sig ks more
    → sum_below more.functions (λ f. congruence_axioms counts (more.from_of f))
    ≡ sum_below sig.functions (λ f. congruence_axioms counts (sig.from_of f))
functions-grown counts sig more ks g =
    let a : ℕ → ℕ = λ f. congruence_axioms counts (more.from_of f) in
    let old = sum-agree sig.functions a (λ f. congruence_axioms counts (sig.from_of f))
    (λ f lt. ap (congruence_axioms counts) (g.grows.from_of f lt)) in
    let new = sum-agree (length ks) (λ i. a (sig.functions + i)) (λ _. 0)
    (λ i lt. ap (congruence_axioms counts)
    (g.grows.new_from (sig.functions + i) (omega arith) (let e = g.count in omega (arith, e, lt)))) in
    let none = sum-same (length ks) 0 in
    let zero_there : length ks * 0 ≡ 0 = omega arith in
    let split = sum-split sig.functions (length ks) a in
    ap (λ n. sum_below n a) g.count ∙ omega (arith, old, new, none, zero_there, split)

pub axioms-counted : FittingIsKept → EachIsSkolemised → AxiomsAreCounted
axioms-counted kept skolems sig p lists sorted fits closed =
    let ks = new_sorts (normal true p) in
    let more = symbols (grown sig ks) in
    let names = numbering more lists in
    let counts = term_counts lists in
    let g = (skolems sig (normal true p) (kept (symbols sig) [] true p fits)).grows in
    let functions = functions-grown counts (symbols sig) more ks g in
    let sorts = sum_below sig.sorts (λ k. equivalence_axioms (slice_index counts k)) in
    let relations = sum_below (length sig.relations) (λ r. congruence_axioms counts ((symbols sig).sorts_of r)) in
    let few : AreFew _ (axiom_count (symbols sig) counts) =
    few-as _ _ _ (ap (λ n. sorts + (relations + n)) functions)
    (few-append (join_below more.sorts (sort_axioms more names)) _ _ _
    (few-join more.sorts (sort_axioms more names) (λ k. equivalence_axioms (slice_index counts k))
    (few-sort more names))
    (few-append (join_below more.relations (relation_axioms more names))
    (join_below more.functions (function_axioms more names)) _ _
    (few-join more.relations (relation_axioms more names) (λ r. congruence_axioms counts (more.sorts_of r))
    (few-relation more names))
    (few-join more.functions (function_axioms more names) (λ f. congruence_axioms counts (more.from_of f))
    (few-function more names)))) in
    record { count = few.count; nodes = few.small }
