-- What the axioms say where they are true.
use Rattle.std.proofs.Common.{
  ◌≡◌,
  ℕ,
  zero,
  suc,
  ◌<◌,
  Bool,
  true,
  false,
  not,
  ◌&&◌,
  ◌||◌,
  List,
  [],
  ◌∷◌,
  ◌++◌,
  length,
  get_or,
  set,
  refl,
  subst,
  arith,
  ⊎_elim,
}
use Rattle.std.proofs.lemmas.Bool.{and_parts, and_from, cases_lt}
use Rattle.fol_sig.specs.declared.Sort.{Sort}
use Rattle.fol_sig.specs.declared.RelId.{RelId}
use Rattle.fol_sig.specs.Tables.{InRange}
use Rattle.fol_sig.specs.Symbols.{Symbols}
use Rattle.fol_sig.specs.Tuples.{join_below}
use Rattle.ground_terms.specs.Numberings.{Numbering, numbering}
use Rattle.ground_terms.specs.Trees.{Tree, truth, all_true, trees_of}
use Rattle.ground_terms.specs.declared.atom.Atom.{Atom}
use Rattle.ground_terms.specs.declared.atom.Atom.TheVariants.{Rel, Eq}
use Rattle.equality_axioms.specs.declared.scheme.Scheme.{Scheme}
use Rattle.equality_axioms.specs.declared.scheme.Scheme.TheVariants.{
  Reflexive,
  Symmetric,
  Transitive,
  Relation,
  Function,
}
use Rattle.equality_axioms.specs.Axioms.{
  join_tuples,
  equation,
  scheme_sorts,
  relation_at,
  function_at,
  axioms_at,
  scheme_axioms,
  sort_axioms,
  relation_axioms,
  function_axioms,
  axioms_of,
}
use Rattle.equality_axioms.specs.Laws.{IsEquality, AxiomsGiveEquality}

one_premise : (p c : Bool) → (not p || (c || false)) && true ≡ true → p ≡ true → c ≡ true
one_premise true true h e = refl
one_premise true false h e = h
one_premise false true h e = refl
one_premise false false h e = e

two_premises : (p q c : Bool) → (not p || (not q || (c || false))) && true ≡ true → p ≡ true → q ≡ true → c ≡ true
two_premises true q c h d e = one_premise q c h e
two_premises false q true h d e = refl
two_premises false q false h d e = d

module _ (a : Atom → Bool) where
  abbrev AreTrue : List Tree → Type 0
  AreTrue ps = all_true a (trees_of ps) ≡ true

  true-left : (ps qs : List Tree) → AreTrue (ps ++ qs) → AreTrue ps
  true-left [] qs h = refl
  true-left (p ∷ ps) qs h =
      let both = and_parts (truth a p) (all_true a (trees_of (ps ++ qs))) h in
      and_from (truth a p) (all_true a (trees_of ps)) both.0 (true-left ps qs both.1)

  true-right : (ps qs : List Tree) → AreTrue (ps ++ qs) → AreTrue qs
  true-right [] qs h = h
  true-right (p ∷ ps) qs h = true-right ps qs (and_parts (truth a p) (all_true a (trees_of (ps ++ qs))) h).1

  true-at : (n : ℕ) (f : ℕ → List Tree) (x : ℕ) → AreTrue (join_below n f) → x < n → AreTrue (f x)
  true-at zero f x h lt = absurd (omega arith)
  true-at (suc n) f x h lt =
      ⊎_elim
      (λ less. true-at n f x (true-left (join_below n f) (f n) h) less)
      (λ last. let e : n ≡ x = omega arith in subst (λ z. AreTrue (f z)) e (true-right (join_below n f) (f n) h))
      (cases_lt x n)

  true-at_tuple : (sizes ks : List ℕ) (f : List ℕ → List Tree) (xs : List ℕ) → AreTrue (join_tuples sizes ks f)
      → InRange sizes ks xs → AreTrue (f xs)
  true-at_tuple sizes [] f [] h r = h
  true-at_tuple sizes [] f (x ∷ xs) h r = absurd r
  true-at_tuple sizes (k ∷ ks) f [] h r = absurd r
  true-at_tuple sizes (k ∷ ks) f (x ∷ xs) h r =
      true-at_tuple sizes ks (λ ys. f (x ∷ ys)) xs
      (true-at (get_or sizes k 0) (λ y. join_tuples sizes ks (λ ys. f (y ∷ ys))) x h r.0) r.1

module _ (sig : Symbols) (names : Numbering) (a : Atom → Bool) (h : AreTrue a (axioms_of sig names)) where
  sort-true : (k : ℕ) → k < sig.sorts → AreTrue a (sort_axioms sig names k)
  sort-true k lt =
      true-at a sig.sorts (sort_axioms sig names) k
      (true-left a (join_below sig.sorts (sort_axioms sig names))
      (join_below sig.relations (relation_axioms sig names) ++ join_below sig.functions (function_axioms sig names))
      h) lt

  symbols-true : AreTrue a
      (join_below sig.relations (relation_axioms sig names) ++ join_below sig.functions (function_axioms sig names))
  symbols-true =
      true-right a (join_below sig.sorts (sort_axioms sig names))
      (join_below sig.relations (relation_axioms sig names) ++ join_below sig.functions (function_axioms sig names)) h

  scheme-at : (s : Scheme) (xs : List ℕ) → AreTrue a (scheme_axioms sig names s)
      → InRange names.counts (scheme_sorts sig s) xs → AreTrue a (axioms_at sig names s xs)
  scheme-at s xs t r = true-at_tuple a names.counts (scheme_sorts sig s) (axioms_at sig names s) xs t r

  reflexive-true : (k : Sort) → k.0 < sig.sorts → AreTrue a (scheme_axioms sig names (Reflexive k))
  reflexive-true k lt =
      true-left a (scheme_axioms sig names (Reflexive k))
      (scheme_axioms sig names (Symmetric k) ++ scheme_axioms sig names (Transitive k)) (sort-true k.0 lt)

  others-true : (k : Sort) → k.0 < sig.sorts
      → AreTrue a (scheme_axioms sig names (Symmetric k) ++ scheme_axioms sig names (Transitive k))
  others-true k lt =
      true-right a (scheme_axioms sig names (Reflexive k))
      (scheme_axioms sig names (Symmetric k) ++ scheme_axioms sig names (Transitive k)) (sort-true k.0 lt)

  relation-true : (r : RelId) (i : ℕ) → r.0 < sig.relations → i < length (sig.sorts_of r.0)
      → AreTrue a (scheme_axioms sig names (Relation r i))
  relation-true r i lt l =
      true-at a (length (sig.sorts_of r.0)) (λ j. scheme_axioms sig names (Relation r j)) i
      (true-at a sig.relations (relation_axioms sig names) r.0
      (true-left a (join_below sig.relations (relation_axioms sig names))
      (join_below sig.functions (function_axioms sig names)) symbols-true) lt) l

  function-true : (f i : ℕ) → f < sig.functions → i < length (sig.from_of f)
      → AreTrue a (scheme_axioms sig names (Function (record { 0 = f }) i))
  function-true f i lt l =
      true-at a (length (sig.from_of f)) (λ j. scheme_axioms sig names (Function (record { 0 = f }) j)) i
      (true-at a sig.functions (function_axioms sig names) f
      (true-right a (join_below sig.relations (relation_axioms sig names))
      (join_below sig.functions (function_axioms sig names)) symbols-true) lt) l

  pub equality : IsEquality sig names a
  equality = record {
    reflexive = λ k x lt lx.
        (and_parts (a (Eq k x x)) true (scheme-at (Reflexive k) (x ∷ []) (reflexive-true k lt) (lx, tt))).0;
    symmetric = λ k x y lt lx ly.
        one_premise (a (Eq k x y)) (a (Eq k y x)) (scheme-at (Symmetric k) (x ∷ y ∷ [])
        (true-left a (scheme_axioms sig names (Symmetric k)) (scheme_axioms sig names (Transitive k))
        (others-true k lt)) (lx, (ly, tt)));
    transitive = λ k x y z lt lx ly lz.
        two_premises (a (Eq k x y)) (a (Eq k y z)) (a (Eq k x z)) (scheme-at (Transitive k) (x ∷ y ∷ z ∷ [])
        (true-right a (scheme_axioms sig names (Symmetric k)) (scheme_axioms sig names (Transitive k))
        (others-true k lt)) (lx, (ly, (lz, tt))));
    relations = λ r i xs y lt l inside ly.
        let k = get_or (sig.sorts_of r.0) i 0 in
        two_premises (a (equation k (get_or xs i 0) y)) (a (Rel r xs)) (a (Rel r (set xs i y)))
        (true-at a (get_or names.counts k 0) (λ z. relation_at sig r.0 i xs z ∷ []) y
        (scheme-at (Relation r i) xs (relation-true r i lt l) inside) ly);
    functions = λ f i xs y lt l inside ly.
        let k = get_or (sig.from_of f) i 0 in
        one_premise (a (equation k (get_or xs i 0) y))
        (a (equation (sig.into_of f) (names.place f xs) (names.place f (set xs i y))))
        (true-at a (get_or names.counts k 0) (λ z. function_at sig names f i xs z ∷ []) y
        (scheme-at (Function (record { 0 = f }) i) xs (function-true f i lt l) inside) ly);
  }

pub axioms_give_equality : AxiomsGiveEquality
axioms_give_equality sig lists a h = equality sig (numbering sig lists) a h
