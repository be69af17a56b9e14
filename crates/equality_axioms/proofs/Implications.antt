-- Each axiom is a clause with one positive literal, and each atom of an axiom stands positive in one.
use Rattle.std.proofs.Common.{◌≡◌, ℕ, zero, suc, ◌<◌, true, List, [], ◌∷◌, ◌++◌, length, get_or, set}
use Rattle.std.proofs.Common.{refl, ap, subst, arith, ⊎_elim, length-append}
use Rattle.std.proofs.lemmas.Bool.{cases_lt, or_cases, or_left, or_right, false≢true}
use Rattle.std.proofs.lemmas.List.{set-get_or}
use Rattle.fol_sig.specs.declared.Sort.{Sort}
use Rattle.fol_sig.specs.declared.RelId.{RelId}
use Rattle.fol_sig.specs.Tables.{InRange}
use Rattle.fol_sig.specs.Symbols.{Symbols, AreSorted}
use Rattle.fol_sig.specs.Ranges.{RangesAreAlong}
use Rattle.fol_sig.specs.Tuples.{join_below}
use Rattle.ground_terms.specs.Terms.{Lists, AreClosed, term_counts}
use Rattle.ground_terms.specs.Numberings.{Numbering, numbering, IsPlaced}
use Rattle.ground_terms.specs.Same.{same_atom, holds_in}
use Rattle.ground_terms.specs.Trees.{Tree, trees_of}
use Rattle.ground_terms.specs.Literals.{IsFlat, AreFlat, IsOver, AreOver, positives, all_positives}
use Rattle.ground_terms.specs.declared.atom.Atom.{Atom}
use Rattle.ground_terms.specs.declared.atom.Atom.TheVariants.{Rel, Eq}
use Rattle.equality_axioms.specs.declared.scheme.Scheme.{Scheme}
use Rattle.equality_axioms.specs.declared.scheme.Scheme.TheVariants.{Reflexive, Symmetric, Transitive, Relation}
use Rattle.equality_axioms.specs.declared.scheme.Scheme.TheVariants.{Function}
use Rattle.equality_axioms.specs.Axioms.{join_tuples, scheme_sorts, relation_at, function_at, axioms_at}
use Rattle.equality_axioms.specs.Axioms.{scheme_axioms, sort_axioms, relation_axioms, function_axioms, axioms_of}
use Rattle.equality_axioms.specs.Walk.{IsSchemeOf}
use Rattle.equality_axioms.specs.Laws.{AxiomsAreImplications}
use Rattle.equality_axioms.proofs.Elements.{exchanged}

-- what holds of each axiom
module _ (P : Tree → Type 0) where
  abbrev Each : List Tree → Type 0
  Each [] = Unit {0}
  Each (p ∷ ps) = P p × Each ps

  each-append : (ps qs : List Tree) → Each ps → Each qs → Each (ps ++ qs)
  each-append [] qs h k = k
  each-append (p ∷ ps) qs h k = (h.0, each-append ps qs h.1 k)

  each-left : (ps qs : List Tree) → Each (ps ++ qs) → Each ps
  each-left [] qs h = tt
  each-left (p ∷ ps) qs h = (h.0, each-left ps qs h.1)

  each-right : (ps qs : List Tree) → Each (ps ++ qs) → Each qs
  each-right [] qs h = h
  each-right (p ∷ ps) qs h = each-right ps qs h.1

  each-below : (n : ℕ) (f : ℕ → List Tree) → ((x : ℕ) → x < n → Each (f x)) → Each (join_below n f)
  each-below zero f h = tt
  each-below (suc n) f h =
      each-append (join_below n f) (f n) (each-below n f (λ x lt. h x (omega arith))) (h n (omega arith))

  each-at : (n : ℕ) (f : ℕ → List Tree) (x : ℕ) → Each (join_below n f) → x < n → Each (f x)
  each-at zero f x h lt = absurd (omega arith)
  each-at (suc n) f x h lt =
      ⊎_elim
      (λ less. each-at n f x (each-left (join_below n f) (f n) h) less)
      (λ last. let e : n ≡ x = omega arith in subst (λ z. Each (f z)) e (each-right (join_below n f) (f n) h))
      (cases_lt x n)

  each-tuples : (sizes ks : List ℕ) (f : List ℕ → List Tree) → ((xs : List ℕ) → InRange sizes ks xs → Each (f xs))
      → Each (join_tuples sizes ks f)
  each-tuples sizes [] f h = h [] tt
  each-tuples sizes (k ∷ ks) f h =
      each-below (get_or sizes k 0) (λ x. join_tuples sizes ks (λ xs. f (x ∷ xs)))
      (λ x lt. each-tuples sizes ks (λ xs. f (x ∷ xs)) (λ xs r. h (x ∷ xs) (lt, r)))

  each-at_tuple : (sizes ks : List ℕ) (f : List ℕ → List Tree) (xs : List ℕ) → Each (join_tuples sizes ks f)
      → InRange sizes ks xs → Each (f xs)
  each-at_tuple sizes [] f [] h r = h
  each-at_tuple sizes [] f (x ∷ xs) h r = absurd r
  each-at_tuple sizes (k ∷ ks) f [] h r = absurd r
  each-at_tuple sizes (k ∷ ks) f (x ∷ xs) h r =
      each-at_tuple sizes ks (λ ys. f (x ∷ ys)) xs
      (each-at (get_or sizes k 0) (λ y. join_tuples sizes ks (λ ys. f (y ∷ ys))) x h r.0) r.1

  module _ (sig : Symbols) (names : Numbering) where
    -- all axioms from those of each scheme at each tuple
    each-axiom : ((s : Scheme) (xs : List ℕ) → IsSchemeOf sig s → InRange names.counts (scheme_sorts sig s) xs
        → Each (axioms_at sig names s xs)) → Each (axioms_of sig names)
    each-axiom h =
        let scheme : (s : Scheme) → IsSchemeOf sig s → Each (scheme_axioms sig names s) =
        λ s is. each-tuples names.counts (scheme_sorts sig s) (axioms_at sig names s) (λ xs r. h s xs is r) in
        each-append (join_below sig.sorts (sort_axioms sig names))
        (join_below sig.relations (relation_axioms sig names) ++ join_below sig.functions (function_axioms sig names))
        (each-below sig.sorts (sort_axioms sig names) (λ k lt.
        let q : Sort = record { 0 = k } in
        each-append (scheme_axioms sig names (Reflexive q))
        (scheme_axioms sig names (Symmetric q) ++ scheme_axioms sig names (Transitive q)) (scheme (Reflexive q) lt)
        (each-append (scheme_axioms sig names (Symmetric q)) (scheme_axioms sig names (Transitive q))
        (scheme (Symmetric q) lt) (scheme (Transitive q) lt))))
        (each-append (join_below sig.relations (relation_axioms sig names))
        (join_below sig.functions (function_axioms sig names))
        (each-below sig.relations (relation_axioms sig names) (λ r lt.
        each-below (length (sig.sorts_of r)) (λ i. scheme_axioms sig names (Relation (record { 0 = r }) i))
        (λ i l. scheme (Relation (record { 0 = r }) i) (lt, l))))
        (each-below sig.functions (function_axioms sig names) (λ f lt.
        each-below (length (sig.from_of f)) (λ i. scheme_axioms sig names (Function (record { 0 = f }) i))
        (λ i l. scheme (Function (record { 0 = f }) i) (lt, l)))))

    module _ (all : Each (axioms_of sig names)) where
      symbols-each : Each
          (join_below sig.relations (relation_axioms sig names) ++ join_below sig.functions (function_axioms sig names))
      symbols-each =
          each-right (join_below sig.sorts (sort_axioms sig names))
          (join_below sig.relations (relation_axioms sig names) ++ join_below sig.functions (function_axioms sig names))
          all

      sort-each : (k : ℕ) → k < sig.sorts → Each (sort_axioms sig names k)
      sort-each k lt =
          each-at sig.sorts (sort_axioms sig names) k
          (each-left (join_below sig.sorts (sort_axioms sig names))
          (join_below sig.relations (relation_axioms sig names) ++ join_below sig.functions (function_axioms sig names))
          all) lt

      -- the axioms of symmetry and of a relation's congruence at a tuple
      symmetric-at : (k x y : ℕ) → k < sig.sorts → x < get_or names.counts k 0 → y < get_or names.counts k 0
          → Each (axioms_at sig names (Symmetric (record { 0 = k })) (x ∷ y ∷ []))
      symmetric-at k x y lt lx ly =
          let q : Sort = record { 0 = k } in
          each-at_tuple names.counts (k ∷ k ∷ []) (axioms_at sig names (Symmetric q)) (x ∷ y ∷ [])
          (each-left (scheme_axioms sig names (Symmetric q)) (scheme_axioms sig names (Transitive q))
          (each-right (scheme_axioms sig names (Reflexive q))
          (scheme_axioms sig names (Symmetric q) ++ scheme_axioms sig names (Transitive q)) (sort-each k lt)))
          (lx, (ly, tt))

      relation-at : (r : RelId) (i : ℕ) (xs : List ℕ) (y : ℕ) → r.0 < sig.relations → i < length (sig.sorts_of r.0)
          → InRange names.counts (sig.sorts_of r.0) xs → y < get_or names.counts (get_or (sig.sorts_of r.0) i 0) 0
          → Each (relation_at sig r.0 i xs y ∷ [])
      relation-at r i xs y lt l inside ly =
          each-at (get_or names.counts (get_or (sig.sorts_of r.0) i 0) 0) (λ z. relation_at sig r.0 i xs z ∷ []) y
          (each-at_tuple names.counts (sig.sorts_of r.0) (axioms_at sig names (Relation r i)) xs
          (each-at (length (sig.sorts_of r.0)) (λ j. scheme_axioms sig names (Relation r j)) i
          (each-at sig.relations (relation_axioms sig names) r.0
          (each-left (join_below sig.relations (relation_axioms sig names))
          (join_below sig.functions (function_axioms sig names)) symbols-each) lt) l) inside) ly

-- the positive atoms of a formula are among these
abbrev Among : List Atom → List Atom → Type 0
Among all [] = Unit {0}
Among all (a ∷ xs) = (holds_in all a ≡ true) × Among all xs

holds-left : (xs bs : List Atom) (a : Atom) → holds_in xs a ≡ true → holds_in (xs ++ bs) a ≡ true
holds-left [] bs a h = absurd (false≢true h)
holds-left (b ∷ xs) bs a h =
    ⊎_elim
    (λ here. or_left (same_atom a b) (holds_in (xs ++ bs) a) here)
    (λ later. or_right (same_atom a b) (holds_in (xs ++ bs) a) (holds-left xs bs a later))
    (or_cases (same_atom a b) (holds_in xs a) h)

holds-right : (xs bs : List Atom) (a : Atom) → holds_in bs a ≡ true → holds_in (xs ++ bs) a ≡ true
holds-right [] bs a h = h
holds-right (b ∷ xs) bs a h = or_right (same_atom a b) (holds_in (xs ++ bs) a) (holds-right xs bs a h)

among-more : (all xs : List Atom) (front : List Atom) → Among all xs → Among (front ++ all) xs
among-more all [] front h = tt
among-more all (a ∷ xs) front h = (holds-right front all a h.0, among-more all xs front h.1)

module _ (same : (a : Atom) → same_atom a a ≡ true) where
  among-own : (xs bs : List Atom) → Among (xs ++ bs) xs
  among-own [] bs = tt
  among-own (a ∷ xs) bs = (
    or_left (same_atom a a) (holds_in (xs ++ bs) a) (same a),
    among-more (xs ++ bs) xs (a ∷ []) (among-own xs bs),
  )

  all-among : (ps : List Tree) (front : List Atom)
      → Each (λ t. Among (front ++ all_positives (trees_of ps)) (positives t)) ps
  all-among [] front = tt
  all-among (p ∷ ps) front =
      let rest = all_positives (trees_of ps) in (
        among-more (positives p ++ rest) (positives p) front (among-own (positives p) rest),
        subst (λ xs. Each (λ t. Among xs (positives t)) ps) (append-3 front (positives p) rest)
            (all-among ps (front ++ positives p)),
      )
    where
      append-3 : (xs bs cs : List Atom) → (xs ++ bs) ++ cs ≡ xs ++ (bs ++ cs)
      append-3 [] bs cs = refl
      append-3 (a ∷ xs) bs cs = ap (λ zs. a ∷ zs) (append-3 xs bs cs)

  module _ (along : RangesAreAlong) (sig : Symbols) (names : Numbering) (sorted : AreSorted sig)
      (placed : (f : ℕ) (xs : List ℕ) → f < sig.functions → InRange names.counts (sig.from_of f) xs
      → names.place f xs < get_or names.counts (sig.into_of f) 0) where
    abbrev all : List Atom
    all = all_positives (trees_of (axioms_of sig names))

    abbrev Has : Atom → Type 0
    Has a = holds_in all a ≡ true

    each-among : Each (λ t. Among all (positives t)) (axioms_of sig names)
    each-among = all-among (axioms_of sig names) []

    has-equation : (k x y : ℕ) → k < sig.sorts → x < get_or names.counts k 0 → y < get_or names.counts k 0
        → Has (Eq (record { 0 = k }) x y)
    has-equation k x y lt lx ly =
        (symmetric-at (λ t. Among all (positives t)) sig names each-among k y x lt ly lx).0.0

    has-exchanged : (r : RelId) (i : ℕ) (xs : List ℕ) (y : ℕ) → r.0 < sig.relations → i < length (sig.sorts_of r.0)
        → InRange names.counts (sig.sorts_of r.0) xs → y < get_or names.counts (get_or (sig.sorts_of r.0) i 0) 0
        → Has (Rel r (set xs i y))
    has-exchanged r i xs y lt l inside ly =
        (relation-at (λ t. Among all (positives t)) sig names each-among r i xs y lt l inside ly).0.0

    -- the axioms of a scheme are over the positive atoms
    over-at : (s : Scheme) (xs : List ℕ) → IsSchemeOf sig s → InRange names.counts (scheme_sorts sig s) xs
        → Each (IsOver all) (axioms_at sig names s xs)
    over-at (Reflexive k) [] is r = absurd r
    over-at (Reflexive k) (x ∷ []) is r = (has-equation k.0 x x is r.0 r.0, tt)
    over-at (Reflexive k) (x ∷ (y ∷ ys)) is r = absurd r.1
    over-at (Symmetric k) [] is r = absurd r
    over-at (Symmetric k) (x ∷ []) is r = absurd r.1
    over-at (Symmetric k) (x ∷ (y ∷ [])) is r =
        ((has-equation k.0 x y is r.0 r.1.0, (has-equation k.0 y x is r.1.0 r.0, tt)), tt)
    over-at (Symmetric k) (x ∷ (y ∷ (z ∷ zs))) is r = absurd r.1.1
    over-at (Transitive k) [] is r = absurd r
    over-at (Transitive k) (x ∷ []) is r = absurd r.1
    over-at (Transitive k) (x ∷ (y ∷ [])) is r = absurd r.1.1
    over-at (Transitive k) (x ∷ (y ∷ (z ∷ []))) is r = (
      (
        has-equation k.0 x y is r.0 r.1.0,
        (
          has-equation k.0 y z is r.1.0 r.1.1.0,
          (has-equation k.0 x z is r.0 r.1.1.0, tt),
        ),
      ),
      tt,
    )
    over-at (Transitive k) (x ∷ (y ∷ (z ∷ (w ∷ ws)))) is r = absurd r.1.1.1
    over-at (Relation r i) xs is inside =
        let ks = sig.sorts_of r.0 in
        let k = get_or ks i 0 in
        let is_sort = sorted.relations r.0 is.0 i 0 is.1 in
        let lx = (along names.counts ks xs inside).each i is.1 in
        each-below (IsOver all) (get_or names.counts k 0) (λ y. relation_at sig r.0 i xs y ∷ []) (λ y ly. (
          (
            has-equation k (get_or xs i 0) y is_sort lx ly,
            (
              subst (λ ys. Has (Rel r ys)) (set-get_or xs i 0)
                  (has-exchanged r i xs (get_or xs i 0) is.0 is.1 inside lx),
              (has-exchanged r i xs y is.0 is.1 inside ly, tt),
            ),
          ),
          tt,
        ))
    over-at (Function f i) xs is inside =
        let ks = sig.from_of f.0 in
        let k = get_or ks i 0 in
        let is_sort = sorted.functions f.0 is.0 i 0 is.1 in
        let lx = (along names.counts ks xs inside).each i is.1 in
        each-below (IsOver all) (get_or names.counts k 0) (λ y. function_at sig names f.0 i xs y ∷ []) (λ y ly. (
          (
            has-equation k (get_or xs i 0) y is_sort lx ly,
            (
              has-equation (sig.into_of f.0) (names.place f.0 xs) (names.place f.0 (set xs i y))
                  (sorted.into f.0 is.0) (placed f.0 xs is.0 inside)
                  (placed f.0 (set xs i y) is.0 (exchanged names.counts ks xs i y inside ly is.1)),
              tt,
            ),
          ),
          tt,
        ))

    over : AreOver all (trees_of (axioms_of sig names))
    over = from-each (axioms_of sig names) (each-axiom (IsOver all) sig names over-at)
      where
        from-each : (ps : List Tree) → Each (IsOver all) ps → AreOver all (trees_of ps)
        from-each [] h = tt
        from-each (p ∷ ps) h = (h.0, from-each ps h.1)

-- each axiom is a clause with one positive literal
record IsImplication (t : Tree) : Type 0 where
  flat : IsFlat t
  single : length (positives t) ≡ 1

implications-at : (sig : Symbols) (names : Numbering) (s : Scheme) (xs : List ℕ) → IsSchemeOf sig s
    → InRange names.counts (scheme_sorts sig s) xs → Each IsImplication (axioms_at sig names s xs)
implications-at sig names (Reflexive k) xs is r = (record { flat = tt; single = refl }, tt)
implications-at sig names (Symmetric k) xs is r = (record { flat = tt; single = refl }, tt)
implications-at sig names (Transitive k) xs is r = (record { flat = tt; single = refl }, tt)
implications-at sig names (Relation r i) xs is inside =
    each-below IsImplication (get_or names.counts (get_or (sig.sorts_of r.0) i 0) 0)
    (λ y. relation_at sig r.0 i xs y ∷ []) (λ y ly. (record { flat = tt; single = refl }, tt))
implications-at sig names (Function f i) xs is inside =
    each-below IsImplication (get_or names.counts (get_or (sig.from_of f.0) i 0) 0)
    (λ y. function_at sig names f.0 i xs y ∷ []) (λ y ly. (record { flat = tt; single = refl }, tt))

flat-from : (ps : List Tree) → Each IsImplication ps → AreFlat ps
flat-from [] h = tt
flat-from (p ∷ ps) h = (h.0.flat, flat-from ps h.1)

single-from : (ps : List Tree) → Each IsImplication ps → length (all_positives (trees_of ps)) ≡ length ps
single-from [] h = refl
single-from (p ∷ ps) h =
    let one = h.0.single in
    let rest = single-from ps h.1 in
    let both = length-append (positives p) (all_positives (trees_of ps)) in
    omega (arith, one, rest, both)

pub axioms_are_implications : ((a : Atom) → same_atom a a ≡ true) → RangesAreAlong
    → ((sig : Symbols) (lists : Lists) (f : ℕ) (xs : List ℕ) → AreSorted sig → AreClosed sig lists → f < sig.functions
    → InRange (term_counts lists) (sig.from_of f) xs → IsPlaced sig lists f xs)
    → AxiomsAreImplications
axioms_are_implications same along placed sig lists sorted closed =
    let names = numbering sig lists in
    let each = each-axiom IsImplication sig names (implications-at sig names) in
    record {
      flat = flat-from (axioms_of sig names) each;
      single = single-from (axioms_of sig names) each;
      over = over same along sig names sorted (λ f xs lt r. (placed sig lists f xs sorted closed lt r).within);
    }
