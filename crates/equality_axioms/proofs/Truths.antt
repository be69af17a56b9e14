-- The truth of the axioms.
use Rattle.std.proofs.Common.{◌≡◌, ℕ, zero, suc, ◌<◌, Bool, true, false, not, ◌&&◌, ◌||◌, List, [], ◌∷◌, ◌++◌, length}
use Rattle.std.proofs.Common.{get_or, set, refl, sym, ap, ◌∙◌, arith}
use Rattle.std.proofs.lemmas.Bool.{and_parts, and_from, eqb-true, eq-eqb}
use Rattle.fol_sig.specs.declared.Sort.{Sort}
use Rattle.fol_sig.specs.declared.RelId.{RelId}
use Rattle.fol_sig.specs.declared.FunId.{FunId}
use Rattle.fol_sig.specs.Tables.{Tables, InRange, reading}
use Rattle.fol_sig.specs.Symbols.{Symbols, AreSorted}
use Rattle.fol_sig.specs.Ranges.{RangesAreAlong}
use Rattle.fol_sig.specs.Tuples.{join_below}
use Rattle.ground_terms.specs.Terms.{Lists, AreClosed, term_counts}
use Rattle.ground_terms.specs.Numberings.{Numbering, numbering, IsPlaced}
use Rattle.ground_terms.specs.Trees.{Tree, truth, all_true, trees_of}
use Rattle.ground_terms.specs.Values.{Elements, elements_of, Realises, StructuresGiveValues, term_values, atoms_in}
use Rattle.ground_terms.specs.declared.atom.Atom.{Atom}
use Rattle.ground_terms.specs.declared.atom.Atom.TheVariants.{Rel, Eq}
use Rattle.equality_axioms.specs.declared.scheme.Scheme.TheVariants.{Reflexive, Symmetric, Transitive, Relation}
use Rattle.equality_axioms.specs.declared.scheme.Scheme.TheVariants.{Function}
use Rattle.equality_axioms.specs.Axioms.{join_tuples, relation_at, function_at, axioms_at, scheme_axioms, sort_axioms}
use Rattle.equality_axioms.specs.Axioms.{relation_axioms, function_axioms, axioms_of}
use Rattle.equality_axioms.specs.Laws.{AxiomsAreTrue, StructuresSatisfyAxioms}
use Rattle.equality_axioms.proofs.Elements.{exchanged}

-- the place of an application is one of its sort
abbrev IsNumbered : Symbols → Numbering → Type 0
IsNumbered sig names = (f : ℕ) (xs : List ℕ) → f < sig.functions → InRange names.counts (sig.from_of f) xs
    → names.place f xs < get_or names.counts (sig.into_of f) 0

from_one : (p c : Bool) → (p ≡ true → c ≡ true) → (not p || (c || false)) && true ≡ true
from_one true true h = refl
from_one true false h = h refl
from_one false c h = refl

from_two : (p q c : Bool) → (p ≡ true → q ≡ true → c ≡ true) → (not p || (not q || (c || false))) && true ≡ true
from_two true true true h = refl
from_two true true false h = h refl refl
from_two true false c h = refl
from_two false q c h = refl

elements_of-set : (v : Elements) (sizes ks xs : List ℕ) (i y : ℕ) → InRange sizes ks xs → i < length ks
    → v (get_or ks i 0) (get_or xs i 0) ≡ v (get_or ks i 0) y → elements_of v ks xs ≡ elements_of v ks (set xs i y)
elements_of-set v sizes [] xs i y h l e = absurd (omega arith)
elements_of-set v sizes (k ∷ ks) [] i y h l e = absurd h
elements_of-set v sizes (k ∷ ks) (x ∷ xs) zero y h l e = ap (λ z. z ∷ elements_of v ks xs) e
elements_of-set v sizes (k ∷ ks) (x ∷ xs) (suc i) y h l e =
    ap (λ zs. v k x ∷ zs) (elements_of-set v sizes ks xs i y h.1 (omega arith) e)

module _ (a : Atom → Bool) where
  abbrev AreTrue : List Tree → Type 0
  AreTrue ps = all_true a (trees_of ps) ≡ true

  true-append : (ps qs : List Tree) → AreTrue ps → AreTrue qs → AreTrue (ps ++ qs)
  true-append [] qs h k = k
  true-append (p ∷ ps) qs h k =
      let both = and_parts (truth a p) (all_true a (trees_of ps)) h in
      and_from (truth a p) (all_true a (trees_of (ps ++ qs))) both.0 (true-append ps qs both.1 k)

  true-below : (n : ℕ) (f : ℕ → List Tree) → ((x : ℕ) → x < n → AreTrue (f x)) → AreTrue (join_below n f)
  true-below zero f h = refl
  true-below (suc n) f h =
      true-append (join_below n f) (f n) (true-below n f (λ x lt. h x (omega arith))) (h n (omega arith))

  true-tuples : (sizes ks : List ℕ) (f : List ℕ → List Tree) → ((xs : List ℕ) → InRange sizes ks xs → AreTrue (f xs))
      → AreTrue (join_tuples sizes ks f)
  true-tuples sizes [] f h = h [] tt
  true-tuples sizes (k ∷ ks) f h =
      true-below (get_or sizes k 0) (λ x. join_tuples sizes ks (λ xs. f (x ∷ xs)))
      (λ x lt. true-tuples sizes ks (λ xs. f (x ∷ xs)) (λ xs r. h (x ∷ xs) (lt, r)))

module _ (along : RangesAreAlong) (sig : Symbols) (names : Numbering) (a : Atom → Bool) (s : Tables) (v : Elements)
    (sorted : AreSorted sig) (numbered : IsNumbered sig names) (h : Realises sig names a s v) where
  alike : (k : Sort) (x y : ℕ) → k.0 < sig.sorts → x < get_or names.counts k.0 0 → y < get_or names.counts k.0 0
      → a (Eq k x y) ≡ true → v k.0 x ≡ v k.0 y
  alike k x y lt lx ly e = eqb-true (v k.0 x) (v k.0 y) (sym (h.equal k x y lt lx ly) ∙ e)

  equated : (k : Sort) (x y : ℕ) → k.0 < sig.sorts → x < get_or names.counts k.0 0 → y < get_or names.counts k.0 0
      → v k.0 x ≡ v k.0 y → a (Eq k x y) ≡ true
  equated k x y lt lx ly e = h.equal k x y lt lx ly ∙ eq-eqb (v k.0 x) (v k.0 y) e

  reflexive : (k : Sort) (xs : List ℕ) → k.0 < sig.sorts → InRange names.counts (k.0 ∷ []) xs
      → AreTrue a (axioms_at sig names (Reflexive k) xs)
  reflexive k [] lt r = absurd r
  reflexive k (x ∷ []) lt r = and_from (a (Eq k x x)) true (equated k x x lt r.0 r.0 refl) refl
  reflexive k (x ∷ (y ∷ ys)) lt r = absurd r.1

  symmetric : (k : Sort) (xs : List ℕ) → k.0 < sig.sorts → InRange names.counts (k.0 ∷ k.0 ∷ []) xs
      → AreTrue a (axioms_at sig names (Symmetric k) xs)
  symmetric k [] lt r = absurd r
  symmetric k (x ∷ []) lt r = absurd r.1
  symmetric k (x ∷ (y ∷ [])) lt r =
      from_one (a (Eq k x y)) (a (Eq k y x)) (λ e. equated k y x lt r.1.0 r.0 (sym (alike k x y lt r.0 r.1.0 e)))
  symmetric k (x ∷ (y ∷ (z ∷ zs))) lt r = absurd r.1.1

  transitive : (k : Sort) (xs : List ℕ) → k.0 < sig.sorts → InRange names.counts (k.0 ∷ k.0 ∷ k.0 ∷ []) xs
      → AreTrue a (axioms_at sig names (Transitive k) xs)
  transitive k [] lt r = absurd r
  transitive k (x ∷ []) lt r = absurd r.1
  transitive k (x ∷ (y ∷ [])) lt r = absurd r.1.1
  transitive k (x ∷ (y ∷ (z ∷ []))) lt r =
      from_two (a (Eq k x y)) (a (Eq k y z)) (a (Eq k x z))
      (λ d e. equated k x z lt r.0 r.1.1.0 (alike k x y lt r.0 r.1.0 d ∙ alike k y z lt r.1.0 r.1.1.0 e))
  transitive k (x ∷ (y ∷ (z ∷ (w ∷ ws)))) lt r = absurd r.1.1.1

  relation : (r : RelId) (i : ℕ) (xs : List ℕ) → r.0 < sig.relations → i < length (sig.sorts_of r.0)
      → InRange names.counts (sig.sorts_of r.0) xs → AreTrue a (axioms_at sig names (Relation r i) xs)
  relation r i xs lt l inside =
      let ks = sig.sorts_of r.0 in
      let k : Sort = record { 0 = get_or ks i 0 } in
      let is_sort = sorted.relations r.0 lt i 0 l in
      let lx = (along names.counts ks xs inside).each i l in
      true-below a (get_or names.counts (get_or ks i 0) 0) (λ y. relation_at sig r.0 i xs y ∷ []) (λ y ly.
      from_two (a (Eq k (get_or xs i 0) y)) (a (Rel r xs)) (a (Rel r (set xs i y))) (λ e t.
      h.related r (set xs i y) lt (exchanged names.counts ks xs i y inside ly l)
      ∙ ap ((reading s).rel r.0)
      (sym (elements_of-set v names.counts ks xs i y inside l (alike k (get_or xs i 0) y is_sort lx ly e)))
      ∙ sym (h.related r xs lt inside) ∙ t))

  function : (f : FunId) (i : ℕ) (xs : List ℕ) → f.0 < sig.functions → i < length (sig.from_of f.0)
      → InRange names.counts (sig.from_of f.0) xs → AreTrue a (axioms_at sig names (Function f i) xs)
  function f i xs lt l inside =
      let ks = sig.from_of f.0 in
      let k : Sort = record { 0 = get_or ks i 0 } in
      let into : Sort = record { 0 = sig.into_of f.0 } in
      let is_sort = sorted.functions f.0 lt i 0 l in
      let lx = (along names.counts ks xs inside).each i l in
      true-below a (get_or names.counts (get_or ks i 0) 0) (λ y. function_at sig names f.0 i xs y ∷ []) (λ y ly.
      let ys = set xs i y in
      let there = exchanged names.counts ks xs i y inside ly l in
      from_one (a (Eq k (get_or xs i 0) y)) (a (Eq into (names.place f.0 xs) (names.place f.0 ys))) (λ e.
      equated into (names.place f.0 xs) (names.place f.0 ys) (sorted.into f.0 lt) (numbered f.0 xs lt inside)
      (numbered f.0 ys lt there)
      (h.applied f.0 xs lt inside
      ∙ ap ((reading s).fun f.0)
      (elements_of-set v names.counts ks xs i y inside l (alike k (get_or xs i 0) y is_sort lx ly e))
      ∙ sym (h.applied f.0 ys lt there))))

  sort-true : (k : ℕ) → k < sig.sorts → AreTrue a (sort_axioms sig names k)
  sort-true k lt =
      let q : Sort = record { 0 = k } in
      true-append a (scheme_axioms sig names (Reflexive q))
      (scheme_axioms sig names (Symmetric q) ++ scheme_axioms sig names (Transitive q))
      (true-tuples a names.counts (k ∷ []) (axioms_at sig names (Reflexive q)) (λ xs r. reflexive q xs lt r))
      (true-append a (scheme_axioms sig names (Symmetric q)) (scheme_axioms sig names (Transitive q))
      (true-tuples a names.counts (k ∷ k ∷ []) (axioms_at sig names (Symmetric q)) (λ xs r. symmetric q xs lt r))
      (true-tuples a names.counts (k ∷ k ∷ k ∷ []) (axioms_at sig names (Transitive q)) (λ xs r. transitive q xs lt r)))

  pub axioms-true : AreTrue a (axioms_of sig names)
  axioms-true =
      true-append a (join_below sig.sorts (sort_axioms sig names))
      (join_below sig.relations (relation_axioms sig names) ++ join_below sig.functions (function_axioms sig names))
      (true-below a sig.sorts (sort_axioms sig names) sort-true)
      (true-append a (join_below sig.relations (relation_axioms sig names))
      (join_below sig.functions (function_axioms sig names))
      (true-below a sig.relations (relation_axioms sig names)
      (λ r lt. true-below a (length (sig.sorts_of r)) (λ i. scheme_axioms sig names (Relation (record { 0 = r }) i))
      (λ i l. true-tuples a names.counts (sig.sorts_of r) (axioms_at sig names (Relation (record { 0 = r }) i))
      (λ xs inside. relation (record { 0 = r }) i xs lt l inside))))
      (true-below a sig.functions (function_axioms sig names)
      (λ f lt. true-below a (length (sig.from_of f)) (λ i. scheme_axioms sig names (Function (record { 0 = f }) i))
      (λ i l. true-tuples a names.counts (sig.from_of f) (axioms_at sig names (Function (record { 0 = f }) i))
      (λ xs inside. function (record { 0 = f }) i xs lt l inside)))))

pub axioms_are_true : RangesAreAlong
    → ((sig : Symbols) (lists : Lists) (f : ℕ) (xs : List ℕ) → AreSorted sig → AreClosed sig lists → f < sig.functions
    → InRange (term_counts lists) (sig.from_of f) xs → IsPlaced sig lists f xs)
    → AxiomsAreTrue
axioms_are_true along placed sig lists a s v sorted closed h =
    axioms-true along sig (numbering sig lists) a s v sorted
    (λ f xs lt r. (placed sig lists f xs sorted closed lt r).within) h

pub structures_satisfy : AxiomsAreTrue → StructuresGiveValues → StructuresSatisfyAxioms
structures_satisfy axioms_true give sig order lists s sorted strata closed fits =
    let v = term_values sig lists order (reading s) in
    axioms_true sig lists (atoms_in sig (reading s) v) s v sorted closed
    (give sig order lists s sorted strata closed fits).realises
