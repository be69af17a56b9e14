-- The relations that true atoms make true.
use Rattle.std.proofs.Common.{
  ◌≡◌,
  ℕ,
  zero,
  suc,
  ◌<◌,
  ◌⊎◌,
  inl,
  inr,
  Bool,
  true,
  false,
  List,
  [],
  ◌∷◌,
  length,
  get_or,
  drop,
  map,
  replicate,
  refl,
  sym,
  ap,
  ◌∙◌,
  subst,
  arith,
  ⊎_elim,
}
use Rattle.std.proofs.lemmas.Bool.{cases_lt, cases_eq, or_cases, or_left, or_right}
use Rattle.std.proofs.lemmas.List.{get_or-replicate, length-replicate, get_or_past}
use Rattle.fol_sig.specs.declared.RelId.{RelId}
use Rattle.fol_sig.specs.Symbols.{Symbols, AreSorted, FitsStructure}
use Rattle.fol_sig.specs.Tables.{
  Tables,
  Declared,
  InRange,
  AreSorts,
  rel_at,
  relation_at,
  blank_relation,
  blank,
  place_of,
  tuple_count,
}
use Rattle.fol_sig.specs.Updates.{SetsRelation}
use Rattle.ground_terms.specs.Same.{same_atom, holds_in}
use Rattle.ground_terms.specs.Values.{Elements, elements_of}
use Rattle.ground_terms.specs.AtomNumbers.{FitsAtom}
use Rattle.ground_terms.specs.declared.atom.Atom.{Atom}
use Rattle.ground_terms.specs.declared.atom.Atom.TheVariants.{Rel, Eq}
use Rattle.structure_back.specs.Tables.{HasElements, SetsAtom}

pub sorts-tail : (n k : ℕ) (ks : List ℕ) → AreSorts n (k ∷ ks) → AreSorts n ks
sorts-tail n k ks h i d lt = h (suc i) d (omega arith)

pub picked-within : (from to : List ℕ) (n : ℕ) (v : Elements)
    → ((k x : ℕ) → k < n → x < get_or from k 0 → v k x < get_or to k 0)
    → (ks xs : List ℕ) → AreSorts n ks → InRange from ks xs → InRange to ks (elements_of v ks xs)
picked-within from to n v h [] [] o r = tt
picked-within from to n v h [] (x ∷ xs) o r = absurd r
picked-within from to n v h (k ∷ ks) [] o r = absurd r
picked-within from to n v h (k ∷ ks) (x ∷ xs) o r =
    (h k x (o zero 0 (omega arith)) r.0, picked-within from to n v h ks xs (sorts-tail n k ks o) r.1)

same_or_not : (xs ys : List ℕ) → (xs ≡ ys) ⊎ (xs ≡ ys → ⊥)
same_or_not [] [] = inl refl
same_or_not [] (y ∷ ys) = inr (λ e. let l = ap length e in absurd (omega (arith, l)))
same_or_not (x ∷ xs) [] = inr (λ e. let l = ap length e in absurd (omega (arith, l)))
same_or_not (x ∷ xs) (y ∷ ys) =
    ⊎_elim
    (λ head. ⊎_elim
    (λ tail. inl (λ i. head i ∷ tail i))
    (λ apart. inr (λ e. apart (ap (drop 1) e)))
    (same_or_not xs ys))
    (λ apart. inr (λ e. apart (ap (λ zs. get_or zs 0 0) e)))
    (cases_eq x y)

which : (q r : ℕ) (ds cs : List ℕ) → ((q ≡ r) × (ds ≡ cs)) ⊎ (q ≡ r → ds ≡ cs → ⊥)
which q r ds cs =
    ⊎_elim
    (λ e. ⊎_elim (λ d. inl (e, d)) (λ apart. inr (λ _ d. apart d)) (same_or_not ds cs))
    (λ apart. inr (λ e _. apart e))
    (cases_eq q r)

relation_in : Atom → ℕ
relation_in (Rel r xs) = r.0
relation_in (Eq k x y) = 0

terms_in : Atom → List ℕ
terms_in (Rel r xs) = xs
terms_in (Eq k x y) = []

pub sets_atom : (sig : Symbols) (counts : List ℕ) (v : Elements) (r : RelId) (xs cs : List ℕ) (old new : Tables)
    → FitsStructure sig old → FitsAtom sig counts (Rel r xs) → cs ≡ elements_of v (sig.sorts_of r.0) xs
    → SetsRelation old new r.0 cs true
    → SetsAtom sig counts v (Rel r xs) old new
unfolding relation_in terms_in
sets_atom sig counts v r xs cs old new fits there e h =
    let other : (q : ℕ) (ds : List ℕ) → q < sig.relations → InRange old.sizes (sig.sorts_of q) ds
    → (q ≡ r.0 → ds ≡ cs → ⊥) → rel_at new q ds ≡ rel_at old q ds =
    λ q ds lq inside ne. h.others q ds (subst (λ ks. InRange old.sizes ks ds) (fits.sorts_of q lq) inside) ne in
    record {
      set = λ q ys fits_q is.
          let re : r.0 ≡ q.0 = ap relation_in is in
          let xe : xs ≡ ys = ap terms_in is in
          ap (λ z. rel_at new z (elements_of v (sig.sorts_of z) ys)) (sym re)
          ∙ ap (λ zs. rel_at new r.0 (elements_of v (sig.sorts_of r.0) zs)) (sym xe) ∙ ap (rel_at new r.0) (sym e)
          ∙ h.set;
      kept = λ q ds lq inside t.
          ⊎_elim
          (λ same. ap (λ z. rel_at new z ds) same.0 ∙ ap (rel_at new r.0) same.1 ∙ h.set)
          (λ apart. other q ds lq inside apart ∙ t)
          (which q r.0 ds cs);
      source = λ q ds lq inside t.
          ⊎_elim
          (λ same. inr (
            xs,
            subst (λ z. (z < sig.relations) × InRange counts (sig.sorts_of z) xs) (sym same.0) there,
            (λ i. Rel (record { 0 = sym same.0 i }) xs),
            ap (λ z. elements_of v (sig.sorts_of z) xs) same.0 ∙ sym e ∙ sym same.1,
          ))
          (λ apart. inl (sym (other q.0 ds lq inside apart) ∙ t))
          (which q.0 r.0 ds cs);
    }

-- the relations while some atoms are still to come
pub record AreSetTo (sig : Symbols) (counts : List ℕ) (a : Atom → Bool) (v : Elements) (rest : List Atom)
    (s : Tables) : Type 0 where
  pub true_rest : (b : Atom) → holds_in rest b ≡ true → a b ≡ true
  pub whole : (r : RelId) (xs : List ℕ) → FitsAtom sig counts (Rel r xs) → a (Rel r xs) ≡ true
      → (rel_at s r.0 (elements_of v (sig.sorts_of r.0) xs) ≡ true) ⊎ (holds_in rest (Rel r xs) ≡ true)
  pub only : (r : RelId) (cs : List ℕ) → r.0 < sig.relations → InRange s.sizes (sig.sorts_of r.0) cs
      → rel_at s r.0 cs ≡ true
      → (atom : Atom) × HasElements sig counts v atom r cs × (a atom ≡ true)

module _ (same : (a b : Atom) → same_atom a b ≡ true → a ≡ b) (reflexive : (a : Atom) → same_atom a a ≡ true) where
  pub more-set : (sig : Symbols) (counts sizes : List ℕ) (a : Atom → Bool) (v : Elements) (b : Atom) (rest : List Atom)
      (old new : Tables)
      → AreSorted sig → ((k x : ℕ) → k < sig.sorts → x < get_or counts k 0 → v k x < get_or sizes k 0)
      → old.sizes ≡ sizes → new.sizes ≡ sizes
      → AreSetTo sig counts a v (b ∷ rest) old → SetsAtom sig counts v b old new → AreSetTo sig counts a v rest new
  more-set sig counts sizes a v b rest old new sorted within old_sizes new_sizes h set = record {
    true_rest = λ c t. h.true_rest c (or_right (same_atom c b) (holds_in rest c) t);
    whole = λ r xs fits t.
        ⊎_elim
        (λ is. inl (set.kept r.0 (elements_of v (sig.sorts_of r.0) xs) fits.0
        (subst (λ ns. InRange ns (sig.sorts_of r.0) (elements_of v (sig.sorts_of r.0) xs)) (sym old_sizes)
        (picked-within counts sizes sig.sorts v within (sig.sorts_of r.0) xs (sorted.relations r.0 fits.0) fits.1))
        is))
        (λ there. ⊎_elim
        (λ here. inl (set.set r xs fits (sym (same (Rel r xs) b here))))
        (λ later. inr later)
        (or_cases (same_atom (Rel r xs) b) (holds_in rest (Rel r xs)) there))
        (h.whole r xs fits t);
    only = λ r cs lt inside t.
        let before = subst (λ ns. InRange ns (sig.sorts_of r.0) cs) (new_sizes ∙ sym old_sizes) inside in
        ⊎_elim
        (λ was. h.only r cs lt before was)
        (λ now. (b, now, h.true_rest b (or_left (same_atom b b) (holds_in rest b) (reflexive b))))
        (set.source r cs lt before t);
  }

false-everywhere : (n i : ℕ) → get_or (replicate n false) i false ≡ false
false-everywhere n i =
    ⊎_elim
    (λ less. get_or-replicate n i false false less)
    (λ past. get_or_past (replicate n false) i false (let l = length-replicate n false in omega (arith, l, past)))
    (cases_lt i n)

-- a relation of the structure before any atom is false
false-relations : (sizes : List ℕ) (all : List (List ℕ)) (r n : ℕ)
    → get_or (get_or (map (blank_relation sizes) all) r (record { sorts = []; cells = [] })).cells n false ≡ false
false-relations sizes [] r n = refl
false-relations sizes (ks ∷ all) zero n = false-everywhere (tuple_count sizes ks) n
false-relations sizes (ks ∷ all) (suc r) n = false-relations sizes all r n

pub blank-false : (sig : Declared) (sizes : List ℕ) (s : Tables) → s ≡ blank sig sizes → (r : ℕ) (xs : List ℕ)
    → rel_at s r xs ≡ false
blank-false sig sizes s e r xs =
    ap (λ t. rel_at t r xs) e ∙ false-relations sizes sig.relations r
    (place_of sizes (relation_at (blank sig sizes) r).sorts xs)
