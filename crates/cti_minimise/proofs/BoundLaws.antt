-- What the bounds say, by the places that they are on.
use Rattle.std.proofs.Common.{◌≡◌, ℕ, ◌-◌, ◌<◌, ◌≤◌, Bool, true, false, [], List, length, get_or, refl, sym, ap, subst}
use Rattle.std.proofs.Common.{⊎_elim, arith}
use Rattle.std.specs.Prelude.{◌↔◌, nat_lt, nat_le, ◌&&◌, if◌then◌else◌}
use Rattle.std.proofs.lemmas.List.Elements.{All-get_or}
use Rattle.std.proofs.lemmas.Bool.{cases_lt, lt-ltb, le-ltb}
use Rattle.fol_sig.specs.Tables.{Declared, IsFullRelation, relation_at}
use Rattle.fol_sig.specs.Symbols.{symbols}
use Rattle.fol_sig.specs.Tuples.{TuplesAreNumbered}
use Rattle.fol_formula.specs.Syntax.{FormTree, top}
use Rattle.fol_formula.specs.Fits.{FitsForm}
use Rattle.fol_formula.specs.Fragments.{IsEa}
use Rattle.fol_formula.specs.Quantified.{AllBelow, AnyBelow}
use Rattle.fol_formula.specs.Sentences.{is_true}
use Rattle.cti_minimise.specs.SizeBounds.{size_bound, short_bound}
use Rattle.cti_minimise.specs.TupleBounds.{tuple_bound}
use Rattle.cti_minimise.specs.Bounding.{relation_bound, bound_at}
use Rattle.cti_minimise.specs.Saying.{short_at, sparse_at, said_by}
use Rattle.cti_minimise.specs.declared.bounds.Saying.{Saying}
use Rattle.cti_minimise.specs.declared.bounds.Saying.TheVariants.{Named, Short, Sparse}
use Rattle.cti_minimise.specs.Extents.{true_tuples, extent}
use Rattle.cti_minimise.specs.Laws.{AreBounds, AreImplied, SizesAreBounded, TuplesAreBounded}
use Rattle.cti_minimise.proofs.BoundFits.{bounds-ea, bounds-fit}
use Rattle.cti_minimise.proofs.ShortBounds.{named-bounds, short-bounds, short-ea, short-fit}
use Rattle.cti_minimise.proofs.TupleCounts.{few-tuples, tuples-few}
use Rattle.cti_minimise.proofs.TupleFits.{tuple-bounds-ea, tuple-bounds-fit, zeros, zeros-in-range}
use Rattle.cti_minimise.proofs.Extending.{size-there, number-there}

pub tuples-bounded : TuplesAreNumbered → AllBelow → AnyBelow → TuplesAreBounded
tuples-bounded numbers all any sig s r n fits known =
    let same = fits.sorts_of r known in
    let relations = fits.relations in
    let lt : r < length s.relations = omega (arith, relations, known) in
    let full = All-get_or (IsFullRelation s.sizes) s.relations r (record { sorts = []; cells = [] }) lt
    fits.whole.relations_full in
    let some = zeros-in-range s.sizes (relation_at s r).sorts fits.whole.positive full.sorted in
    subst
    (λ (ks : List ℕ).
    (is_true s (tuple_bound r ks n) ≡ true) ↔ (true_tuples s.sizes (relation_at s r) ≤ n))
    (sym same) (
      few-tuples numbers all any s r n,
      tuples-few numbers all any s r n (zeros (relation_at s r).sorts) some,
    )

-- one of two sentences, by whether a sort stands at the place
by-place : (P : FormTree → Type 0) (low high : FormTree) (place sorts : ℕ) → (place < sorts → P low)
    → (sorts ≤ place → P high) → P (if nat_lt place sorts then low else high)
by-place P low high place sorts here behind =
    ⊎_elim
    (λ lt. subst P (ap (λ (b : Bool). if b then low else high) (sym (lt-ltb place sorts lt))) (here lt))
    (λ le. subst P (ap (λ (b : Bool). if b then low else high) (sym (le-ltb place sorts le))) (behind le))
    (cases_lt place sorts)

-- bounds on sizes said so, and bounds on tuples
record SaysSizes (said : ℕ → ℕ → FormTree) : Type 0 where
  exact : SizesAreBounded said
  fragment : (k n : ℕ) → IsEa (said k n)
  fits : (sig : Declared) (k n : ℕ) → k < sig.sorts → FitsForm (symbols sig) [] (said k n)

module _ (sig : Declared) (said : ℕ → ℕ → FormTree) (sizes : SaysSizes said) (tuples : TuplesAreBounded) where
  bounds-at : AreBounds sig (λ place n. if nat_lt place sig.sorts then said place n
      else relation_bound sig (place - sig.sorts) n)
  bounds-at = record {
    exact = λ s place n fits known.
        by-place (λ p. (is_true s p ≡ true) ↔ (get_or (extent s) place 0 ≤ n)) (said place n)
        (relation_bound sig (place - sig.sorts) n) place sig.sorts
        (λ lt.
        let sorts = fits.sorts in
        let some = All-get_or (λ k. 0 < k) s.sizes place 0 (omega (arith, lt, sorts)) fits.whole.positive in
        subst (λ (k : ℕ). (is_true s (said place n) ≡ true) ↔ (k ≤ n)) (sym (size-there sig s fits place lt))
        (sizes.exact s place n some))
        (λ le.
        let r = place - sig.sorts in
        subst (λ (k : ℕ). (is_true s (relation_bound sig r n) ≡ true) ↔ (k ≤ n))
        (sym (number-there sig s fits place le known)) (tuples sig s r n fits (omega (arith, le, known))));
    fragment = λ place n.
        by-place IsEa (said place n) (relation_bound sig (place - sig.sorts) n) place sig.sorts
        (λ lt. sizes.fragment place n)
        (λ le. tuple-bounds-ea (place - sig.sorts) ((symbols sig).sorts_of (place - sig.sorts)) n);
    fits = λ place n sorted known.
        by-place (FitsForm (symbols sig) []) (said place n) (relation_bound sig (place - sig.sorts) n) place sig.sorts
        (λ lt. sizes.fits sig place n lt)
        (λ le. tuple-bounds-fit (symbols sig) (place - sig.sorts) n sorted (omega (arith, le, known)));
  }

module _ (all : AllBelow) (any : AnyBelow) (sig : Declared) where
  pub named-laws : TuplesAreBounded → AreBounds sig (bound_at sig)
  named-laws tuples = bounds-at sig size_bound (record {
    exact = named-bounds all any;
    fragment = bounds-ea;
    fits = λ sig k n lt. bounds-fit (symbols sig) k n lt;
  }) tuples

  pub short-laws : TuplesAreBounded → AreBounds sig (short_at sig)
  short-laws tuples = bounds-at sig short_bound (record {
    exact = short-bounds all any;
    fragment = short-ea;
    fits = λ sig k n lt. short-fit (symbols sig) k n lt;
  }) tuples

-- what is exact is implied
pub implied-by : (sig : Declared) (said : ℕ → ℕ → FormTree) → AreBounds sig said → AreImplied sig said
implied-by sig said laws = record {
  implied = λ s place n fits known le. (laws.exact s place n fits known).1 le;
  fragment = laws.fragment;
  fits = laws.fits;
}

-- and still where nothing is said at some places
pub sparse-laws : (sig : Declared) (last : ℕ) → AreImplied sig (short_at sig) → AreImplied sig (sparse_at sig last)
sparse-laws sig last laws = record {
  implied = λ s place n fits known le.
      either (λ p. is_true s p ≡ true) place n refl (laws.implied s place n fits known le);
  fragment = λ place n. either IsEa place n (tt, tt) (laws.fragment place n);
  fits = λ place n sorted known.
      either (FitsForm (symbols sig) []) place n tt (laws.fits place n sorted known);
}
  where
    either : (P : FormTree → Type 0) (place n : ℕ) → P top → P (short_at sig place n) → P (sparse_at sig last place n)
    either P place n none some =
        elim (nat_le sig.sorts place && nat_lt place last)
        as (λ (b : Bool). P (if b then top else short_at sig place n)) [ true ↦ none | false ↦ some ]

pub said-laws : (sig : Declared) → AreBounds sig (bound_at sig) → AreBounds sig (short_at sig) → (saying : Saying)
    → (last : ℕ) → AreImplied sig (said_by sig saying last)
said-laws sig named short Named last = implied-by sig (bound_at sig) named
said-laws sig named short Short last = implied-by sig (short_at sig) short
said-laws sig named short Sparse last = sparse-laws sig last (implied-by sig (short_at sig) short)
