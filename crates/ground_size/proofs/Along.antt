-- Counts that are made sort by sort are those of the signature, and those in 64 bits are they but for what 64 bits do
-- not hold.
use Rattle.std.proofs.Common.{
  ◌≡◌,
  ℕ,
  zero,
  suc,
  ◌+◌,
  ◌*◌,
  ◌<◌,
  Bool,
  true,
  false,
  ◌==◌,
  cond,
  List,
  [],
  ◌∷◌,
  length,
  get_or,
  set,
  replicate,
  map,
  refl,
  sym,
  ap,
  ◌∙◌,
  subst,
  arith,
  ⊎_elim,
}
use Rattle.std.specs.Prelude.{All, slice_index}
use Rattle.std.proofs.lemmas.Bool.{or_cases, or_left, or_right, false≢true, eqb-true}
use Rattle.std.proofs.lemmas.List.{length-set, get_or-set_same, get_or-set_other, length-replicate, map-set}
use Rattle.fol_sig.specs.Tables.{tuple_count}
use Rattle.fol_sig.specs.Symbols.{Symbols}
use Rattle.fol_sig.specs.Strata.{has, AreInOrder, IsStrata}
use Rattle.fol_sig.specs.Growing.{GrowsBy}
use Rattle.fol_formula.specs.Counts.{saturated}
use Rattle.ground_terms.specs.TermCounts.{sum_below, or_one, application_count, term_count, AreCounts}
use Rattle.ground_size.specs.Walks.{capped_count, capped_counts}
use Rattle.ground_size.proofs.Saturated.{sat-sat, plus-alike, or_one-alike, tuples-alike, sums-alike}
use Rattle.ground_size.specs.Existentials.{times}

pub sum-agree : (n : ℕ) (f g : ℕ → ℕ) → ((x : ℕ) → x < n → f x ≡ g x) → sum_below n f ≡ sum_below n g
sum-agree zero f g h = refl
sum-agree (suc n) f g h =
    ap (λ m. m + f n) (sum-agree n f g (λ x lt. h x (omega arith))) ∙ ap (λ m. sum_below n g + m) (h n (omega arith))

pub sum-split : (n m : ℕ) (f : ℕ → ℕ) → sum_below (n + m) f ≡ sum_below n f + sum_below m (λ i. f (n + i))
sum-split n zero f =
    let e : n + 0 ≡ n = omega arith in
    let z : sum_below n f ≡ sum_below n f + 0 = omega arith in
    ap (λ q. sum_below q f) e ∙ z
sum-split n (suc m) f =
    let e : n + suc m ≡ suc (n + m) = omega arith in
    let h = sum-split n m f in
    ap (λ q. sum_below q f) e ∙ omega (arith, h)

-- a sum from its first part on
pub sum-first : (n : ℕ) (f : ℕ → ℕ) → sum_below (suc n) f ≡ f 0 + sum_below n (λ i. f (suc i))
sum-first zero f = omega arith
sum-first (suc n) f = let h = sum-first n f in omega (arith, h)

-- counts that agree on the arguments
tuple_count-agree : (a b ks : List ℕ) → All (λ q. get_or a q 0 ≡ get_or b q 0) ks → tuple_count a ks ≡ tuple_count b ks
tuple_count-agree a b [] h = refl
tuple_count-agree a b (k ∷ ks) h =
    ap (λ n. n * tuple_count a ks) (h zero 0 (omega arith)) ∙ ap (λ n. get_or b k 0 * n)
    (tuple_count-agree a b ks (λ i d lt. h (suc i) d (omega arith)))

count-agrees : (sig : Symbols) (a b : List ℕ) (f : ℕ) (here : Bool)
    → (here ≡ true → All (λ q. get_or a q 0 ≡ get_or b q 0) (sig.from_of f))
    → cond here (tuple_count a (sig.from_of f)) 0 ≡ cond here (tuple_count b (sig.from_of f)) 0
count-agrees sig a b f false h = refl
count-agrees sig a b f true h = tuple_count-agree a b (sig.from_of f) (h refl)

term_count-agree : (sig : Symbols) (a b : List ℕ) (k : ℕ)
    → ((f : ℕ) → f < sig.functions → sig.into_of f ≡ k → All (λ q. get_or a q 0 ≡ get_or b q 0) (sig.from_of f))
    → term_count sig a k ≡ term_count sig b k
term_count-agree sig a b k h =
    ap or_one (sum-agree sig.functions (application_count sig a k) (application_count sig b k) (λ f lt.
    count-agrees sig a b f (sig.into_of f == k) (λ same. h f lt (eqb-true (sig.into_of f) k same))))

-- sort by sort, each from those before
abbrev pub counts_from : Symbols → List ℕ → List ℕ → List ℕ
counts_from sig [] counts = counts
counts_from sig (k ∷ order) counts = counts_from sig order (set counts k (term_count sig counts k))

record IsMade (sig : Symbols) (done counts : List ℕ) : Type 0 where
  whole : length counts ≡ sig.sorts
  each : (k : ℕ) → has done k ≡ true → get_or counts k 0 ≡ term_count sig counts k
  before : (f : ℕ) → f < sig.functions → has done (sig.into_of f) ≡ true → All (λ q. has done q ≡ true) (sig.from_of f)

made-next : (sig : Symbols) (done : List ℕ) (k : ℕ) (counts : List ℕ) → IsMade sig done counts → k < sig.sorts
    → has done k ≡ false
    → ((f : ℕ) → f < sig.functions → sig.into_of f ≡ k → All (λ q. has done q ≡ true) (sig.from_of f))
    → IsMade sig (k ∷ done) (set counts k (term_count sig counts k))
made-next sig done k counts m lt new ready =
    let n = term_count sig counts k in
    let next = set counts k n in
    let other : (q : ℕ) → has done q ≡ true → q ≡ k → ⊥ =
    λ q old e. false≢true (sym new ∙ ap (has done) (sym e) ∙ old) in
    let stays : (q : ℕ) → has done q ≡ true → get_or counts q 0 ≡ get_or next q 0 =
    λ q old. sym (get_or-set_other counts k q n 0 (other q old)) in
    record {
      whole = length-set counts k n ∙ m.whole;
      each = λ q there.
          ⊎_elim
          (λ is. subst (λ p. get_or next p 0 ≡ term_count sig next p) (eqb-true k q is)
          (get_or-set_same counts k n 0 (subst (λ l. k < l) (sym m.whole) lt) ∙ term_count-agree sig counts next k
          (λ f lf into i d l. stays (get_or (sig.from_of f) i d) (ready f lf into i d l))))
          (λ old. sym (stays q old) ∙ m.each q old ∙ term_count-agree sig counts next q (λ f lf into i d l.
          stays (get_or (sig.from_of f) i d) (m.before f lf (ap (has done) into ∙ old) i d l)))
          (or_cases (k == q) (has done q) there);
      before = λ f lf there i d l.
          let keep : (q : ℕ) → has done q ≡ true → has (k ∷ done) q ≡ true =
          λ q old. or_right (k == q) (has done q) old in
          ⊎_elim
          (λ is. keep (get_or (sig.from_of f) i d) (ready f lf (sym (eqb-true k (sig.into_of f) is)) i d l))
          (λ old. keep (get_or (sig.from_of f) i d) (m.before f lf old i d l))
          (or_cases (k == sig.into_of f) (has done (sig.into_of f)) there);
    }

record AllMade (sig : Symbols) (done order counts : List ℕ) : Type 0 where
  sorts : List ℕ
  made : IsMade sig sorts counts
  old : (k : ℕ) → has done k ≡ true → has sorts k ≡ true
  new : (k : ℕ) → has order k ≡ true → has sorts k ≡ true

all-made : (sig : Symbols) (order done counts : List ℕ) → AreInOrder sig done order → All (λ k. k < sig.sorts) order
    → IsMade sig done counts → AllMade sig done order (counts_from sig order counts)
all-made sig [] done counts o lt m = record {
  sorts = done;
  made = m;
  old = λ k h. h;
  new = λ k h. absurd (false≢true h);
}
all-made sig (k ∷ order) done counts o lt m =
    let rest = all-made sig order (k ∷ done) (set counts k (term_count sig counts k)) o.2
    (λ i d l. lt (suc i) d (omega arith)) (made-next sig done k counts m (lt zero 0 (omega arith)) o.0 o.1) in
    record {
      sorts = rest.sorts;
      made = rest.made;
      old = λ p h. rest.old p (or_right (k == p) (has done p) h);
      new = λ p h. ⊎_elim (λ is. rest.old p (or_left (k == p) (has done p) is)) (λ more. rest.new p more)
          (or_cases (k == p) (has order p) h);
    }

pub counts-from : (sig : Symbols) (order : List ℕ) → IsStrata sig order
    → AreCounts sig (counts_from sig order (replicate sig.sorts 0))
counts-from sig order strata =
    let all = all-made sig order [] (replicate sig.sorts 0) strata.ordered strata.sorts
    (record {
      whole = length-replicate {A = ℕ} sig.sorts 0;
      each = λ k none. absurd (false≢true none);
      before = λ f lf none. absurd (false≢true none);
    }) in
    let m = all.made in
    record {
      sorts = m.whole;
      each = λ k lt. m.each k (all.new k (strata.whole k lt));
    }

module _ (sig more : Symbols) (ks : List ℕ) (g : GrowsBy sig ks more) where
  sum-times : (qs : List ℕ) (k : ℕ) → sum_below (length qs) (λ i. cond (slice_index qs i == k) 1 0) ≡ times k qs
  sum-times [] k = refl
  sum-times (q ∷ qs) k =
      sum-first (length qs) (λ i. cond (slice_index (q ∷ qs) i == k) 1 0) ∙ ap (λ m. cond (q == k) 1 0 + m)
      (sum-times qs k)

  -- the functions into a sort are those of the signature and its constants
  old-functions : (counts : List ℕ) (k f : ℕ) → f < sig.functions → application_count more counts k f
      ≡ application_count sig counts k f
  old-functions counts k f lt =
      ap (λ q. cond (q == k) (tuple_count counts (more.from_of f)) 0) (g.grows.into_of f lt)
      ∙ ap (λ qs. cond (sig.into_of f == k) (tuple_count counts qs) 0) (g.grows.from_of f lt)

  new-functions : (counts : List ℕ) (k i : ℕ) → i < length ks → application_count more counts k (sig.functions + i)
      ≡ cond (slice_index ks i == k) 1 0
  new-functions counts k i lt =
      ap (λ q. cond (q == k) (tuple_count counts (more.from_of (sig.functions + i))) 0) (g.sort i lt)
      ∙ ap (λ qs. cond (slice_index ks i == k) (tuple_count counts qs) 0)
      (g.grows.new_from (sig.functions + i) (omega arith) (let e = g.count in omega (arith, e, lt)))

  pub term_count-grown : (counts : List ℕ) (k : ℕ) → term_count more counts k
      ≡ or_one (times k ks + sum_below sig.functions (application_count sig counts k))
  term_count-grown counts k =
      let f = application_count more counts k in
      ap or_one
      (ap (λ n. sum_below n f) g.count
      ∙ sum-split sig.functions (length ks) f
      ∙ ap (λ n. n + sum_below (length ks) (λ i. f (sig.functions + i)))
      (sum-agree sig.functions f (application_count sig counts k) (old-functions counts k))
      ∙ ap (λ n. sum_below sig.functions (application_count sig counts k) + n)
      (sum-agree (length ks) (λ i. f (sig.functions + i)) (λ i. cond (slice_index ks i == k) 1 0)
      (new-functions counts k) ∙ sum-times ks k)
      ∙ omega arith)

  applications-alike : (counts : List ℕ) (k f : ℕ)
      → saturated (application_count sig (map saturated counts) k f) ≡ saturated (application_count sig counts k f)
  applications-alike counts k f = by (sig.into_of f == k)
    where
      by : (here : Bool) → saturated (cond here (tuple_count (map saturated counts) (sig.from_of f)) 0)
          ≡ saturated (cond here (tuple_count counts (sig.from_of f)) 0)
      by true = tuples-alike counts (sig.from_of f)
      by false = refl

  module _ (constants : List ℕ) (are : (k : ℕ) → k < sig.sorts → slice_index constants k ≡ saturated (times k ks)) where
    capped_count-is : (counts : List ℕ) (k : ℕ) → k < sig.sorts
        → capped_count sig (slice_index constants k) (map saturated counts) k ≡ saturated (term_count more counts k)
    capped_count-is counts k lt =
        or_one-alike
        (slice_index constants k + sum_below sig.functions (application_count sig (map saturated counts) k))
        (times k ks + sum_below sig.functions (application_count sig counts k))
        (plus-alike (slice_index constants k) (times k ks) _ _ (ap saturated (are k lt) ∙ sat-sat (times k ks))
        (sums-alike sig.functions (application_count sig (map saturated counts) k) (application_count sig counts k)
        (λ f lf. applications-alike counts k f)))
        ∙ ap saturated (sym (term_count-grown counts k))

    pub capped-along : (order counts : List ℕ) → All (λ k. k < sig.sorts) order
        → capped_counts sig constants order (map saturated counts) ≡ map saturated (counts_from more order counts)
    capped-along [] counts h = refl
    capped-along (k ∷ order) counts h =
        ap (λ n. capped_counts sig constants order (set (map saturated counts) k n))
        (capped_count-is counts k (h zero 0 (omega arith)))
        ∙ ap (capped_counts sig constants order) (sym (map-set saturated counts k (term_count more counts k)))
        ∙ capped-along order (set counts k (term_count more counts k)) (λ i d l. h (suc i) d (omega arith))

pub capped-zeros : (n : ℕ) → map saturated (replicate n 0) ≡ replicate n 0
capped-zeros zero = refl
capped-zeros (suc n) = ap (λ ns. 0 ∷ ns) (capped-zeros n)
