-- Where no function stands on a cycle, there is one number of ground terms of each sort.
use Rattle.std.proofs.Common.{◌≡◌, ℕ, zero, suc, ◌+◌, ◌*◌, ◌<◌, ◌≤◌, Bool, true, false, ◌==◌, ◌||◌, cond}
use Rattle.std.proofs.Common.{List, [], ◌∷◌, length, get_or, refl, sym, ap, ◌∙◌, subst, arith, ⊎_elim}
use Rattle.std.proofs.lemmas.Bool.{false≢true, eqb-true, eq-eqb, cond-true, cond-false, or_left, or_right}
use Rattle.std.proofs.lemmas.Bool.{cases_Bool, cases_eq, cases_lt, or_cases}
use Rattle.std.proofs.lemmas.List.{ext_get_or}
use Rattle.fol_sig.specs.Tables.{tuple_count}
use Rattle.fol_sig.specs.Symbols.{Symbols}
use Rattle.fol_sig.specs.Strata.{has, IsOnCycle}
use Rattle.fol_sig.specs.Growing.{Grows}
use Rattle.ground_terms.specs.TermCounts.{sum_below, or_one, application_count, term_count, AreCounts}
use Rattle.obligation_decide.proofs.Cycles.{has-first, AreReached, on_cycle}

-- both count the terms of a sort otherwise
abbrev Differ : List ℕ → List ℕ → ℕ → Type 0
Differ a b k = get_or a k 0 ≡ get_or b k 0 → ⊥

-- a sort among these
record SortDiffers (a b ks : List ℕ) : Type 0 where
  sort : ℕ
  takes : has ks sort ≡ true
  differs : Differ a b sort

tuples-differ : (a b ks : List ℕ) → (tuple_count a ks ≡ tuple_count b ks → ⊥) → SortDiffers a b ks
tuples-differ a b [] h = absurd (h refl)
tuples-differ a b (k ∷ ks) h =
    ⊎_elim
    (λ same.
    let later = tuples-differ a b ks (λ e. h (ap (λ n. n * tuple_count a ks) same ∙ ap (λ n. get_or b k 0 * n) e)) in
    let q = later.sort in
    record { sort = q; takes = or_right (k == q) (has ks q) later.takes; differs = later.differs })
    (λ other. record { sort = k; takes = has-first k ks; differs = other })
    (cases_eq (get_or a k 0) (get_or b k 0))

-- a part of a sum
record PartDiffers (n : ℕ) (f g : ℕ → ℕ) : Type 0 where
  at : ℕ
  within : at < n
  differs : f at ≡ g at → ⊥

sums-differ : (n : ℕ) (f g : ℕ → ℕ) → (sum_below n f ≡ sum_below n g → ⊥) → PartDiffers n f g
sums-differ zero f g h = absurd (h refl)
sums-differ (suc n) f g h =
    ⊎_elim
    (λ same.
    let before = sums-differ n f g (λ e. h (ap (λ m. m + f n) e ∙ ap (λ m. sum_below n g + m) same)) in
    let within = before.within in
    record { at = before.at; within = omega (arith, within); differs = before.differs })
    (λ other. record { at = n; within = omega arith; differs = other })
    (cases_eq (f n) (g n))

-- a function into the sort takes a sort whose terms they count otherwise
record ArgumentDiffers (sig : Symbols) (a b : List ℕ) (k : ℕ) : Type 0 where
  function : ℕ
  known : function < sig.functions
  into : sig.into_of function ≡ k
  argument : SortDiffers a b (sig.from_of function)

module _ (sig : Symbols) (a b : List ℕ) where
  argument-differs : (k : ℕ) → (term_count sig a k ≡ term_count sig b k → ⊥) → ArgumentDiffers sig a b k
  argument-differs k h =
      let in_a = application_count sig a k in
      let part = sums-differ sig.functions in_a (application_count sig b k) (λ e. h (ap or_one e)) in
      let f = part.at in
      let ta = tuple_count a (sig.from_of f) in
      let tb = tuple_count b (sig.from_of f) in
      let here = sig.into_of f == k in
      ⊎_elim
      (λ into. record {
        function = f;
        known = part.within;
        into = eqb-true (sig.into_of f) k into;
        argument = tuples-differ a b (sig.from_of f) (λ e. part.differs (ap (λ n. cond (sig.into_of f == k) n 0) e));
      })
      (λ no. absurd (part.differs (cond-false {A = ℕ} here ta 0 no ∙ sym (cond-false {A = ℕ} here tb 0 no))))
      (cases_Bool here)

-- the sorts below n whose terms they count otherwise
module _ (a b : List ℕ) where
  agrees : ℕ → Bool
  agrees k = get_or a k 0 == get_or b k 0

  agrees-true : (k : ℕ) → agrees k ≡ true → get_or a k 0 ≡ get_or b k 0
  unfolding agrees
  agrees-true k e = eqb-true (get_or a k 0) (get_or b k 0) e

  agrees-false : (k : ℕ) → agrees k ≡ false → Differ a b k
  unfolding agrees
  agrees-false k e same = false≢true (sym e ∙ eq-eqb (get_or a k 0) (get_or b k 0) same)

  differing : ℕ → List ℕ
  differing zero = []
  differing (suc n) = cond (agrees n) (differing n) (n ∷ differing n)

  has-none : (k : ℕ) → has (differing zero) k ≡ true → ⊥
  unfolding differing
  has-none k e = false≢true e

  has-same : (n k : ℕ) → agrees n ≡ true → has (differing (suc n)) k ≡ has (differing n) k
  unfolding differing
  has-same n k e = ap (λ ks. has ks k) (cond-true {A = List ℕ} (agrees n) (differing n) (n ∷ differing n) e)

  has-other : (n k : ℕ) → agrees n ≡ false → has (differing (suc n)) k ≡ (n == k || has (differing n) k)
  unfolding differing
  has-other n k e = ap (λ ks. has ks k) (cond-false {A = List ℕ} (agrees n) (differing n) (n ∷ differing n) e)

  -- one of these is below n, and they differ there
  each-differs : (n k : ℕ) → has (differing n) k ≡ true → (k < n) × Differ a b k
  each-differs zero k there = absurd (has-none k there)
  each-differs (suc n) k there =
      let later = λ (old : has (differing n) k ≡ true).
      let before = each-differs n k old in
      let within = before.0 in
      let more : k < suc n = omega (arith, within) in
      let both : (k < suc n) × Differ a b k = (more, before.1) in
      both in
      ⊎_elim
      (λ same. later (sym (has-same n k same) ∙ there))
      (λ other.
      ⊎_elim
      (λ is.
      let here : n ≡ k = eqb-true n k is in
      (omega (arith, here), subst (Differ a b) here (agrees-false n other)))
      (λ old. later old)
      (or_cases (n == k) (has (differing n) k) (sym (has-other n k other) ∙ there)))
      (cases_Bool (agrees n))

  -- each sort below n where they differ is one of these
  differs-stands : (n k : ℕ) → k < n → Differ a b k → has (differing n) k ≡ true
  differs-stands zero k lt d = absurd (omega arith)
  differs-stands (suc n) k lt d =
      let is_last = λ (no : n ≤ k). let last : n ≡ k = omega (arith, no, lt) in last in
      ⊎_elim
      (λ same.
      ⊎_elim
      (λ less. has-same n k same ∙ differs-stands n k less d)
      (λ no. absurd (d (subst (λ j. get_or a j 0 ≡ get_or b j 0) (is_last no) (agrees-true n same))))
      (cases_lt k n))
      (λ other.
      has-other n k other
      ∙ ⊎_elim
      (λ less. or_right (n == k) (has (differing n) k) (differs-stands n k less d))
      (λ no. or_left (n == k) (has (differing n) k) (eq-eqb n k (is_last no)))
      (cases_lt k n))
      (cases_Bool (agrees n))

beyond : (xs : List ℕ) (k : ℕ) → length xs ≤ k → get_or xs k 0 ≡ 0
beyond [] k le = refl
beyond (x ∷ xs) zero le = absurd (omega (arith, le))
beyond (x ∷ xs) (suc k) le = beyond xs k (omega (arith, le))

-- the functions that the symbols grow by take no argument, and so lead to no sort
module _ (sig more : Symbols) (grows : Grows sig more) (a b : List ℕ) (ca : AreCounts more a) (cb : AreCounts more b)
  where
    known-sort : (k : ℕ) → Differ a b k → k < more.sorts
    known-sort k d =
        ⊎_elim
        (λ less. less)
        (λ no.
        let la = ca.sorts in
        let lb = cb.sorts in
        absurd (d (beyond a k (omega (arith, la, no)) ∙ sym (beyond b k (omega (arith, lb, no))))))
        (cases_lt k more.sorts)

    old-function : (f q : ℕ) → f < more.functions → has (more.from_of f) q ≡ true → f < sig.functions
    old-function f q lt takes =
        ⊎_elim
        (λ less. less)
        (λ no. absurd (false≢true (ap (λ ks. has ks q) (sym (grows.new_from f no lt)) ∙ takes)))
        (cases_lt f sig.functions)

    reached : AreReached sig (differing a b more.sorts)
    reached k there =
        let d = each-differs a b more.sorts k there in
        let r = argument-differs more a b k (λ e. d.1 (ca.each k d.0 ∙ e ∙ sym (cb.each k d.0))) in
        let q = r.argument.sort in
        let f = r.function in
        let old = old-function f q r.known r.argument.takes in
        let takes : has (sig.from_of f) q ≡ true = ap (λ ks. has ks q) (sym (grows.from_of f old)) ∙ r.argument.takes in
        record {
          from = q;
          stands = differs-stands a b more.sorts q (known-sort q r.argument.differs) r.argument.differs;
          first = f;
          rest = [];
          walk = (old, takes, sym (grows.into_of f old) ∙ r.into);
        }

    pub counts_are_one : ((f : ℕ) → IsOnCycle sig f → ⊥) → a ≡ b
    counts_are_one acyclic =
        ext_get_or 0 a b (ca.sorts ∙ sym cb.sorts)
        (λ k lt.
        ⊎_elim
        (λ same. same)
        (λ other.
        let there = differs-stands a b more.sorts k (known-sort k other) other in
        let cycle = on_cycle sig (differing a b more.sorts) k there reached in
        absurd (acyclic cycle.0 cycle.1))
        (cases_eq (get_or a k 0) (get_or b k 0)))
