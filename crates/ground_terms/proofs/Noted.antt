-- The places that are written down from the end of a list are the first ones.
use Rattle.std.proofs.Common.{◌≡◌, ℕ, zero, suc, ◌+◌, ◌<◌, true, false, List, [], ◌∷◌, length}
use Rattle.std.proofs.Common.{get_or, set, drop, map, refl, sym, ap, ◌∙◌, subst, arith, ⊎_elim}
use Rattle.std.specs.Prelude.{All}
use Rattle.std.proofs.lemmas.Bool.{cases_Bool, cond-true, cond-false, false≢true, eqb-true, eq-eqb, ne_eqb, eqb-false}
use Rattle.std.proofs.lemmas.Bool.{cases_lt}
use Rattle.std.proofs.lemmas.List.{length-set, length-map, get_or-set_same, get_or-set_other, get_or-map}
use Rattle.std.proofs.lemmas.List.{drop_more}
use Rattle.fol_sig.specs.Symbols.{Symbols}
use Rattle.ground_terms.specs.Terms.{PlainTerm, default_constant, application, Lists, terms_at, term_at, term_counts}
use Rattle.ground_terms.specs.Terms.{AreClosed, IsTermAt}
use Rattle.ground_terms.specs.Numberings.{is_of, place_where, first_place, AreFirsts}
use Rattle.ground_terms.specs.FunctionRows.{IsOfFirst, noted_at, noted}
use Rattle.ground_terms.proofs.Numbers.{count-at, is-term}

length-noted_at : (at : ℕ) (t : PlainTerm) (firsts : List ℕ) → length (noted_at at t firsts) ≡ length firsts
length-noted_at at default_constant firsts = refl
length-noted_at at (application f xs) firsts = length-set firsts f at

pub length-noted : (at : ℕ) (ts : List PlainTerm) (firsts : List ℕ) → length (noted at ts firsts) ≡ length firsts
length-noted at [] firsts = refl
length-noted at (t ∷ ts) firsts =
    length-noted_at at t (noted (suc at) ts firsts) ∙ length-noted (suc at) ts firsts

noted_at-same : (at f : ℕ) (t : PlainTerm) (firsts : List ℕ) → f < length firsts → is_of f t ≡ true
    → get_or (noted_at at t firsts) f 0 ≡ at
noted_at-same at f default_constant firsts lt h = absurd (false≢true h)
noted_at-same at f (application g ys) firsts lt h =
    let e : f ≡ g = eqb-true f g h in
    ap (λ h. get_or (set firsts h at) f 0) (sym e) ∙ get_or-set_same firsts f at 0 lt

noted_at-other : (at f : ℕ) (t : PlainTerm) (firsts : List ℕ) → is_of f t ≡ false
    → get_or (noted_at at t firsts) f 0 ≡ get_or firsts f 0
noted_at-other at f default_constant firsts h = refl
noted_at-other at f (application g ys) firsts h = get_or-set_other firsts g f at 0 (eqb-false f g h)

-- the place that stays is the first one
pub noted-first : (at f i : ℕ) (ts : List PlainTerm) (firsts : List ℕ) → f < length firsts → i < length ts
    → is_of f (get_or ts i default_constant) ≡ true → get_or (noted at ts firsts) f 0 ≡ at + place_where (is_of f) ts
noted-first at f i [] firsts lt inside h = absurd (omega arith)
noted-first at f i (t ∷ ts) firsts lt inside h =
    ⊎_elim
    (λ yes.
    let e = cond-true (is_of f t) 0 (suc (place_where (is_of f) ts)) yes in
    noted_at-same at f t (noted (suc at) ts firsts)
    (subst (λ n. f < n) (sym (length-noted (suc at) ts firsts)) lt) yes ∙ omega (arith, e))
    (λ off.
    let e = cond-false (is_of f t) 0 (suc (place_where (is_of f) ts)) off in
    let rest = later i inside h off (λ j within here. noted-first (suc at) f j ts firsts lt within here) in
    noted_at-other at f t (noted (suc at) ts firsts) off ∙ omega (arith, e, rest))
    (cases_Bool (is_of f t))
  where
    later : (i : ℕ) → i < length (t ∷ ts) → is_of f (get_or (t ∷ ts) i default_constant) ≡ true → is_of f t ≡ false
        → ((j : ℕ) → j < length ts → is_of f (get_or ts j default_constant) ≡ true
        → get_or (noted (suc at) ts firsts) f 0 ≡ suc at + place_where (is_of f) ts)
        → get_or (noted (suc at) ts firsts) f 0 ≡ suc at + place_where (is_of f) ts
    later zero inside h off rest = absurd (false≢true (sym off ∙ h))
    later (suc i) inside h off rest = rest i (omega arith) h

-- other functions keep theirs
pub noted-other : (at f : ℕ) (ts : List PlainTerm) (firsts : List ℕ)
    → ((i : ℕ) → i < length ts → is_of f (get_or ts i default_constant) ≡ false)
    → get_or (noted at ts firsts) f 0 ≡ get_or firsts f 0
noted-other at f [] firsts h = refl
noted-other at f (t ∷ ts) firsts h =
    noted_at-other at f t (noted (suc at) ts firsts) (h zero (omega arith))
    ∙ noted-other (suc at) f ts firsts (λ i lt. h (suc i) (omega arith))

-- one more term from the end
pub noted-more : (ts : List PlainTerm) (p q : ℕ) (t d : PlainTerm) (firsts now next : List ℕ) → p < length ts
    → q ≡ p + 1 → t ≡ get_or ts p d → now ≡ noted q (drop q ts) firsts → next ≡ noted_at p t now
    → next ≡ noted p (drop p ts) firsts
noted-more ts p q t d firsts now next lt e is h made =
    let more : q ≡ suc p = omega (arith, e) in
    let plus : suc p ≡ p + 1 = omega arith in
    made ∙ ap (noted_at p t) (h ∙ ap (λ n. noted n (drop n ts) firsts) more)
    ∙ ap (λ u. noted_at p u (noted (suc p) (drop (suc p) ts) firsts)) is
    ∙ ap (λ us. noted_at p (get_or ts p d) (noted (suc p) us firsts)) (ap (λ n. drop n ts) plus)
    ∙ ap (λ us. noted p us firsts) (sym (drop_more ts p d lt))

-- the term at a place is of a function that has a first place
pub at-first : {T : Type 0} (plain : T → PlainTerm) (ts : List T) (p n m : ℕ) (t : T)
    → All (IsOfFirst n) (map plain ts) → m ≡ n → p < length ts → t ≡ get_or ts p t → IsOfFirst m (plain t)
at-first plain ts p n m t all e lt is =
    subst (λ q. IsOfFirst q (plain t)) (sym e)
    (subst (IsOfFirst n) (get_or-map plain ts p t (plain t) lt ∙ ap plain (sym is))
    (all p (plain t) (subst (λ q. p < q) (sym (length-map ts plain)) lt)))

-- the first places of the functions into the first k sorts
pub record AreFirstsBelow (sig : Symbols) (lists : Lists) (k : ℕ) (firsts : List ℕ) : Type 0 where
  pub long : length firsts ≡ sig.functions
  pub each : (q n f : ℕ) (xs : List ℕ) → q < k → n < length (terms_at lists q) → term_at lists q n ≡ application f xs
      → get_or firsts f 0 ≡ first_place lists q f

module _ (sig : Symbols) (lists : Lists) (closed : AreClosed sig lists) where
  -- the terms of a sort are applications of functions into it
  term-into : (k n : ℕ) → k < sig.sorts → n < length (terms_at lists k)
      → IsTermAt sig (term_counts lists) k n (term_at lists k n)
  term-into k n lt inside =
      is-term sig lists closed k n lt (subst (λ m. n < m) (sym (count-at lists k)) inside)

  is-application : (k n f : ℕ) (xs : List ℕ) → k < sig.sorts → n < length (terms_at lists k)
      → term_at lists k n ≡ application f xs → (f < sig.functions) × (sig.into_of f ≡ k)
  is-application k n f xs lt inside is =
      let h = subst (IsTermAt sig (term_counts lists) k n) is (term-into k n lt inside) in (h.0, h.1)

  is-of-first : (k n : ℕ) (t : PlainTerm) → IsTermAt sig (term_counts lists) k n t → IsOfFirst sig.functions t
  is-of-first k n default_constant h = tt
  is-of-first k n (application f xs) h = h.0

  pub all-of-first : (k m : ℕ) (ts : List PlainTerm) → k < sig.sorts → ts ≡ terms_at lists k → m ≡ sig.functions
      → All (IsOfFirst m) ts
  all-of-first k m ts lt e is i d inside =
      let inside' : i < length (terms_at lists k) = subst (λ us. i < length us) e inside in
      subst (λ n. IsOfFirst n (get_or ts i d)) (sym is)
      (subst (IsOfFirst sig.functions) (ap (λ us. get_or us i default_constant) (sym e) ∙ default-of ts i d inside)
      (is-of-first k i (term_at lists k i) (term-into k i lt inside')))
    where
      default-of : (us : List PlainTerm) (i : ℕ) (d : PlainTerm) → i < length us
          → get_or us i default_constant ≡ get_or us i d
      default-of [] i d lt = absurd (omega arith)
      default-of (u ∷ us) zero d lt = refl
      default-of (u ∷ us) (suc i) d lt = default-of us i d (omega arith)

  not-of : (k n f : ℕ) (t : PlainTerm) → (sig.into_of f ≡ k → ⊥) → IsTermAt sig (term_counts lists) k n t
      → is_of f t ≡ false
  not-of k n f default_constant other h = refl
  not-of k n f (application g ys) other h = ne_eqb f g (λ e. other (ap (λ h. sig.into_of h) e ∙ h.1))

  is_of-application : (f : ℕ) (xs : List ℕ) (t : PlainTerm) → t ≡ application f xs → is_of f t ≡ true
  is_of-application f xs t e = ap (is_of f) e ∙ eq-eqb f f refl

  pub firsts-next : (k : ℕ) (ts : List PlainTerm) (firsts firsts' : List ℕ) → k < sig.sorts
      → AreFirstsBelow sig lists k firsts → ts ≡ terms_at lists k → firsts' ≡ noted 0 ts firsts
      → AreFirstsBelow sig lists (k + 1) firsts'
  firsts-next k ts firsts firsts' lt h e made = record {
    long = ap length made ∙ length-noted 0 ts firsts ∙ h.long;
    each = λ q n f xs less inside is.
        ap (λ fs. get_or fs f 0) (made ∙ ap (λ us. noted 0 us firsts) e)
        ∙ ⊎_elim
        (λ before.
        let into = is-application q n f xs (omega (arith, before, lt)) inside is in
        noted-other 0 f (terms_at lists k) firsts
        (λ i within. not-of k i f (term_at lists k i)
        (λ here. let same : q ≡ k = sym into.1 ∙ here in absurd (omega (arith, same, before)))
        (term-into k i lt within))
        ∙ h.each q n f xs before inside is)
        (λ last.
        let here : q ≡ k = omega (arith, last, less) in
        let inside' : n < length (terms_at lists k) = subst (λ p. n < length (terms_at lists p)) here inside in
        let is' : term_at lists k n ≡ application f xs = subst (λ p. term_at lists p n ≡ application f xs) here is in
        let into = is-application k n f xs lt inside' is' in
        let e' = noted-first 0 f n (terms_at lists k) firsts (subst (λ m. f < m) (sym h.long) into.0) inside'
        (is_of-application f xs (term_at lists k n) is') in
        let zero : 0 + first_place lists k f ≡ first_place lists k f = omega arith in
        e' ∙ zero ∙ ap (λ p. first_place lists p f) (sym here))
        (cases_lt q k);
  }

  pub firsts-all : (k : ℕ) (firsts : List ℕ) → sig.sorts ≡ k → AreFirstsBelow sig lists k firsts
      → AreFirsts lists firsts
  firsts-all k firsts all h q n f xs lt is =
      let inside : n < length (terms_at lists q) = subst (λ m. n < m) (count-at lists q) lt in
      let known : q < sig.sorts = subst (λ m. q < m) closed.sorts (known-from lists q n inside) in
      let into = is-application q n f xs known inside is in
      (subst (λ m. f < m) (sym h.long) into.0, h.each q n f xs (subst (λ m. q < m) all known) inside is)
    where
      known-from : (ls : Lists) (q n : ℕ) → n < length (terms_at ls q) → q < length ls
      known-from [] q n lt = absurd (omega arith)
      known-from (l ∷ ls) zero n lt = omega arith
      known-from (l ∷ ls) (suc q) n lt = let h = known-from ls q n lt in omega (arith, h)
