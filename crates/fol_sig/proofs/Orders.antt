-- Orders of sorts, one more sort at a time.
use Rattle.std.proofs.Common.{◌≡◌, ℕ, suc, ◌<◌, Bool, true, false, ◌==◌, ◌||◌, List, [], ◌∷◌, ◌++◌, length, get_or, set}
use Rattle.std.proofs.Common.{refl, sym, ap, ◌∙◌, subst, arith, ⊎_elim}
use Rattle.std.specs.Prelude.{All, cond}
use Rattle.std.proofs.lemmas.List.{length-set, get_or-set_same, get_or-set_other}
use Rattle.std.proofs.lemmas.List.Sums.{sum_by-set}
use Rattle.std.proofs.lemmas.List.Elements.{All-push}
use Rattle.std.proofs.lemmas.Bool.{cond-false, cases_eq, or_parts, or_from, or_right, eq-eqb, ne_eqb}
use Rattle.fol_sig.specs.Symbols.{Symbols}
use Rattle.fol_sig.specs.Strata.{has, AreInOrder, IsStrata}
use Rattle.fol_sig.specs.Passes.{is_set, IsReady, IsSoFar, left_over}

All-imp : (P Q : ℕ → Type 0) (ks : List ℕ) → ((k : ℕ) → P k → Q k) → All P ks → All Q ks
All-imp P Q ks f h i d lt = f (get_or ks i d) (h i d lt)

All-tail : (P : ℕ → Type 0) (k : ℕ) (ks : List ℕ) → All P (k ∷ ks) → All P ks
All-tail P k ks h i d lt = h (suc i) d (omega arith)

or_nil : (b : Bool) → b || false ≡ true → b ≡ true
or_nil true h = refl
or_nil false h = h

or_turn : (a b c : Bool) → a || (b || c) ≡ true → (b || a) || c ≡ true
or_turn true true c h = refl
or_turn true false c h = refl
or_turn false true c h = refl
or_turn false false c h = h

pub has-push : (xs : List ℕ) (k q : ℕ) → has (xs ++ k ∷ []) q ≡ has xs q || (k == q)
has-push [] k q = elim (k == q) as (λ b. b || false ≡ b) [ true ↦ refl | false ↦ refl ]
has-push (x ∷ xs) k q = ap (λ b. x == q || b) (has-push xs k q) ∙ turn (x == q) (has xs q) (k == q)
  where
    turn : (a b c : Bool) → a || (b || c) ≡ (a || b) || c
    turn true b c = refl
    turn false b c = refl

-- a sort that is ready goes behind the others
pub order-push : (sig : Symbols) (xs done : List ℕ) (k : ℕ) → AreInOrder sig done xs → has done k ≡ false
    → has xs k ≡ false
    → ((f : ℕ) → f < sig.functions → sig.into_of f ≡ k → All (λ q. (has done q || has xs q) ≡ true) (sig.from_of f))
    → AreInOrder sig done (xs ++ k ∷ [])
order-push sig [] done k h new new2 ready = (
  new,
  (λ f lf e. All-imp (λ q. (has done q || false) ≡ true) (λ q. has done q ≡ true) (sig.from_of f)
      (λ q. or_nil (has done q)) (ready f lf e)),
  tt,
)
order-push sig (x ∷ xs) done k h new new2 ready =
    let parts = or_parts (x == k) (has xs k) new2 in (
      h.0,
      h.1,
      order-push sig xs (x ∷ done) k h.2 (or_from (x == k) (has done k) parts.0 new) parts.1 (λ f lf e.
          All-imp (λ q. (has done q || (x == q || has xs q)) ≡ true) (λ q. ((x == q || has done q) || has xs q) ≡ true)
          (sig.from_of f) (λ q. or_turn (has done q) (x == q) (has xs q)) (ready f lf e)),
    )

pub so_far-none : (sig : Symbols) (flags : List Bool) → length flags ≡ sig.sorts → ((k : ℕ) → is_set flags k ≡ false)
    → IsSoFar sig flags []
so_far-none sig flags len none =
    record { each = len; same = none; sorts = λ i d lt. absurd (omega arith); ordered = tt }

pub so_far-push : (sig : Symbols) (flags flags' : List Bool) (order order' : List ℕ) (k : ℕ) → IsSoFar sig flags order
    → k < sig.sorts → is_set flags k ≡ false → IsReady sig flags k → flags' ≡ set flags k true
    → order' ≡ order ++ k ∷ [] → IsSoFar sig flags' order'
so_far-push sig flags flags' order order' k h lt new ready is_flags is_order =
    let room : k < length flags = subst (λ n. k < n) (sym h.each) lt in
    let next : IsSoFar sig (set flags k true) (order ++ k ∷ []) = record {
      each = length-set flags k true ∙ h.each;
      same = λ q.
          ⊎_elim
          (λ is. subst (λ m. is_set (set flags k true) m ≡ has (order ++ k ∷ []) m) (sym is)
          (get_or-set_same flags k true false room
          ∙ sym (has-push order k k ∙ or_right (has order k) (k == k) (eq-eqb k k refl))))
          (λ other. get_or-set_other flags k q true false other ∙ h.same q
          ∙ sym (has-push order k q ∙ ap (λ b. has order q || b) (ne_eqb k q (λ e. other (sym e)))
          ∙ or_none (has order q)))
          (cases_eq q k);
      sorts = All-push (λ k. k < sig.sorts) order k h.sorts lt;
      ordered = order-push sig order [] k h.ordered refl (sym (h.same k) ∙ new)
          (λ f lf e. All-imp (λ q. is_set flags q ≡ true) (λ q. has order q ≡ true) (sig.from_of f)
          (λ q d. sym (h.same q) ∙ d) (ready f lf e));
    } in
    subst (λ fs. IsSoFar sig fs order') (sym is_flags) (subst (IsSoFar sig (set flags k true)) (sym is_order) next)
  where
    or_none : (b : Bool) → b || false ≡ b
    or_none true = refl
    or_none false = refl

pub so_far-all : (sig : Symbols) (flags : List Bool) (order : List ℕ) → IsSoFar sig flags order
    → ((k : ℕ) → k < sig.sorts → is_set flags k ≡ true) → IsStrata sig order
so_far-all sig flags order h every =
    record { sorts = h.sorts; whole = λ k lt. sym (h.same k) ∙ every k lt; ordered = h.ordered }

-- fewer sorts are left
pub fewer : (flags : List Bool) (k : ℕ) → k < length flags → is_set flags k ≡ false
    → left_over (set flags k true) < left_over flags
fewer flags k lt new =
    let e = sum_by-set {X = Bool} (λ b. cond b 0 1) flags k true false lt in
    let one : cond (get_or flags k false) 0 1 ≡ 1 = cond-false {A = ℕ} (get_or flags k false) 0 1 new in
    omega (arith, e, one)
