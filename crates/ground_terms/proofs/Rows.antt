-- The rows of the functions into each sort, and what their terms are.
use Rattle.std.proofs.Common.{◌≡◌, ℕ, zero, suc, ◌+◌, ◌^◌, ◌<◌, ◌&&◌, not, Bool, true, false, ◌==◌, cond, List, [], ◌∷◌}
use Rattle.std.proofs.Common.{◌++◌}
use Rattle.std.proofs.Common.{length, get_or, set, take, map, flat_map, refl, sym, ap, ◌∙◌, subst, arith}
use Rattle.std.proofs.Common.{⊎_elim}
use Rattle.std.specs.Prelude.{All}
use Rattle.std.proofs.lemmas.Bool.{cases_Bool, cond-true, cond-false, eqb-true, eqb-false, ne_eqb, false≢true}
use Rattle.std.proofs.lemmas.List.{take_more, map-append, map-set, append-nil, length-set, length-map, get_or-set_same}
use Rattle.std.proofs.lemmas.List.{get_or-set_other, get_or-map, flat_map_more}
use Rattle.std.proofs.lemmas.Grind.{flat_map-append}
use Rattle.fol_sig.specs.declared.FunId.{FunId}
use Rattle.fol_sig.specs.Symbols.{Symbols}
use Rattle.fol_sig.specs.Tables.{tuple_count}
use Rattle.fol_sig.specs.Tuples.{join_below, tuples, TuplesAreNumbered}
use Rattle.ground_terms.specs.Terms.{PlainTerm, default_constant, application, is_empty, constants_into}
use Rattle.ground_terms.specs.Terms.{applications_into, or_default, terms_into}
use Rattle.ground_terms.specs.FunctionRows.{functions_into, AreFunctionRows, own_constant, own_applications}
use Rattle.ground_terms.proofs.Every.{Every, Every-at, Every-join_below}
use Rattle.ground_terms.proofs.Counted.{applications-few}

abbrev pub number : FunId → ℕ
number f = f.0

-- what the functions of a row give is what all functions give, where those into other sorts give nothing
pub row-pieces : {X : Type 0} (sig : Symbols) (k n : ℕ) (test : ℕ → Bool) (piece : ℕ → List X)
    → flat_map (λ f. cond (test f) (piece f) []) (functions_into sig n k)
    ≡ join_below n (λ f. cond (sig.into_of f == k && test f) (piece f) [])
row-pieces sig k zero test piece = refl
row-pieces {X} sig k (suc n) test piece =
    let g : ℕ → List X = λ f. cond (test f) (piece f) [] in
    flat_map-append g (functions_into sig n k) (cond (sig.into_of n == k) (n ∷ []) [])
    ∙ ap (λ zs. zs ++ flat_map g (cond (sig.into_of n == k) (n ∷ []) [])) (row-pieces sig k n test piece)
    ∙ ap (λ zs. join_below n (λ f. cond (sig.into_of f == k && test f) (piece f) []) ++ zs)
    (one (sig.into_of n == k))
  where
    one : (b : Bool) → flat_map (λ f. cond (test f) (piece f) []) (cond b (n ∷ []) []) ≡ cond (b && test n) (piece n) []
    one true = append-nil (cond (test n) (piece n) [])
    one false = refl

-- a row has functions into its sort alone
pub row-into : (sig : Symbols) (n k : ℕ) → Every (λ f. (f < n) × (sig.into_of f ≡ k)) (functions_into sig n k)
row-into sig n k =
    Every-join_below (λ f. (f < n) × (sig.into_of f ≡ k)) n (λ f. cond (sig.into_of f == k) (f ∷ []) [])
    (λ f lt. one f lt (sig.into_of f == k) refl)
  where
    one : (f : ℕ) → f < n → (b : Bool) → (sig.into_of f == k) ≡ b
        → Every (λ f. (f < n) × (sig.into_of f ≡ k)) (cond b (f ∷ []) [])
    one f lt true e = ((lt, eqb-true (sig.into_of f) k e), tt)
    one f lt false e = tt

-- one more function of a row that is gone through
pub pieces-more : {X : Type 0} (g : ℕ → List X) (fs : List FunId) (before all all' : List X) (i : ℕ) (d : FunId)
    → i < length fs → all ≡ before ++ flat_map g (map number (take i fs)) → all' ≡ all ++ g (number (get_or fs i d))
    → all' ≡ before ++ flat_map g (map number (take (i + 1) fs))
pieces-more g fs before all all' i d lt h e =
    e ∙ ap (λ zs. zs ++ g (number (get_or fs i d))) h
    ∙ flat_map_more g before (map number (take i fs)) (number (get_or fs i d))
    ∙ ap (λ zs. before ++ flat_map g zs)
    (sym (map-append number (take i fs) (get_or fs i d ∷ [])) ∙ ap (map number) (sym (take_more fs i d lt)))

pub at-number : (P : ℕ → Type 0) (fs : List FunId) (i : ℕ) (d : FunId) → All P (map number fs) → i < length fs
    → P (number (get_or fs i d))
at-number P fs i d all lt =
    subst P (get_or-map number fs i d 0 lt) (all i 0 (subst (λ n. i < n) (sym (length-map fs number)) lt))

-- one more function
pub rows-next : (sig : Symbols) (n k : ℕ) (rows rows' : List (List ℕ)) → AreFunctionRows sig n rows
    → k ≡ sig.into_of n → k < sig.sorts → rows' ≡ set rows k (get_or rows k [] ++ n ∷ [])
    → AreFunctionRows sig (n + 1) rows'
rows-next sig n k rows rows' h is lt e =
    let row = get_or rows k [] ++ n ∷ [] in
    let next : suc n ≡ n + 1 = omega arith in
    record {
      sorts = ap length e ∙ length-set rows k row ∙ h.sorts;
      each = λ q less.
          ap (λ rs. get_or rs q []) e
          ∙ ⊎_elim
          (λ yes.
          let same : sig.into_of n ≡ q = eqb-true (sig.into_of n) q yes in
          let here : q ≡ k = sym same ∙ sym is in
          ap (λ p. get_or (set rows k row) p []) here
          ∙ get_or-set_same rows k row [] (subst (λ m. k < m) (sym h.sorts) lt)
          ∙ ap (λ p. get_or rows p [] ++ n ∷ []) (sym here) ∙ ap (λ zs. zs ++ n ∷ []) (h.each q less)
          ∙ ap (λ zs. functions_into sig n q ++ zs) (sym (cond-true (sig.into_of n == q) (n ∷ []) [] yes)))
          (λ off.
          get_or-set_other rows k q row [] (λ here. eqb-false (sig.into_of n) q off (sym is ∙ sym here))
          ∙ h.each q less ∙ sym (append-nil (functions_into sig n q))
          ∙ ap (λ zs. functions_into sig n q ++ zs) (sym (cond-false (sig.into_of n == q) (n ∷ []) [] off)))
          (cases_Bool (sig.into_of n == q))
          ∙ ap (λ m. functions_into sig m q) next;
    }

pub all-known : (sig : Symbols) (n k : ℕ) (fs : List ℕ) → fs ≡ functions_into sig n k → All (λ f. f < n) fs
all-known sig n k fs e i d lt =
    (Every-at (λ f. (f < n) × (sig.into_of f ≡ k)) fs i d
    (subst (Every (λ f. (f < n) × (sig.into_of f ≡ k))) (sym e) (row-into sig n k)) lt).0

-- where a sort has few terms, each function into it has few applications
pub all-few : TuplesAreNumbered → (sig : Symbols) (counts : List ℕ) (k : ℕ) (fs : List ℕ)
    → fs ≡ functions_into sig sig.functions k → length (terms_into sig counts k) < 2 ^ 32
    → All (λ f. tuple_count counts (sig.from_of f) < 2 ^ 32) fs
all-few numbered sig counts k fs e few i d lt =
    let h = Every-at (λ f. (f < sig.functions) × (sig.into_of f ≡ k)) fs i d
    (subst (Every (λ f. (f < sig.functions) × (sig.into_of f ≡ k))) (sym e) (row-into sig sig.functions k)) lt in
    let least = applications-few numbered sig counts k (get_or fs i d) h.0 h.1 in
    omega (arith, least, few)

-- the terms of a row's functions are those of its sort
pub row-terms : (sig : Symbols) (counts : List ℕ) (k : ℕ) (fs : List ℕ) → fs ≡ functions_into sig sig.functions k
    → flat_map (own_constant sig) fs ++ flat_map (own_applications sig counts) fs
    ≡ constants_into sig k ++ applications_into sig counts k
row-terms sig counts k fs e =
    ap (λ row. flat_map (own_constant sig) row ++ flat_map (own_applications sig counts) row) e
    ∙ ap (λ ts. ts ++ flat_map (own_applications sig counts) (functions_into sig sig.functions k))
    (row-pieces sig k sig.functions (λ f. is_empty (sig.from_of f)) (λ f. application f [] ∷ []))
    ∙ ap (λ ts. constants_into sig k ++ ts)
    (row-pieces sig k sig.functions (λ f. not (is_empty (sig.from_of f)))
    (λ f. map (application f) (tuples counts (sig.from_of f))))

-- a row in the memory, with one more function
pub row-pushed : {V : Type 0} (items : V → List FunId) (rows : List V) (k : ℕ) (row row' d : V) (f : FunId)
    → k < length rows → row ≡ get_or rows k d → items row' ≡ items row ++ f ∷ []
    → map (λ v. map number (items v)) (set rows k row')
    ≡ set (map (λ v. map number (items v)) rows) k
    (get_or (map (λ v. map number (items v)) rows) k [] ++ number f ∷ [])
row-pushed items rows k row row' d f lt is pushed =
    map-set (λ v. map number (items v)) rows k row'
    ∙ ap (set (map (λ v. map number (items v)) rows) k)
    (ap (map number) pushed ∙ map-append number (items row) (f ∷ [])
    ∙ ap (λ v. map number (items v) ++ number f ∷ []) is
    ∙ ap (λ fs. fs ++ number f ∷ []) (sym (get_or-map (λ v. map number (items v)) rows k d [] lt)))

abbrev pub is_none : List PlainTerm → Bool
is_none [] = true
is_none (t ∷ ts) = false

pub is_none-length : (ts : List PlainTerm) → is_none ts ≡ (length ts == 0)
is_none-length [] = refl
is_none-length (t ∷ ts) = sym (ne_eqb (suc (length ts)) 0 (λ e. absurd (omega arith)))

-- a list of terms, and the default constant where there are none
pub some-terms-made : (b : Bool) (ts : List PlainTerm) → b ≡ is_none ts → b ≡ false → ts ≡ or_default ts
some-terms-made b [] e f = absurd (false≢true (sym f ∙ e))
some-terms-made b (t ∷ ts) e f = refl

pub no-terms-made : (b : Bool) (ts : List PlainTerm) → b ≡ is_none ts → b ≡ true
    → ts ++ default_constant ∷ [] ≡ or_default ts
no-terms-made b [] e h = refl
no-terms-made b (t ∷ ts) e h = absurd (false≢true (sym e ∙ h))
