-- Pieces of text, one behind another, and the symbols of a structure.
use Rattle.std.proofs.Common.{◌≡◌, ℕ, zero, suc, ◌+◌, ◌-◌, ◌<◌, ◌≤◌, List, [], ◌∷◌, ◌++◌, length, take, drop, get_or}
use Rattle.std.proofs.Common.{append_assoc, add-one, arith, ap, sym, subst, ◌∙◌}
use Rattle.std.proofs.lemmas.List.{take_more, take_all}
use Rattle.std.specs.Prelude.{IsTrue}
use Rattle.std.specs.List.{AllByRecursion, flat_map}
use Rattle.base.proofs.Lists.{all_append, all_push}
use Rattle.fol_sig.specs.Tables.{Tables}
use Rattle.told_text.specs.Written.{Written, Wrote, Needs}
use Rattle.fol_sig.specs.Tuples.{join_below}
use Rattle.fol_sig.specs.declared.symbol.Symbol.{Symbol}
use Rattle.fol_sig.specs.SymbolTables.{HasSymbol}
use Rattle.told_states.specs.SymbolText.{relation_symbol, function_symbol, symbols_of}

-- one more of the lists of the numbers below n
pub one_more : {A : Type 0} (n : ℕ) (f : ℕ → List A) (x y w : List A) → x ≡ w ++ join_below n f → y ≡ x ++ f n
    → y ≡ w ++ join_below (n + 1) f
one_more n f x y w p q = rw (q, p, add-one) (simp append_assoc)

-- the same of a text
pub one_written : (n : ℕ) (f : ℕ → List ℕ) (start old new : Written) → Wrote start old (join_below n f)
    → Wrote old new (f n) → Wrote start new (join_below (n + 1) f)
one_written n f start old new before more whole =
    let m = more whole in
    let b = before m.0 in
    (b.0, one_more n f old.text new.text start.text b.1 m.1)

-- what F makes of a piece that was written apart
pub piece_written : (F : List ℕ → List ℕ) (start noted new fresh made : Written) (bytes piece : List ℕ)
    → fresh.text ≡ [] → Wrote fresh made piece → Needs start noted made → bytes ≡ made.text
    → Wrote noted new (F bytes) → Wrote start new (F piece)
piece_written F start noted new fresh made bytes piece none written needs shown more whole =
    let m = more whole in
    let n = needs m.0 in
    let w = written n.0 in
    let same : bytes ≡ piece = shown ∙ w.1 ∙ ap (λ t. t ++ piece) none in
    (n.1, m.1 ∙ ap (λ t. t ++ F bytes) n.2 ∙ ap (λ t. start.text ++ F t) same)

-- one more element of a list is copied
pub one_copied : (xs made new : List ℕ) (n x : ℕ) → n < length xs → x ≡ get_or xs n 0 → made ≡ take n xs
    → new ≡ made ++ x ∷ [] → new ≡ take (n + 1) xs
one_copied xs made new n x lt is before more = rw (more, before, is) (sym (take_more xs n 0 lt))

-- the elements behind the first, as a walk along a list has them
abbrev after : {A : Type 0} → List A → List A
after xs = take (length xs - 1) (drop 1 xs)

after_cons : {A : Type 0} (x : A) (xs : List A) → after (x ∷ xs) ≡ xs
after_cons x xs = let e : suc (length xs) - 1 ≡ length xs = omega arith in rw e (take_all (length xs) xs (omega arith))

-- A turn of such a walk: what the first makes is written, and what the others make is left. The walk writes by g, which
-- is f.
pub next_written : {A : Type 0} (f g : A → List ℕ) (xs : List A) (d : A) (start old new : Written) (all : List ℕ)
    → g ≡ f → 1 ≤ length xs → Wrote old new (g (get_or xs 0 d))
    → (IsTrue old.whole → IsTrue start.whole × (old.text ++ flat_map f xs ≡ all))
    → IsTrue new.whole → IsTrue start.whole × (new.text ++ flat_map f (take (length xs - 1) (drop 1 xs)) ≡ all)
next_written {A} f g [] d start old new all same some more before whole = absurd (omega (arith, some))
next_written {A} f g (x ∷ xs) d start old new all same some more before whole =
    let m = more whole in
    let b = before m.0 in (
      b.0,
      ap (λ ys. new.text ++ flat_map f ys) (after_cons x xs) ∙ ap (λ t. t ++ flat_map f xs) m.1
          ∙ ap (λ (h : A → List ℕ). (old.text ++ h x) ++ flat_map f xs) same
          ∙ append_assoc old.text (f x) (flat_map f xs) ∙ b.1,
    )

pub known_after : {A : Type 0} (P : A → Type 0) (xs : List A) → AllByRecursion P xs
    → AllByRecursion P (take (length xs - 1) (drop 1 xs))
known_after P [] all = tt
known_after P (x ∷ xs) all = subst (AllByRecursion P) (sym (after_cons x xs)) all.1

all_below : (P : Symbol → Type 0) (f : ℕ → Symbol) (n : ℕ) → ((k : ℕ) → k < n → P (f k))
    → AllByRecursion P (join_below n (λ k. f k ∷ []))
all_below P f zero each = tt
all_below P f (suc n) each =
    all_push P (join_below n (λ k. f k ∷ [])) (f n) (all_below P f n (λ k lt. each k (omega (arith, lt))))
    (each n (omega arith))

-- each of them is one
pub all_known : (s : Tables) → AllByRecursion (HasSymbol s) (symbols_of s)
all_known s =
    all_append (HasSymbol s) _ _ (all_below (HasSymbol s) relation_symbol _ (λ k lt. lt))
    (all_below (HasSymbol s) function_symbol _ (λ k lt. lt))
