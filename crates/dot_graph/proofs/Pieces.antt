-- Pieces of text, one behind another.
use Rattle.std.proofs.Common.{◌≡◌, ℕ, ◌+◌, ◌-◌, ◌≤◌, List, [], ◌∷◌, ◌++◌, length, take, drop, get_or}
use Rattle.std.proofs.Common.{append_assoc, ap, sym, subst, ◌∙◌, add-one, arith}
use Rattle.std.proofs.lemmas.List.{take_all}
use Rattle.std.specs.Prelude.{IsTrue}
use Rattle.std.specs.List.{AllByRecursion}
use Rattle.fol_sig.specs.Tuples.{join_below}
use Rattle.told_text.specs.Written.{Written, Wrote}

-- one more of the lists of the numbers below n
pub one_written : (n : ℕ) (f : ℕ → List ℕ) (start old new : Written) → Wrote start old (join_below n f)
    → Wrote old new (f n) → Wrote start new (join_below (n + 1) f)
one_written n f start old new before more whole =
    let m = more whole in
    let b = before m.0 in
    (b.0, rw (m.1, b.1, add-one) (simp append_assoc))

-- a piece, and behind it another
pub both_written : (x y : List ℕ) (start mid end : Written) → Wrote start mid x → Wrote mid end y
    → Wrote start end (x ++ y)
both_written x y start mid end first second whole =
    let s = second whole in
    let f = first s.0 in
    (f.0, rw (s.1, f.1) (append_assoc start.text x y))

-- the first of a list, and the others, as a walk along the list has them
pub first-others : {A : Type 0} (xs : List A) (d : A) → 1 ≤ length xs
    → xs ≡ get_or xs 0 d ∷ take (length xs - 1) (drop 1 xs)
first-others [] d le = absurd (omega (arith, le))
first-others (x ∷ xs) d le = ap (λ ys. x ∷ ys) (sym (take_all (length (x ∷ xs) - 1) xs (omega arith)))

-- a turn of such a walk: what the first makes is written, and what the others make is left
pub next_written : {A : Type 0} (f : List A → List ℕ) (piece : List ℕ) (xs : List A) (start old new : Written)
    (all : List ℕ) → f xs ≡ piece ++ f (take (length xs - 1) (drop 1 xs)) → Wrote old new piece
    → (IsTrue old.whole → IsTrue start.whole × (old.text ++ f xs ≡ all))
    → IsTrue new.whole → IsTrue start.whole × (new.text ++ f (take (length xs - 1) (drop 1 xs)) ≡ all)
next_written f piece xs start old new all is more before whole =
    let m = more whole in
    let b = before m.0 in
    let rest = f (take (length xs - 1) (drop 1 xs)) in
    (b.0, ap (λ t. t ++ rest) m.1 ∙ append_assoc old.text piece rest ∙ ap (λ t. old.text ++ t) (sym is) ∙ b.1)

-- the same of a walk that has the first as an item
pub first_and_rest : {A : Type 0} (xs : List A) (x : A) → 1 ≤ length xs → x ≡ get_or xs 0 x
    → xs ≡ x ∷ take (length xs - 1) (drop 1 xs)
first_and_rest xs x le is =
    first-others xs x le ∙ ap (λ y. y ∷ take (length xs - 1) (drop 1 xs)) (sym is)

pub known_behind : {A : Type 0} (P : A → Type 0) (xs : List A) → AllByRecursion P xs
    → AllByRecursion P (take (length xs - 1) (drop 1 xs))
known_behind P [] all = tt
known_behind P (x ∷ xs) all =
    subst (AllByRecursion P) (sym (take_all (length (x ∷ xs) - 1) xs (omega arith))) all.1

-- a piece is written, of what is told from the beginning
pub text_turn : (left rest whole piece : List ℕ) (old new : Written) → left ≡ piece ++ rest → Wrote old new piece
    → (IsTrue old.whole → old.text ++ left ≡ whole) → IsTrue new.whole → new.text ++ rest ≡ whole
text_turn left rest whole piece old new is more before written =
    let m = more written in
    ap (λ t. t ++ rest) m.1 ∙ append_assoc old.text piece rest ∙ ap (λ t. old.text ++ t) (sym is) ∙ before m.0
