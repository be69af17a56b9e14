-- Loops that take one element after another of a slice.
use Rattle.std.proofs.Common.{◌≡◌, ℕ, ◌-◌, ◌≤◌, List, [], ◌∷◌, ◌++◌, length, get_or, take, drop, map, Option, Some, None}
use Rattle.std.proofs.Common.{IfSome, IsSomeAnd, sym, ap, ◌∙◌, append_assoc, arith}
use Rattle.std.proofs.lemmas.List.{take_all}
use Rattle.std.specs.Prelude.{encode_utf8, encode_utf8_all}
use Rattle.serde_json.specs.Data.{Data}

-- the first, and the others
pub first-others : {A : Type 0} (xs : List A) (d : A) → 1 ≤ length xs
    → xs ≡ get_or xs 0 d ∷ take (length xs - 1) (drop 1 xs)
first-others [] d h = absurd (omega (arith, h))
first-others (x ∷ xs) d h = ap (λ ys. x ∷ ys) (sym (take_all (length (x ∷ xs) - 1) xs (omega arith)))

-- one more value at the end of a list that is built, made of the first
pub value_turn : {A : Type 0} (f : A → Data) (xs : List A) (d : A) (all : List Data) (a b : Option (List Data))
    → 1 ≤ length xs → IfSome b (λ new. IsSomeAnd a (λ old. new ≡ old ++ f (get_or xs 0 d) ∷ []))
    → IfSome a (λ ds. ds ++ map f xs ≡ all)
    → IfSome b (λ ds. ds ++ map f (take (length xs - 1) (drop 1 xs)) ≡ all)
value_turn f xs d all a None h p q = tt
value_turn f xs d all None (Some z) h p q = absurd p
value_turn f xs d all (Some y) (Some z) h p q =
    let rest = take (length xs - 1) (drop 1 xs) in
    ap (λ ds. ds ++ map f rest) p ∙ append_assoc y (f (get_or xs 0 d) ∷ []) (map f rest)
    ∙ ap (λ ys. y ++ map f ys) (sym (first-others xs d h)) ∙ q

-- one more character at the end of a text, the first that is left
pub character_turn : (xs all old new : List ℕ) (ch : ℕ) → 1 ≤ length xs → ch ≡ get_or xs 0 0
    → new ≡ old ++ encode_utf8 ch → old ++ encode_utf8_all xs ≡ all
    → new ++ encode_utf8_all (take (length xs - 1) (drop 1 xs)) ≡ all
character_turn [] all old new ch h is p q = absurd (omega (arith, h))
character_turn (x ∷ xs) all old new ch h is p q =
    let behind = take_all (length (x ∷ xs) - 1) xs (omega arith) in
    rw (behind, p, is) (append_assoc old (encode_utf8 x) (encode_utf8_all xs) ∙ q)
