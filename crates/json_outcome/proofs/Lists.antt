-- A list that is built step by step.
use Rattle.std.proofs.Common.{◌≡◌, ◌-◌, ◌≤◌, List, [], ◌∷◌, ◌++◌, length, get_or, take, drop, Option, Some, None}
use Rattle.std.proofs.Common.{Result, Ok, Err, IfOk, IfSome, IsSomeAnd, IsOkAnd, sym, ap, ◌∙◌, subst, append_assoc}
use Rattle.std.proofs.Common.{arith}
use Rattle.std.proofs.lemmas.List.{take_all}
use Rattle.std.specs.List.{AllByRecursion}
use Rattle.serde_json.specs.Data.{Data}
use Rattle.json_values.specs.Values.{IsListedBy}

behind_first : {A : Type 0} (x : A) (xs : List A) → take (length (x ∷ xs) - 1) (drop 1 (x ∷ xs)) ≡ xs
behind_first x xs = take_all (length (x ∷ xs) - 1) xs (omega arith)

-- the first of a list, and the others, as a walk along the list has them
pub first_and_rest : {A : Type 0} (xs : List A) (x : A) → 1 ≤ length xs → x ≡ get_or xs 0 x
    → xs ≡ x ∷ take (length xs - 1) (drop 1 xs)
first_and_rest [] x le is = absurd (omega (arith, le))
first_and_rest (y ∷ ys) x le is = ap (λ z. z ∷ ys) (sym is) ∙ ap (λ zs. x ∷ zs) (sym (behind_first y ys))

pub known_behind : {A : Type 0} (P : A → Type 0) (xs : List A) → AllByRecursion P xs
    → AllByRecursion P (take (length xs - 1) (drop 1 xs))
known_behind P [] all = tt
known_behind P (x ∷ xs) all = subst (AllByRecursion P) (sym (behind_first x xs)) all.1

-- a turn of such a walk: the value of the first is pushed
pub value_turn : {E : Type 0} (left rest whole : List Data) (x : Data) (a b : Option (List Data)) (v : Result Data E)
    → left ≡ x ∷ rest → IfOk v (λ d. d ≡ x) → IfSome b (λ new. IsSomeAnd a (λ old. IsOkAnd v (λ d. new ≡ old ++ d ∷ [])))
    → IfSome a (λ ds. ds ++ left ≡ whole) → IfSome b (λ ds. ds ++ rest ≡ whole)
value_turn left rest whole x a None v is p q r = tt
value_turn left rest whole x None (Some z) v is p q r = absurd q
value_turn left rest whole x (Some y) (Some z) (Err e) is p q r = absurd q
value_turn left rest whole x (Some y) (Some z) (Ok d) is p q r =
    ap (λ ds. ds ++ rest) (q ∙ ap (λ e. y ++ e ∷ []) p) ∙ append_assoc y (x ∷ []) rest ∙ ap (λ ds. y ++ ds) (sym is) ∙ r

-- the same of any number of values
pub listed_turn : (left front rest whole : List Data) (a b : Option (List Data)) → left ≡ front ++ rest
    → IsListedBy a front b → IfSome a (λ ds. ds ++ left ≡ whole) → IfSome b (λ ds. ds ++ rest ≡ whole)
listed_turn left front rest whole a None is p q = tt
listed_turn left front rest whole None (Some z) is p q = absurd p
listed_turn left front rest whole (Some y) (Some z) is p q =
    ap (λ ds. ds ++ rest) p ∙ append_assoc y front rest ∙ ap (λ ds. y ++ ds) (sym is) ∙ q
