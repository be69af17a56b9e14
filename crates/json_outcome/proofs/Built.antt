-- An object that is built step by step.
use Rattle.std.proofs.Common.{◌≡◌, ℕ, List, [], ◌∷◌, ◌++◌, Option, Some, None, Result, Ok, Err, IfOk, IfSome, IsSomeAnd}
use Rattle.std.proofs.Common.{IsOkAnd, refl, ap, ◌∙◌}
use Rattle.serde_json.specs.Data.{Data, Members}
use Rattle.json_values.specs.Values.{IsBuiltBy, set_each, with_member}

set_more : (ms ns : List (List ℕ × Data)) (o : Members) → set_each (set_each o ms) ns ≡ set_each o (ms ++ ns)
set_more [] ns o = refl
set_more (m ∷ ms) ns o = set_more ms ns (with_member o m.0 m.1)

-- these members, and then those
pub joined : (a b c : Option Members) (ms ns : List (List ℕ × Data)) → IsBuiltBy a ms b → IsBuiltBy b ns c
    → IsBuiltBy a (ms ++ ns) c
joined a b None ms ns p q = tt
joined a None (Some z) ms ns p q = absurd q
joined None (Some y) (Some z) ms ns p q = absurd p
joined (Some x) (Some y) (Some z) ms ns p q = q ∙ (ap (λ o. set_each o ns) p ∙ set_more ms ns x)

-- a member that a call gave
pub given : {E : Type 0} (a b : Option Members) (v : Result Data E) (name : List ℕ) (x : Data) → IfOk v (λ j. j ≡ x)
    → IfSome b (λ new. IsSomeAnd a (λ old. IsOkAnd v (λ d. new ≡ with_member old name d)))
    → IsBuiltBy a ((name, x) ∷ []) b
given a None v name x p q = tt
given None (Some z) v name x p q = absurd q
given (Some y) (Some z) (Err e) name x p q = absurd q
given (Some y) (Some z) (Ok d) name x p q = q ∙ ap (with_member y name) p
